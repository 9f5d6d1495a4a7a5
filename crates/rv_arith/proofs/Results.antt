-- Each result is a word: a number below 2 ^ 32.
use Rattle.std.proofs.Common.{ℕ, zero, suc, ◌+◌, ◌*◌, ◌-◌, ◌/◌, ◌%◌, ◌^◌, ◌<◌, ◌≤◌, Bool, true, false, cond, eqb, inl, inr, lit<, arith}
use Rattle.std.specs.Prelude.{ℤ, pos, neg_ℤ, negsuc, ◌*ℤ◌, int_div, int_rem, int_lt, nat_lt, unsigned_abs}
use Rattle.std.specs.Int.{w32, w64, cast_unsigned, int_shr}
use Rattle.std.proofs.lemmas.Int.{fits_signed_mul}
use Rattle.std.proofs.lemmas.Bool.{cases_lt, lt-ltb, le-ltb}
use lib.Signed.{mag, mag_rem, mag_shr, nat_abs-le}
use Rattle.rv_arith.proofs.Halves.{high_fits}
use Rattle.std.proofs.Math.Nat.{div-le_self, mod-le}
use Rattle.std.proofs.lemmas.Nat.{mul-lt}
use Rattle.rv_arith.specs.Arithmetic.{signed, bits, add, sub, sll, srl, sra, slt, sltu, mul, mulh, mulhsu, mulhu, div, divu, rem, remu}

low : (n : ℕ) → n % 2 ^ 32 < 2 ^ 32
low n = omega arith

pub bits_lt : (z : ℤ) → mag z < 2 ^ 32 → bits z < 2 ^ 32
bits_lt (pos n) h = h
bits_lt (negsuc n) h = omega arith

-- a word, read as signed
mag_signed : (x : ℕ) → x < 2 ^ 32 → mag (signed x) < 2 ^ 31
mag_signed x h =
    elim (cases_lt x (2 ^ 31)) [
      | inl below ↦ let e = lt-ltb x (2 ^ 31) below in rw e below
      | inr above ↦ let e = le-ltb x (2 ^ 31) above in rw e (omega arith)
    ]

negated : (n : ℕ) → mag (neg_ℤ (pos n)) ≤ n
negated zero = omega arith
negated (suc n) = omega arith

quotient : (z d : ℤ) → mag (int_div z d) ≤ unsigned_abs z
quotient (pos a) (pos b) = div-le_self a b
quotient (pos a) (negsuc b) = omega (arith, negated (a / suc b), div-le_self a (suc b))
quotient (negsuc a) (pos b) = omega (arith, negated (suc a / b), div-le_self (suc a) b)
quotient (negsuc a) (negsuc b) = div-le_self (suc a) (suc b)

choice_lt : (b : Bool) (m n : ℕ) → m < 2 ^ 32 → n < 2 ^ 32 → cond b m n < 2 ^ 32
choice_lt true m n hm hn = hm
choice_lt false m n hm hn = hn

pub add_lt : (x y : ℕ) → add x y < 2 ^ 32
add_lt x y = low (x + y)

pub sub_lt : (x y : ℕ) → sub x y < 2 ^ 32
sub_lt x y = low (x + (2 ^ 32 - y))

pub sll_lt : (x y : ℕ) → sll x y < 2 ^ 32
sll_lt x y = low (x * 2 ^ (y % 32))

pub srl_lt : (x y : ℕ) → x < 2 ^ 32 → srl x y < 2 ^ 32
srl_lt x y h = omega (arith, div-le_self x (2 ^ (y % 32)))

pub sra_lt : (x y : ℕ) → x < 2 ^ 32 → sra x y < 2 ^ 32
sra_lt x y h = bits_lt (int_shr (signed x) (y % 32)) (omega (arith, mag_shr (signed x) (2 ^ (y % 32)), mag_signed x h))

pub slt_lt : (x y : ℕ) → slt x y < 2 ^ 32
slt_lt x y = choice_lt (int_lt (signed x) (signed y)) 1 0 (omega arith) (omega arith)

pub sltu_lt : (x y : ℕ) → sltu x y < 2 ^ 32
sltu_lt x y = choice_lt (nat_lt x y) 1 0 (omega arith) (omega arith)

pub mul_lt : (x y : ℕ) → mul x y < 2 ^ 32
mul_lt x y = low (x * y)

high_lt : (a b : ℤ) (m n : ℕ) → unsigned_abs a ≤ m → unsigned_abs b ≤ n → m * n < 2 ^ 63 → bits (int_shr (a *ℤ b) 32) < 2 ^ 32
high_lt a b m n a_is b_is small =
    let fits = fits_signed_mul w64 a b m n a_is b_is small in
    let half = high_fits (a *ℤ b) fits.sfits in
    bits_lt (int_shr (a *ℤ b) 32) (omega arith)

pub mulh_lt : (x y : ℕ) → x < 2 ^ 32 → y < 2 ^ 32 → mulh x y < 2 ^ 32
mulh_lt x y hx hy =
    high_lt (signed x) (signed y) (2 ^ 31) (2 ^ 31) (nat_abs-le (signed x) (mag_signed x hx)) (nat_abs-le (signed y) (mag_signed y hy)) (lit< tt)

pub mulhsu_lt : (x y : ℕ) → x < 2 ^ 32 → y < 2 ^ 32 → mulhsu x y < 2 ^ 32
mulhsu_lt x y hx hy =
    high_lt (signed x) (pos y) (2 ^ 31) (2 ^ 32 - 1) (nat_abs-le (signed x) (mag_signed x hx)) (omega arith) (lit< tt)

half_lt : (n : ℕ) → n < 2 ^ 32 * 2 ^ 32 → n / 2 ^ 32 < 2 ^ 32
half_lt n h = omega arith

pub mulhu_lt : (x y : ℕ) → x < 2 ^ 32 → y < 2 ^ 32 → mulhu x y < 2 ^ 32
mulhu_lt x y hx hy = half_lt (x * y) (mul-lt x y (2 ^ 32) (2 ^ 32) hx hy)

pub div_lt : (x y : ℕ) → x < 2 ^ 32 → div x y < 2 ^ 32
div_lt x y h =
    let size = nat_abs-le (signed x) (mag_signed x h) in
    choice_lt (eqb y 0) (2 ^ 32 - 1) (bits (int_div (signed x) (signed y))) (omega arith) (bits_lt (int_div (signed x) (signed y)) (omega (arith, quotient (signed x) (signed y))))

pub divu_lt : (x y : ℕ) → x < 2 ^ 32 → divu x y < 2 ^ 32
divu_lt x y h = choice_lt (eqb y 0) (2 ^ 32 - 1) (x / y) (omega arith) (omega (arith, div-le_self x y))

pub rem_lt : (x y : ℕ) → x < 2 ^ 32 → rem x y < 2 ^ 32
rem_lt x y h = choice_lt (eqb y 0) x (bits (int_rem (signed x) (signed y))) h (bits_lt (int_rem (signed x) (signed y)) (omega (arith, mag_rem (signed x) (signed y), mag_signed x h)))

pub remu_lt : (x y : ℕ) → x < 2 ^ 32 → remu x y < 2 ^ 32
remu_lt x y h = choice_lt (eqb y 0) x (x % y) h (omega (arith, mod-le x y))
