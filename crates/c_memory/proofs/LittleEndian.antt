-- Numbers as bytes, the lowest first.
use Rattle.std.proofs.Common.{◌≡◌, ℕ, zero, suc, ◌*◌, ◌/◌, ◌%◌, ◌^◌, ◌<◌, length, refl, ap, arith}
use Rattle.std.proofs.Math.Arith.{mod-mul}
use Rattle.std.proofs.Math.Nat.{pow-suc}
use Rattle.c_memory.specs.Bytes.{little_endian, little_endian_bytes}

pow_pos : (n : ℕ) → 0 < 256 ^ n
pow_pos zero = omega arith
pow_pos (suc n) = let e : 256 ^ suc n ≡ 256 ^ n * 256 = pow-suc 256 n in omega (arith, pow_pos n)

pub length-little_endian_bytes : (n value : ℕ) → length (little_endian_bytes n value) ≡ n
length-little_endian_bytes zero value = refl
length-little_endian_bytes (suc n) value = ap suc (length-little_endian_bytes n (value / 256))

-- a number to bytes and back, with what does not fit lost
pub little_endian-little_endian_bytes : (n value : ℕ) → little_endian (little_endian_bytes n value) ≡ value % 256 ^ n
little_endian-little_endian_bytes zero value = omega arith
little_endian-little_endian_bytes (suc n) value =
    let e : 256 ^ suc n ≡ 256 ^ n * 256 = pow-suc 256 n in
    let split = mod-mul value {m = 256 ^ n} {c = 256} (pow_pos n) (omega arith) in
    rw e (omega (arith, little_endian-little_endian_bytes n (value / 256)))

-- a word is what its four bytes spell
pub little_endian-word : (value : ℕ) → value < 2 ^ 32 → little_endian (little_endian_bytes 4 value) ≡ value
little_endian-word value h = let e = little_endian-little_endian_bytes 4 value in omega arith
