-- Lists of kinds in their least period.
use Rattle.std.proofs.Common.{◌≡◌, ℕ, zero, suc, ◌+◌, ◌-◌, ◌*◌, ◌/◌, ◌%◌, ◌<◌, ◌≤◌, eqb, true, false, List, [], ◌∷◌, length, take, drop, refl, sym, ap, subst, ◌∙◌, arith, inl, inr}
use Rattle.std.proofs.lemmas.Bool.{cases_lt, eqb-true, eqb-false, ne_eqb, cases_Bool}
use Rattle.std.proofs.lemmas.List.{length-take-le, drop-take, take_all, drop_all}
use Rattle.std.proofs.lemmas.Nat.{div-add-mod', div-mul-add, div_below}
use Rattle.std.proofs.Math.Nat.{mul-mod_left, mul_assoc, mul_comm}
use Rattle.fsc_base.specs.declared.word.WordKind.{WordKind}
use Rattle.fsc_base.specs.declared.word.WordKind.TheVariants.{Fat, Narrow}
use Rattle.type_desc.specs.Periods.{IsPeriod}
use Rattle.c_types.specs.Periods.{same_kind, same_kinds, repeats, least_from}
use Rattle.c_types.proofs.Shapes.{period_found}
use Rattle.fat_code.specs.Divisors.{HasDivisor}
use Rattle.fat_code.specs.UnitRows.{is_least}

-- ---- divisors

-- what divides a divisor divides the whole
divides_through : (q m j : ℕ) → q % m ≡ 0 → m % j ≡ 0 → q % j ≡ 0
divides_through q m j one two =
    let outer : q ≡ q / m * m = (let e = div-add-mod' q m in omega arith) in
    let inner : m ≡ m / j * j = (let e = div-add-mod' m j in omega arith) in
    let whole : q ≡ q / m * (m / j) * j = outer ∙ ap (λ (x : ℕ). q / m * x) inner ∙ sym (mul_assoc (q / m) (m / j) j) in
    ap (λ (x : ℕ). x % j) whole ∙ mul-mod_left (q / m * (m / j)) j

-- the least divisor from 2 on, which no smaller one divides
record IsPrimeOf (q : ℕ) : Type 0 where
  pub prime : ℕ
  pub low : 2 ≤ prime
  pub high : prime ≤ q
  pub divides : q % prime ≡ 0
  pub only : HasDivisor prime → ⊥

prime_here : (fuel start q : ℕ) → start + fuel ≡ q → 2 ≤ start → ((j : ℕ) → 2 ≤ j → j < start → q % j ≡ 0 → ⊥) → q % start ≡ 0 → IsPrimeOf q
prime_here fuel start q sum low none here = record {
  prime = start;
  low = low;
  high = omega arith;
  divides = here;
  only = λ has. none has.divisor has.low has.high (divides_through q start has.divisor here has.divides);
}

prime_from : (fuel start q : ℕ) → start + fuel ≡ q → 2 ≤ start → ((j : ℕ) → 2 ≤ j → j < start → q % j ≡ 0 → ⊥) → IsPrimeOf q
prime_from zero start q sum low none =
    let same : start ≡ q = omega arith in
    let one : q ≡ 1 * q = omega arith in
    let here : q % start ≡ 0 = ap (λ (x : ℕ). q % x) same ∙ ap (λ (x : ℕ). x % q) one ∙ mul-mod_left 1 q in
    prime_here zero start q sum low none here
prime_from (suc fuel) start q sum low none = elim (cases_Bool (eqb (q % start) 0)) [
  | inl found ↦ prime_here (suc fuel) start q sum low none (eqb-true (q % start) 0 found)
  | inr not_here ↦ prime_from fuel (start + 1) q (omega arith) (omega arith) (λ j two lt divides. elim (cases_lt j start) [
    | inl before ↦ none j two before divides
    | inr behind ↦
        let last : j ≡ start = omega arith in
        let zero_here : q % start ≡ 0 = subst (λ (x : ℕ). q % x ≡ 0) last divides in
        let found : eqb (q % start) 0 ≡ true = rw zero_here refl in
        cc
  ])
]

prime_of : (q : ℕ) → 2 ≤ q → IsPrimeOf q
prime_of q two = prime_from (q - 2) 2 q (omega arith) (omega arith) (λ j low lt divides. absurd (omega arith))

-- ---- periods

drop_twice : {T : Type 0} (xs : List T) (m n : ℕ) → drop n (drop m xs) ≡ drop (m + n) xs
drop_twice xs zero n = let e : 0 + n ≡ n = omega arith in rw e refl
drop_twice [] (suc m) n = drop_all n [] (omega arith) ∙ sym (drop_all (suc m + n) [] (omega arith))
drop_twice (x ∷ xs) (suc m) n = let e : suc m + n ≡ suc (m + n) = omega arith in rw e (drop_twice xs m n)

take_twice : {T : Type 0} (xs : List T) (m n : ℕ) → m ≤ n → take m (take n xs) ≡ take m xs
take_twice xs zero n le = refl
take_twice [] (suc m) zero le = refl
take_twice [] (suc m) (suc n) le = refl
take_twice (x ∷ xs) (suc m) zero le = absurd (omega arith)
take_twice (x ∷ xs) (suc m) (suc n) le = ap (λ (ys : List _). x ∷ ys) (take_twice xs m n (omega arith))

shifted : {T : Type 0} (xs : List T) (d times : ℕ) → drop d xs ≡ take (length xs - d) xs → times * d ≤ length xs
    → drop (times * d) xs ≡ take (length xs - times * d) xs
shifted xs d zero once le =
    let none : 0 * d ≡ 0 = (let e = mul_comm 0 d in omega arith) in
    rw none (sym (take_all (length xs - 0) xs (omega arith)))
shifted xs d (suc times) once le =
    let more : suc times * d ≡ times * d + d = (let e = mul_comm (suc times) d in let f = mul_comm times d in omega arith) in
    let before = shifted xs d times once (omega arith) in
    let left = length xs - (times * d + d) in
    let room : length xs - times * d ≡ d + left = omega arith in
    rw more
    (sym (drop_twice xs (times * d) d) ∙ ap (drop d) before ∙ ap (λ (n : ℕ). drop d (take n xs)) room ∙ drop-take d left xs ∙ ap (take left) once
    ∙ take_twice xs left (length xs - d) (omega arith))

positive : (d times : ℕ) → 0 < times → 0 < d → 0 < times * d
positive d zero some some_d = absurd (omega arith)
positive d (suc times) some some_d = let e : suc times * d ≡ times * d + d = omega arith in omega arith

-- a multiple of a period that divides the whole is one
multiple : (kinds : List WordKind) (d times : ℕ) → IsPeriod kinds d → 0 < times → length kinds % (times * d) ≡ 0 → times * d ≤ length kinds
    → IsPeriod kinds (times * d)
multiple kinds d times is some divides le = record {
  some = positive d times some is.some;
  divides = divides;
  repeats = shifted kinds d times is.repeats le;
}

-- a list with a shorter period has one that is shorter by a prime number of times
record IsShorter (kinds : List WordKind) : Type 0 where
  pub times : ℕ
  pub low : 2 ≤ times
  pub high : times ≤ length kinds
  pub divides : length kinds % times ≡ 0
  pub prime : HasDivisor times → ⊥
  pub period : IsPeriod kinds (length kinds / times)

-- the numbers of it: n = q * d, q = c * p
turned : (c p d : ℕ) → c * p * d ≡ c * d * p
turned c p d = mul_assoc c p d ∙ ap (λ (x : ℕ). c * x) (mul_comm p d) ∙ sym (mul_assoc c d p)

quotient : (n x p : ℕ) → n ≡ x * p → 0 < p → n / p ≡ x
quotient n x p is some = ap (λ (k : ℕ). k / p) (let e : n ≡ x * p + 0 = omega arith in e) ∙ div-mul-add x p 0 some

above_one : (n q d : ℕ) → n ≡ q * d → 0 < n → d < n → 2 ≤ q
above_one n zero d is some lt = absurd (let none : n ≡ 0 = is ∙ (let e = mul_comm 0 d in omega arith) in omega arith)
above_one n (suc zero) d is some lt = absurd (omega arith)
above_one n (suc (suc q)) d is some lt = omega arith

factor_some : (q c p : ℕ) → q ≡ c * p → 0 < q → 0 < c
factor_some q zero p is some = absurd (omega arith)
factor_some q (suc c) p is some = omega arith

factor_within : (n x p : ℕ) → n ≡ x * p → 0 < p → x ≤ n
factor_within n x zero is some = absurd (omega arith)
factor_within n x (suc p) is some = let e : x * suc p ≡ x * p + x = mul_comm x (suc p) ∙ (let f = mul_comm p x in let g : suc p * x ≡ p * x + x = omega arith in omega arith) in omega arith

shorter_by : (kinds : List WordKind) (d q c : ℕ) (prime : IsPrimeOf q) → IsPeriod kinds d → length kinds ≡ q * d → q ≡ c * prime.prime → 0 < c
    → IsShorter kinds
shorter_by kinds d q c prime is whole parts some =
    let p = prime.prime in
    let two = prime.low in
    let product : length kinds ≡ c * d * p = whole ∙ ap (λ (x : ℕ). x * d) parts ∙ turned c p d in
    let times_first : length kinds ≡ p * (c * d) = product ∙ mul_comm (c * d) p in
    let divides : length kinds % (c * d) ≡ 0 = ap (λ (x : ℕ). x % (c * d)) times_first ∙ mul-mod_left p (c * d) in
    let within : c * d ≤ length kinds = factor_within (length kinds) (c * d) p product (omega arith) in
    let period = multiple kinds d c is some divides within in
    let under : length kinds / p ≡ c * d = quotient (length kinds) (c * d) p product (omega arith) in
    let some_period = period.some in
    record {
      times = p;
      low = two;
      high = factor_within (length kinds) p (c * d) times_first some_period;
      divides = ap (λ (x : ℕ). x % p) product ∙ mul-mod_left (c * d) p;
      prime = prime.only;
      period = subst (λ (x : ℕ). IsPeriod kinds x) (sym under) period;
    }

shorter : (kinds : List WordKind) (d : ℕ) → IsPeriod kinds d → d < length kinds → IsShorter kinds
shorter kinds d is lt =
    let n = length kinds in
    let q = n / d in
    let even = is.divides in
    let whole : n ≡ q * d = (let e = div-add-mod' n d in omega arith) in
    let two : 2 ≤ q = above_one n q d whole (omega arith) lt in
    let prime = prime_of q two in
    let exact = prime.divides in
    let parts : q ≡ q / prime.prime * prime.prime = (let e = div-add-mod' q prime.prime in omega arith) in
    shorter_by kinds d q (q / prime.prime) prime is whole parts (factor_some q (q / prime.prime) prime.prime parts (omega arith))

-- ---- the least period

eqb_same : (n : ℕ) → eqb n n ≡ true
eqb_same n = elim (cases_Bool (eqb n n)) [
  | inl same ↦ same
  | inr other ↦ absurd (eqb-false n n other refl)
]

same_kind_refl : (k : WordKind) → same_kind k k ≡ true
same_kind_refl Fat = refl
same_kind_refl Narrow = refl

same_kinds_refl : (ks : List WordKind) → same_kinds ks ks ≡ true
same_kinds_refl [] = refl
same_kinds_refl (k ∷ ks) = rw (same_kind_refl k, same_kinds_refl ks) refl

period_repeats : (n : ℕ) (kinds : List WordKind) → IsPeriod kinds n → repeats n kinds ≡ true
period_repeats n kinds is = rw (is.divides, is.repeats) (same_kinds_refl (take (length kinds - n) kinds))

least_le : (many start d : ℕ) (kinds : List WordKind) → start ≤ d → d < start + many → repeats d kinds ≡ true → least_from many start kinds ≤ d
least_le zero start d kinds low high here = absurd (omega arith)
least_le (suc many) start d kinds low high here = elim (cases_Bool (repeats start kinds)) [
  | inl found ↦ rw found low
  | inr other ↦
      let differ : start ≡ d → ⊥ = λ same. (let there : repeats start kinds ≡ true = rw same here in cc) in
      rw other (least_le many (start + 1) d kinds (omega (arith, differ)) (omega arith) here)
]

pub is_not_least : (kinds : List WordKind) (d : ℕ) → IsPeriod kinds d → d < length kinds → is_least kinds ≡ false
is_not_least kinds d is lt =
    let some = is.some in
    let least = least_from (length kinds) 1 kinds in
    let low : least ≤ d = least_le (length kinds) 1 d kinds (omega arith) (omega arith) (period_repeats d kinds is) in
    let count : length (take least kinds) ≡ least = length-take-le least kinds (omega arith) in
    rw count (ne_eqb least (length kinds) (λ same. (let e : least ≡ length kinds = same in omega arith)))

pub is_least_one : (kinds : List WordKind) → 0 < length kinds
    → ((times : ℕ) → 2 ≤ times → times ≤ length kinds → length kinds % times ≡ 0 → (HasDivisor times → ⊥) → IsPeriod kinds (length kinds / times) → ⊥)
    → is_least kinds ≡ true
is_least_one kinds some none =
    let n = length kinds in
    let whole : IsPeriod kinds n = record {
      some = some;
      divides = (let one : n ≡ 1 * n = omega arith in ap (λ (x : ℕ). x % n) one ∙ mul-mod_left 1 n);
      repeats = drop_all n kinds (omega arith) ∙ (let zero_left : n - n ≡ 0 = omega arith in ap (λ (x : ℕ). take x kinds) (sym zero_left));
    } in
    let least : (k : ℕ) → IsPeriod kinds k → n ≤ k = λ k is. elim (cases_lt k n) [
      | inl lt ↦ (let it = shorter kinds k is lt in absurd (none it.times it.low it.high it.divides it.prime it.period))
      | inr le ↦ le
    ] in
    let found : least_from n 1 kinds ≡ n = period_found kinds n whole least (omega arith) in
    let count : length (take n kinds) ≡ n = length-take-le n kinds (omega arith) in
    rw (found, count) (eqb_same n)

pub half_less : (n times : ℕ) → 0 < n → 2 ≤ times → n / times < n
half_less n zero some two = absurd (omega arith)
half_less n (suc times) some two =
    let more : n * suc times ≡ times * n + n = mul_comm n (suc times) ∙ (let e : suc times * n ≡ times * n + n = omega arith in e) in
    let again : 0 < times * n = positive n times (omega arith) some in
    div_below n (suc times) n (omega arith) (omega arith)
