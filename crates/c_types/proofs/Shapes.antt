-- Shapes of structs and unions.
use Rattle.std.proofs.Common.{◌≡◌, ℕ, zero, suc, ◌+◌, ◌-◌, ◌%◌, ◌<◌, ◌≤◌, Bool, true, false, ◌&&◌, eqb, ◌⊎◌, inl, inr, List, [], ◌∷◌, ◌++◌, length, take, drop, ◌/◌, ltb, Result, Ok, Err, IfOk, lit≤, length-append, refl, ap, ◌∙◌, arith}
use Rattle.std.specs.List.{list_any}
use Rattle.std.proofs.lemmas.List.{length-take}
use Rattle.std.proofs.lemmas.Bool.{eqb-true, cases_lt, lt-ltb, le-ltb}
use Rattle.fsc_base.specs.declared.word.WordKind.{WordKind}
use Rattle.fsc_base.specs.declared.word.WordKind.TheVariants.{Fat, Narrow}
use Rattle.type_desc.specs.Periods.{IsPeriod}
use Rattle.c_types.specs.Layouts.{Placed, makes_fat, kinds_before, kind_of_word, record_kinds}
use Rattle.c_types.specs.Periods.{same_kind, same_kinds, repeats, least_from, period_of}

-- ---- periods

same_kind_true : (one other : WordKind) → same_kind one other ≡ true → one ≡ other
same_kind_true Fat Fat is = refl
same_kind_true Fat Narrow is = absurd cc
same_kind_true Narrow Fat is = absurd cc
same_kind_true Narrow Narrow is = refl

and_true : (one other : Bool) → (one && other) ≡ true → (one ≡ true) × (other ≡ true)
and_true true true is = (refl, refl)
and_true true false is = absurd cc
and_true false other is = absurd cc

same_kinds_true : (one other : List WordKind) → same_kinds one other ≡ true → one ≡ other
same_kinds_true [] [] is = refl
same_kinds_true [] (k ∷ ks) is = absurd cc
same_kinds_true (k ∷ ks) [] is = absurd cc
same_kinds_true (k ∷ ks) (l ∷ ls) is =
    let both = and_true (same_kind k l) (same_kinds ks ls) is in
    ap (λ (x : WordKind). x ∷ ks) (same_kind_true k l both.0) ∙ ap (λ (xs : List WordKind). l ∷ xs) (same_kinds_true ks ls both.1)

same_kind_refl : (k : WordKind) → same_kind k k ≡ true
same_kind_refl Fat = refl
same_kind_refl Narrow = refl

same_kinds_refl : (ks : List WordKind) → same_kinds ks ks ≡ true
same_kinds_refl [] = refl
same_kinds_refl (k ∷ ks) = rw (same_kind_refl k, same_kinds_refl ks) refl

repeats_period : (n : ℕ) (kinds : List WordKind) → 0 < n → repeats n kinds ≡ true → IsPeriod kinds n
repeats_period n kinds some is =
    let both = and_true (eqb (length kinds % n) 0) (same_kinds (drop n kinds) (take (length kinds - n) kinds)) is in
    record { some = some; divides = eqb-true (length kinds % n) 0 both.0; repeats = same_kinds_true (drop n kinds) (take (length kinds - n) kinds) both.1 }

period_repeats : (n : ℕ) (kinds : List WordKind) → IsPeriod kinds n → repeats n kinds ≡ true
period_repeats n kinds is = rw (is.divides, is.repeats) (same_kinds_refl (take (length kinds - n) kinds))

bool_cases : (b : Bool) → (b ≡ true) ⊎ (b ≡ false)
bool_cases true = inl refl
bool_cases false = inr refl

least_is : (many start n : ℕ) (kinds : List WordKind) → start ≤ n → n < start + many → repeats n kinds ≡ true
    → ((k : ℕ) → start ≤ k → repeats k kinds ≡ true → n ≤ k) → least_from many start kinds ≡ n
least_is zero start n kinds low high here least = absurd (omega arith)
least_is (suc many) start n kinds low high here least = elim (bool_cases (repeats start kinds)) [
  | inl so ↦ let le = least start (omega arith) so in rw so (omega arith)
  | inr other ↦
      let differ : start ≡ n → ⊥ = λ same. (let there : repeats start kinds ≡ true = rw same here in cc) in
      rw other (least_is many (start + 1) n kinds (omega (arith, differ)) (omega arith) here (λ k lower so. least k (omega arith) so))
]

pub period_found : (kinds : List WordKind) (n : ℕ) → IsPeriod kinds n → ((k : ℕ) → IsPeriod kinds k → n ≤ k) → n ≤ length kinds
    → least_from (length kinds) 1 kinds ≡ n
period_found kinds n is least within =
    let some = is.some in
    least_is (length kinds) 1 n kinds (omega arith) (omega arith) (period_repeats n kinds is)
    (λ k low so. least k (repeats_period k kinds (omega arith) so))

-- ---- lengths

length-kinds_before : (places : List Placed) (n : ℕ) → length (kinds_before places n) ≡ n
length-kinds_before places zero = refl
length-kinds_before places (suc n) =
    let rest = length-kinds_before places n in
    let kind = kind_of_word (list_any (makes_fat n) places) in
    let whole : length (kinds_before places n ++ (kind ∷ [])) ≡ length (kinds_before places n) + 1 = length-append (kinds_before places n) (kind ∷ []) in
    omega arith

length-period_of : (kinds : List WordKind) → length (period_of kinds) ≤ length kinds
length-period_of kinds = let is = length-take (least_from (length kinds) 1 kinds) kinds in omega arith

length-record_kinds : (places : List Placed) (size : ℕ) → length (record_kinds places size) ≤ 1024
length-record_kinds places size = elim (bool_cases (eqb (size % 4) 0)) [
  | inl whole ↦ elim (cases_lt 4096 size) [
    | inl lt ↦ let large : ltb 4096 size ≡ true = lt-ltb 4096 size lt in rw (whole, large) (lit≤ tt)
    | inr le ↦
        let small : ltb 4096 size ≡ false = le-ltb 4096 size le in
        let most = length-period_of (kinds_before places (size / 4)) in
        let count = length-kinds_before places (size / 4) in
        rw (whole, small) (omega arith)
  ]
  | inr other ↦ rw other (lit≤ tt)
]

pub few_kinds : {E : Type 0} (r : Result (List WordKind) E) (places : List Placed) (size : ℕ) → IfOk r (λ kinds. kinds ≡ record_kinds places size) → IfOk r (λ kinds. length kinds ≤ 1024)
few_kinds (Ok kinds) places size is = rw is (length-record_kinds places size)
few_kinds (Err e) places size is = is
