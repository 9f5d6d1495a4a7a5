-- Repeated lists, and the shortest list that gives another.
use Rattle.std.proofs.Common.{◌≡◌, ℕ, zero, suc, ◌+◌, ◌-◌, ◌*◌, ◌/◌, ◌%◌, ◌<◌, ◌≤◌, inl, inr, List, [], ◌∷◌, ◌++◌, length, take, drop, refl, sym, ap, ◌∙◌, arith, length-append, append_assoc, zero-add}
use Rattle.std.proofs.Math.Nat.{mul-mod_left, suc-add}
use Rattle.std.proofs.lemmas.Bool.{cases_lt}
use Rattle.std.proofs.lemmas.List.{length-take-le, length-drop, take-append-drop, take-take, drop-take, take_at, drop_at, take_all, nil_from_length, append-nil}
use Rattle.fsc_base.specs.declared.word.WordKind.{WordKind}
use Rattle.type_desc.specs.Periods.{repeated, IsLeastPeriod, IsShape, IsPeriod, OneLeastPeriod, LeastIsShape}

module _ {A : Type 0} where
  pub length-repeated : (n : ℕ) (xs : List A) → length (repeated n xs) ≡ n * length xs
  length-repeated zero xs = omega arith
  length-repeated (suc n) xs = omega (arith, length-append xs (repeated n xs), length-repeated n xs)

  -- one more in front is one more behind
  repeated-commutes : (n : ℕ) (xs : List A) → xs ++ repeated n xs ≡ repeated n xs ++ xs
  repeated-commutes zero xs = append-nil xs
  repeated-commutes (suc n) xs =
      ap (λ ys. xs ++ ys) (repeated-commutes n xs) ∙ sym (append_assoc xs (repeated n xs) xs)

  repeated-add : (m n : ℕ) (xs : List A) → repeated (m + n) xs ≡ repeated m xs ++ repeated n xs
  repeated-add zero n xs = rw zero-add refl
  repeated-add (suc m) n xs =
      rw suc-add (ap (λ ys. xs ++ ys) (repeated-add m n xs) ∙ sym (append_assoc xs (repeated m xs) (repeated n xs)))

  -- repeated again
  pub repeated-repeated : (m n : ℕ) (xs : List A) → repeated m (repeated n xs) ≡ repeated (m * n) xs
  repeated-repeated zero n xs =
      let e : zero * n ≡ 0 = omega arith in
      ap (λ k. repeated k xs) (sym e)
  repeated-repeated (suc m) n xs =
      let e : n + m * n ≡ suc m * n = omega arith in
      ap (λ ys. repeated n xs ++ ys) (repeated-repeated m n xs) ∙ sym (repeated-add n (m * n) xs) ∙ ap (λ k. repeated k xs) e

  -- A list of so many times n elements, each equal to the one n places before, repeats its first n.
  repeats : (times n : ℕ) (whole : List A) → length whole ≡ times * n → drop n whole ≡ take (length whole - n) whole → repeated times (take n whole) ≡ whole
  repeats zero n whole size same = sym (nil_from_length whole (omega arith))
  repeats (suc zero) n whole size same =
      append-nil (take n whole) ∙ take_all n whole (omega arith)
  repeats (suc (suc times)) n whole size same =
      let rest = drop n whole in
      let rest_size : length rest ≡ suc times * n = omega (arith, length-drop n whole) in
      let front : take n rest ≡ take n whole = ap (λ ys. take n ys) same ∙ take-take n (length whole - n) whole (omega arith) in
      let split : length whole - n ≡ n + (length rest - n) = omega (arith, length-drop n whole) in
      let rest_same : drop n rest ≡ take (length rest - n) rest =
      ap (λ ys. drop n ys) (same ∙ ap (λ k. take k whole) split) ∙ drop-take n (length rest - n) whole in
      let more = repeats (suc times) n rest rest_size rest_same in
      ap (λ ys. take n whole ++ ys) (ap (λ p. repeated (suc times) p) (sym front) ∙ more) ∙ take-append-drop n whole

  -- a period gives the whole
  pub gives : (n : ℕ) (whole : List A) → IsPeriod whole n → repeated (length whole / n) (take n whole) ≡ whole
  gives n whole period =
      let some = period.some in
      repeats (length whole / n) n whole (omega (arith, period.divides)) period.repeats

  -- and a list that gives the whole is a period of it
  pub is_period : (times : ℕ) (whole part : List A) → 0 < length whole → repeated times part ≡ whole → IsPeriod whole (length part)
  is_period zero whole part some e = absurd (omega (arith, ap length e))
  is_period (suc times) whole part some e =
      let size : length whole ≡ length part + times * length part =
      ap length (sym e) ∙ length-append part (repeated times part) ∙ ap (λ k. length part + k) (length-repeated times part) in
      let rest : length whole - length part ≡ length (repeated times part) = omega (arith, length-repeated times part) in
      record {
        some = part_some times part whole size some;
        divides = ap (λ k. k % length part) (sym (ap length e) ∙ length-repeated (suc times) part) ∙ mul-mod_left (suc times) (length part);
        repeats =
            ap (λ ys. drop (length part) ys) (sym e)
            ∙ drop_at part (repeated times part) (length part) refl
            ∙ sym (take_at (repeated times part) part (length whole - length part) (sym rest))
            ∙ ap (λ ys. take (length whole - length part) ys) (sym (repeated-commutes times part) ∙ e);
      }
    where
      part_some : (times : ℕ) (part whole : List A) → length whole ≡ length part + times * length part → 0 < length whole → 0 < length part
      part_some times [] whole size some = absurd (omega (arith, size))
      part_some times (x ∷ xs) whole size some = omega arith

  -- what repeats is as long as the number of times says, and has the whole's first elements
  first_of : (times : ℕ) (whole part : List A) → 0 < length whole → repeated times part ≡ whole → take (length part) whole ≡ part
  first_of zero whole part some e = absurd (omega (arith, ap length e))
  first_of (suc times) whole part some e =
      ap (λ ys. take (length part) ys) (sym e) ∙ take_at part (repeated times part) (length part) refl

  -- two least periods are one
  pub least_once : (whole one other : List A) → 0 < length whole → IsLeastPeriod whole one → IsLeastPeriod whole other → one ≡ other
  least_once whole one other some least_one least_other =
      let same : length one ≡ length other = omega (arith, least_one.least least_other.times other least_other.gives, least_other.least least_one.times one least_one.gives) in
      sym (first_of least_one.times whole one some least_one.gives)
      ∙ ap (λ k. take k whole) same
      ∙ first_of least_other.times whole other some least_other.gives

  -- a least period is no longer than the whole
  pub least-le : (whole part : List A) → IsLeastPeriod whole part → length part ≤ length whole
  least-le whole part least = least.least 1 whole (append-nil whole)

  -- and its own least period
  pub least_of_itself : (whole part : List A) → IsLeastPeriod whole part → (n : ℕ) (other : List A) → repeated n other ≡ part → length part ≤ length other
  least_of_itself whole part least n other e =
      least.least (least.times * n) other
      (sym (repeated-repeated least.times n other) ∙ ap (λ ys. repeated least.times ys) e ∙ least.gives)

  -- the shortest period gives the least list
  pub least_from_period : (whole : List A) (n : ℕ) → 0 < length whole → n ≤ length whole → IsPeriod whole n → ((k : ℕ) → IsPeriod whole k → n ≤ k) → IsLeastPeriod whole (take n whole)
  least_from_period whole n some within period shortest = record {
    times = length whole / n;
    gives = gives n whole period;
    least = λ k other e. omega (arith, length-take-le n whole within, shortest (length other) (is_period k whole other some e));
  }

pub one_least_period : OneLeastPeriod
one_least_period whole one other some least_one least_other = least_once whole one other some least_one least_other

pub least_is_shape : LeastIsShape
least_is_shape whole kinds some few least = record {
  some = (is_period least.times whole kinds some least.gives).some;
  few = omega (arith, least-le whole kinds least);
  least = least_of_itself whole kinds least;
}

-- a shape is its own shortest period
pub shape_is_least : (kinds : List WordKind) (n : ℕ) → IsShape kinds → IsPeriod kinds n → length kinds ≤ n
shape_is_least kinds n shape period =
    elim (cases_lt n (length kinds)) [
      | inl shorter ↦ absurd (omega (arith, length-take-le n kinds (omega arith), shape.least (length kinds / n) (take n kinds) (gives n kinds period)))
      | inr longer ↦ longer
    ]

-- a list whose shortest period is its length is a shape
pub shape_from_least : (kinds : List WordKind) → 0 < length kinds → length kinds ≤ 1024 → ((n : ℕ) → IsPeriod kinds n → length kinds ≤ n) → IsShape kinds
shape_from_least kinds some few shortest = record {
  some = some;
  few = few;
  least = λ n other e. shortest (length other) (is_period n kinds other some e);
}
