-- Digits in front of a text, and the number that they write.
use Rattle.std.proofs.Common.{◌≡◌, ℕ, zero, suc, ◌+◌, ◌*◌, ◌^◌, ◌<◌, ◌≤◌, List, [], ◌∷◌, length, take, get_or, Bool, true, false, cond, refl, arith}
use Rattle.std.specs.Char.{digit_value, is_digit}
use Rattle.std.specs.Str.Parse.{AllDigits, digits_value}
use Rattle.std.proofs.lemmas.Bool.{ltb-true}
use Rattle.std.proofs.lemmas.Int.Digits.{digits_value_more}
use Rattle.std.proofs.lemmas.Str.Parse.{digits_value-take-le}
use Rattle.c_lexer.specs.Numbers.{count_of}

pub counted : (base : ℕ) (text : List ℕ) → AllDigits base (take (count_of base text) text)
counted base [] = tt
counted base (c ∷ rest) = one (is_digit c base) (λ e. ltb-true _ _ e) (counted base rest)
  where
    one : (b : Bool) → (b ≡ true → digit_value c < base) → AllDigits base (take (count_of base rest) rest) → AllDigits base (take (cond b (1 + count_of base rest) 0) (c ∷ rest))
    one true digit others = let more : 1 + count_of base rest ≡ suc (count_of base rest) = omega arith in rw more (digit refl, others)
    one false digit others = tt

pub digit_within : (base : ℕ) (digits : List ℕ) (i : ℕ) → AllDigits base digits → i < length digits → digit_value (get_or digits i 0) < base
digit_within base [] i all lt = absurd (omega arith)
digit_within base (c ∷ rest) zero all lt = all.0
digit_within base (c ∷ rest) (suc i) all lt = digit_within base rest i all.1 (omega arith)

pub too_large : (base : ℕ) (digits : List ℕ) (i : ℕ) → 1 ≤ base → i < length digits → 2 ^ 32 ≤ digits_value base (take i digits) * base + digit_value (get_or digits i 0) → 2 ^ 32 ≤ digits_value base digits
too_large base digits i some lt large = omega (arith, digits_value_more base digits i lt, digits_value-take-le base digits (i + 1) some)
