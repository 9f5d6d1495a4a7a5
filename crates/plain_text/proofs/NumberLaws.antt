-- Decimals and the digits that spell them.
use Rattle.std.proofs.Common.{◌≡◌, true, false, ◌&&◌, leb, ℕ, zero, suc, ◌^◌, ◌<◌, ◌≤◌, inl, inr, List, [], ◌∷◌, length, take, drop, ◌++◌, get_or, Option, Some, None, Result, Ok, Err, refl, sym, ap, subst, ◌∙◌, arith}
use Rattle.std.specs.Fmt.{decimal}
use Rattle.std.specs.Char.{is_ascii_digit}
use Rattle.std.specs.Int.{IsInRange}
use Rattle.std.proofs.lemmas.Bool.Decides.{nat_tests}
use Rattle.std.proofs.lemmas.List.Elements.{All-head, All-from_get_or}
use Rattle.std.specs.List.{prefix_len, AllPass, All}
use Rattle.std.proofs.lemmas.List.{take-append-drop, take_at, drop_at}
use Rattle.std.specs.Result.{result_ok}
use Rattle.std.specs.Prelude.{IfSome}
use Rattle.std.proofs.lemmas.Option.{cond_some, none-some, some_pair_parts}
use Rattle.std.specs.Str.{IsUtf8, bytes_eq}
use Rattle.std.specs.Str.Parse.{AllDigits, digits_value, ParsesUnsigned}
use Rattle.std.proofs.lemmas.Fmt.{decimal_digit, first_decimal, IsAscii-decimal, decimal-digits_value, decimal_is_IsNumeral, decimal_nonempty, digits_decimal}
use Rattle.std.proofs.lemmas.Bool.{cases_lt, and_parts, leb-true, le-leb}
use Rattle.std.proofs.lemmas.Slice.Eq.{bytes_eq-Decides}
use Rattle.std.proofs.lemmas.Str.{IsUtf8-from_ascii}
use Rattle.std.proofs.lemmas.Str.Parse.{IsNumeralModel, numerals_by_value, tells_digits, tells_by_index, parse_plain}
use Rattle.plain_text.specs.Reading.{IsPadded, is_blank, skipped, byte_of, number_at}
use Rattle.plain_text.specs.Program.{IsBlank, tight}
use Rattle.plain_text.proofs.TokenLaws.{Stands, IsSolid, some_from, skipped_takes, skipped_again, prefix_len-append}

pub own : IsNumeralModel (AllDigits 10) (digits_value 10)
own = numerals_by_value (AllDigits 10) tells_digits

padded_decimal : (n : ℕ) → n < 2 ^ 64 → IsPadded (decimal n) → ⊥
padded_decimal zero small padded =
    let h : IsPadded (48 ∷ []) = subst IsPadded (decimal_digit 0 (omega arith)) padded in omega (arith, h)
padded_decimal (suc n) small padded = omega (arith, first_decimal (suc n) (omega arith) small)

-- a decimal has nothing in front of it
pub not_padded : (digits : List ℕ) (n : ℕ) → n < 2 ^ 64 → digits ≡ decimal n → IsPadded digits → ⊥
not_padded digits n small e padded = padded_decimal n small (subst IsPadded e padded)

pub decimal_utf8 : (digits : List ℕ) (n : ℕ) → n < 2 ^ 64 → digits ≡ decimal n → IsUtf8 digits
decimal_utf8 digits n small e = subst IsUtf8 (sym e) (IsUtf8-from_ascii (decimal n) (IsAscii-decimal n small))

-- what is parsed and has nothing in front is the decimal of what it gives
pub parsed : (E : Type 0) (digits : List ℕ) (n : ℕ) (r : Result ℕ E) → (IsPadded digits → ⊥) → n < 2 ^ 64 → ParsesUnsigned 64 10 digits r → result_ok r ≡ Some n → digits ≡ decimal n
parsed E digits n (Err e) bare small h is = absurd cc
parsed E digits n (Ok m) bare small h is =
    let plain : (AllDigits 10 digits × (0 < length digits) × (digits_value 10 digits < 2 ^ 64)) × (m ≡ digits_value 10 digits) = parse_plain own {E = E} 64 digits (Ok m) h (λ plus. bare (inl plus)) in
    let alone : get_or digits 0 0 ≡ 48 → length digits ≡ 1 = λ zero_first.
    elim (cases_lt 1 (length digits)) [
      | inl more ↦ absurd (bare (inr (zero_first, more)))
      | inr le ↦ omega (arith, plain.0.1)
    ] in
    let m-is : m ≡ n = cc in
    let again : decimal (digits_value 10 digits) ≡ digits = decimal-digits_value own digits plain.0.0 plain.0.1 alone plain.0.2 in
    sym again ∙ ap decimal (sym plain.1 ∙ m-is)

-- the digits are those of the number
pub byte_takes : (digits : List ℕ) (n : ℕ) → byte_of digits ≡ Some n → (n < 256) × (digits ≡ decimal n)
unfolding byte_of
byte_takes digits n e =
    let chosen = cond_some (leb (digits_value 10 digits) 255 && bytes_eq digits (decimal (digits_value 10 digits))) (digits_value 10 digits) n e in
    let value = digits_value 10 digits in
    let tests : (leb value 255 ≡ true) × (bytes_eq digits (decimal value) ≡ true) = and_parts _ _ chosen.0 in
    let spelled : digits ≡ decimal value = (bytes_eq-Decides digits (decimal value)).0 tests.1 in
    (omega (arith, leb-true _ _ tests.0, chosen.1), rw (← chosen.1) spelled)

-- and the number is the one with these digits
pub byte_again : (n : ℕ) → n < 256 → byte_of (decimal n) ≡ Some n
unfolding byte_of
byte_again n small =
    let value : digits_value 10 (decimal n) ≡ n = (decimal_is_IsNumeral n (omega arith)).1 in
    let few : leb n 255 ≡ true = le-leb _ _ (omega arith) in
    let same : bytes_eq (decimal n) (decimal n) ≡ true = (bytes_eq-Decides (decimal n) (decimal n)).1 refl in
    rw (value, few, same) refl

none_is : (o : Option ℕ) → ((n : ℕ) → o ≡ Some n → ⊥) → None ≡ o
none_is None never = refl
none_is (Some n) never = absurd (never n refl)

-- what is so for the one number that digits can spell is what reading them gives
pub byte_from : (digits : List ℕ) (r : Option ℕ) → IfSome r (λ n. (n ≤ 255) × (digits ≡ decimal n)) → ((n : ℕ) → n ≤ 255 → digits ≡ decimal n → r ≡ Some n) → r ≡ byte_of digits
byte_from digits (Some n) found only = rw found.1 (sym (byte_again n (omega (arith, found.0))))
byte_from digits None found only =
    none_is (byte_of digits) (λ n is. let takes = byte_takes digits n is in none-some n (only n (omega (arith, takes.0)) takes.1))

-- ---- a number in front of a text

digit_from : (c : ℕ) → IsInRange 48 57 c → is_ascii_digit c ≡ true
digit_from c range = grind (arith, nat_tests)

digit_not_blank : (c : ℕ) → is_ascii_digit c ≡ true → is_blank c ≡ false
digit_not_blank c digit = grind (arith, nat_tests)

blank_no_digit : (c : ℕ) → IsBlank c → is_ascii_digit c ≡ false
blank_no_digit c blank = grind (arith, nat_tests)

decimal_digits : (n : ℕ) → n < 2 ^ 64 → AllPass is_ascii_digit (decimal n)
decimal_digits n small =
    let by_index = numerals_by_value (λ ds. (i : ℕ) → i < length ds → IsInRange 48 57 (get_or ds i 0)) tells_by_index in
    All-from_get_or (λ c. is_ascii_digit c ≡ true) (decimal n) 0 (λ i lt. digit_from _ (digits_decimal by_index n small i lt))

digits_solid : (ds others : List ℕ) → AllPass is_ascii_digit ds → 0 < length ds → prefix_len is_blank (ds ++ others) ≡ 0
digits_solid [] others digits some = absurd (omega arith)
digits_solid (c ∷ cs) others digits some = rw (digit_not_blank c (All-head (λ c. is_ascii_digit c ≡ true) c cs digits)) refl

-- no blank is in front of a number
pub decimal_solid : (n : ℕ) → n < 2 ^ 64 → IsSolid (tight (decimal n))
decimal_solid n small = λ others. digits_solid (decimal n) others (decimal_digits n small) (decimal_nonempty n small)

blanks_no_digit : (blanks rest : List ℕ) → All IsBlank blanks → prefix_len is_ascii_digit rest ≡ 0 → prefix_len is_ascii_digit (blanks ++ rest) ≡ 0
blanks_no_digit [] rest all none = none
blanks_no_digit (c ∷ cs) rest all none = rw (blank_no_digit c (All-head IsBlank c cs all)) refl

pub number_takes : (text : List ℕ) (n : ℕ) (rest : List ℕ) → number_at text ≡ Some (n, rest) → (n < 256) × Stands (tight (decimal n)) text rest
unfolding number_at
number_takes text n rest e =
    let count = prefix_len is_ascii_digit text in
    let found = some_from (byte_of (take count text)) (λ m. Some (m, skipped (drop count text))) (n, rest) e in
    let pair = some_pair_parts found.0 n (skipped (drop count text)) rest found.2 in
    let byte = byte_takes (take count text) n (found.1 ∙ ap (λ (m : ℕ). Some m) pair.0) in
    let blanks = skipped_takes (drop count text) in
    let behind : drop count text ≡ blanks.0 ++ rest = blanks.1 ∙ ap (λ (x : List ℕ). blanks.0 ++ x) pair.1 in
    let parts : text ≡ decimal n ++ (blanks.0 ++ rest) = sym (take-append-drop count text) ∙ ap (λ (x : List ℕ). x ++ drop count text) byte.1 ∙ ap (λ (x : List ℕ). decimal n ++ x) behind in
    (byte.0, (blanks.0, parts, blanks.2, omega arith))

pub number_again : (text : List ℕ) (n : ℕ) (rest : List ℕ) → n < 256 → Stands (tight (decimal n)) text rest → prefix_len is_blank rest ≡ 0 → prefix_len is_ascii_digit rest ≡ 0 → number_at text ≡ Some (n, rest)
unfolding number_at
number_again text n rest small stands no_blank no_digit =
    let run = prefix_len-append is_ascii_digit (decimal n) (stands.0 ++ rest) (decimal_digits n (omega arith)) (blanks_no_digit stands.0 rest stands.2 no_digit) in
    rw (stands.1, run, take_at (decimal n) (stands.0 ++ rest) (length (decimal n)) refl, drop_at (decimal n) (stands.0 ++ rest) (length (decimal n)) refl, byte_again n small, skipped_again stands.0 rest stands.2 no_blank) refl
