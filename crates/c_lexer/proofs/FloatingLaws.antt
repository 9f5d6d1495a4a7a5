-- No integer constant is a floating constant.
use Rattle.std.proofs.Common.{◌≡◌, ℕ, suc, ◌+◌, ◌<◌, ◌≤◌, ◌⊎◌, List, [], ◌∷◌, drop, get_or, Bool, true, false, cond, ◌&&◌, ◌||◌, ◌==◌, Option, Some, None, option_map, inl, inr, refl, sym, subst, arith}
use Rattle.std.specs.Char.{digit_value, is_digit, is_ascii_digit}
use Rattle.std.specs.Int.{IsInRange}
use Rattle.std.proofs.lemmas.Bool.{ltb-true, true≢false}
use Rattle.std.proofs.lemmas.Bool.Decides.{nat_tests}
use Rattle.std.proofs.lemmas.Option.{none-some}
use Rattle.std.proofs.lemmas.Str.Parse.{digit_from_value}
use Rattle.c_lexer.specs.declared.integer.Radix.{Radix}
use Rattle.c_lexer.specs.declared.integer.Radix.TheVariants.{Octal, Decimal, Hexadecimal}
use Rattle.c_lexer.specs.declared.integer.Suffix.{Suffix}
use Rattle.c_lexer.specs.Numbers.{base, count_of, is_u, is_l, is_marked, suffix_of, Integer, integer_with, integer_of, decimal_count, after_exponent, suffix_follows, is_floating}

-- the first byte is neither a point nor e or E
abbrev Stops : List ℕ → Type 0
Stops [] = Unit {0}
Stops (c ∷ rest) = ((c == 46) ≡ false) × ((c == 101 || c == 69) ≡ false)

-- the first byte is no digit
abbrev StartsNoDigit : List ℕ → Type 0
StartsNoDigit [] = Unit {0}
StartsNoDigit (c ∷ rest) = is_ascii_digit c ≡ false

and_false : (b : Bool) → (b && false) ≡ true → ⊥
and_false true h = true≢false (sym h)
and_false false h = true≢false (sym h)

-- what stops a number makes it no floating constant
stopped : (some whole : Bool) (rest : List ℕ) → Stops rest → cond (get_or rest 0 0 == 46) some (whole && suffix_follows (after_exponent rest)) ≡ true → ⊥
stopped some whole [] stops h = and_false whole h
stopped some whole (c ∷ rest) stops h = and_false whole (rw (stops.0, stops.1) at h)

-- ---- behind the digits of an octal or decimal constant

digit_from : (c : ℕ) → IsInRange 48 57 c → is_ascii_digit c ≡ true
digit_from c range = grind (arith, nat_tests)

is_decimal : (radix c : ℕ) → radix ≤ 10 → is_digit c radix ≡ true → is_ascii_digit c ≡ true
is_decimal radix c le h = let lt : digit_value c < radix = ltb-true _ _ h in digit_from c (digit_from_value c (omega arith))

same_rest : (radix : ℕ) (text : List ℕ) → radix ≤ 10 → StartsNoDigit (drop (count_of radix text) text) → drop (decimal_count text) text ≡ drop (count_of radix text) text
same_rest radix [] le starts = refl
same_rest radix (c ∷ rest) le starts = by (is_digit c radix) (is_decimal radix c le) (same_rest radix rest le) starts
  where
    by : (b : Bool) → (b ≡ true → is_ascii_digit c ≡ true) → (StartsNoDigit (drop (count_of radix rest) rest) → drop (decimal_count rest) rest ≡ drop (count_of radix rest) rest) → StartsNoDigit (drop (cond b (1 + count_of radix rest) 0) (c ∷ rest)) → drop (decimal_count (c ∷ rest)) (c ∷ rest) ≡ drop (cond b (1 + count_of radix rest) 0) (c ∷ rest)
    by true digit others starts =
        let more : 1 + count_of radix rest ≡ suc (count_of radix rest) = omega arith in
        let whole : 1 + decimal_count rest ≡ suc (decimal_count rest) = omega arith in
        rw (digit refl, whole, more) (others (rw more at starts))
    by false digit others starts = rw starts refl

-- ---- suffixes

abbrev IsLetter : ℕ → Type 0
IsLetter c = (c ≡ 117) ⊎ ((c ≡ 85) ⊎ ((c ≡ 108) ⊎ (c ≡ 76)))

u_letter : (c : ℕ) → is_u c ≡ true → IsLetter c
u_letter c h = grind (arith, nat_tests)

l_letter : (c : ℕ) → is_l c ≡ true → IsLetter c
l_letter c h = grind (arith, nat_tests)

letter_stops : (c : ℕ) (rest : List ℕ) → IsLetter c → Stops (c ∷ rest)
letter_stops c rest (inl h) = rw h (refl, refl)
letter_stops c rest (inr (inl h)) = rw h (refl, refl)
letter_stops c rest (inr (inr (inl h))) = rw h (refl, refl)
letter_stops c rest (inr (inr (inr h))) = rw h (refl, refl)

letter_no_digit : (c : ℕ) → IsLetter c → is_ascii_digit c ≡ false
letter_no_digit c (inl h) = rw h refl
letter_no_digit c (inr (inl h)) = rw h refl
letter_no_digit c (inr (inr (inl h))) = rw h refl
letter_no_digit c (inr (inr (inr h))) = rw h refl

one_letter : (u l : Bool) (a b : Suffix) (s : Suffix) → cond u (Some a) (cond l (Some b) None) ≡ Some s → (u ≡ true) ⊎ (l ≡ true)
one_letter true l a b s h = inl refl
one_letter false true a b s h = inr refl
one_letter false false a b s h = absurd (none-some s h)

two_letters : (u l v m : Bool) (a s : Suffix) → cond (u && m || l && v) (Some a) None ≡ Some s → (u ≡ true) ⊎ (l ≡ true)
two_letters true l v m a s h = inl refl
two_letters false true v m a s h = inr refl
two_letters false false v m a s h = absurd (none-some s h)

letter : (c : ℕ) → (is_u c ≡ true) ⊎ (is_l c ≡ true) → IsLetter c
letter c (inl h) = u_letter c h
letter c (inr h) = l_letter c h

first_letter : (text : List ℕ) (s : Suffix) → suffix_of text ≡ Some s → Stops text × StartsNoDigit text
first_letter [] s h = (tt, tt)
first_letter (a ∷ []) s h = let l = letter a (one_letter (is_u a) (is_l a) _ _ s h) in (letter_stops a [] l, letter_no_digit a l)
first_letter (a ∷ b ∷ []) s h = let l = letter a (two_letters (is_u a) (is_l a) (is_u b) (is_l b) _ s h) in (letter_stops a (b ∷ []) l, letter_no_digit a l)
first_letter (a ∷ b ∷ c ∷ rest) s h = absurd (none-some s h)

some_suffix : (b : Bool) (f : Suffix → Integer) (o : Option Suffix) (constant : Integer) → Some constant ≡ cond b None (option_map f o) → (s : Suffix) × (o ≡ Some s)
some_suffix true f o constant h = absurd (none-some constant (sym h))
some_suffix false f None constant h = absurd (none-some constant (sym h))
some_suffix false f (Some s) constant h = (s, refl)

behind_digits : (radix : Radix) (text : List ℕ) (constant : Integer) → Some constant ≡ integer_with radix text → Stops (drop (count_of (base radix) text) text) × StartsNoDigit (drop (count_of (base radix) text) text)
behind_digits radix text constant h =
    let count = count_of (base radix) text in
    let found = some_suffix (count == 0) _ (suffix_of (drop count text)) constant h in first_letter (drop count text) found.0 found.1

-- ---- behind the first digit of a hexadecimal constant

abbrev IsMark : ℕ → Type 0
IsMark c = (c ≡ 120) ⊎ (c ≡ 88)

mark_stops : (c : ℕ) (rest : List ℕ) → IsMark c → Stops (c ∷ rest)
mark_stops c rest (inl h) = rw h (refl, refl)
mark_stops c rest (inr h) = rw h (refl, refl)

mark_no_digit : (c : ℕ) → IsMark c → is_ascii_digit c ≡ false
mark_no_digit c (inl h) = rw h refl
mark_no_digit c (inr h) = rw h refl

marked : (a c : ℕ) → (a == 48 && (c == 120 || c == 88)) ≡ true → (a ≡ 48) × IsMark c
marked a c h = grind (arith, nat_tests)

marked_rest : (text : List ℕ) → is_marked text ≡ true → Stops (drop (decimal_count text) text)
marked_rest [] h = tt
marked_rest (a ∷ []) h = absurd (and_false (a == 48) h)
marked_rest (a ∷ c ∷ rest) h =
    let parts = marked a c h in
    let zero_digit : is_ascii_digit a ≡ true = rw parts.0 refl in
    let mark_digit : is_ascii_digit c ≡ false = mark_no_digit c parts.1 in
    rw (zero_digit, mark_digit) (mark_stops c rest parts.1)

-- ---- all together

stops_at : (text : List ℕ) (m : Bool) → (m ≡ true → Stops (drop (decimal_count text) text)) → (z : Bool) (constant : Integer) → Some constant ≡ integer_with (cond m Hexadecimal (cond z Octal Decimal)) (cond m (drop 2 text) text) → Stops (drop (decimal_count text) text)
stops_at text true hexadecimal z constant h = hexadecimal refl
stops_at text false hexadecimal true constant h =
    let behind = behind_digits Octal text constant h in subst Stops (sym (same_rest 8 text (omega arith) behind.1)) behind.0
stops_at text false hexadecimal false constant h =
    let behind = behind_digits Decimal text constant h in subst Stops (sym (same_rest 10 text (omega arith) behind.1)) behind.0

pub not_floating : (text : List ℕ) (constant : Integer) → Some constant ≡ integer_of text → is_floating text ≡ true → ⊥
unfolding integer_of is_floating
not_floating text constant e floating =
    stopped _ _ (drop (decimal_count text) text) (stops_at text (is_marked text) (marked_rest text) (get_or text 0 0 == 48) constant e) floating
