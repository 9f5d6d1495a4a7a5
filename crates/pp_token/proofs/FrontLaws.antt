-- The token at the front of a text is the longest that is there.
use Rattle.std.proofs.Common.{◌≡◌, ℕ, zero, suc, ◌+◌, ◌<◌, ◌≤◌, ◌==◌, Bool, true, false, ◌&&◌, ◌||◌, not, List, [], ◌∷◌, length, take, Option, Some, None, refl, sym, ap, subst, inl, inr, arith}
use Rattle.std.specs.List.{list_any, list_all}
use Rattle.std.specs.Char.{is_ascii_digit}
use Rattle.std.specs.Str.{bytes_eq}
use Rattle.std.proofs.lemmas.Bool.{eqb-true}
use Rattle.std.proofs.lemmas.Slice.Eq.{bytes_eq-Decides}
use Rattle.pp_token.specs.declared.token.PpKind.{PpKind}
use Rattle.pp_token.specs.declared.spelling.Found.{Found}
use Rattle.pp_token.specs.declared.spelling.Quote.{Quote}
use Rattle.pp_token.specs.declared.spelling.Quote.TheVariants.{Single, Double}
use Rattle.pp_token.specs.declared.spelling.Opening.{Opening}
use Rattle.pp_token.specs.Spelling.{is_nondigit, is_name_character, punctuators_of_1, punctuators_of_2, punctuators_of_3, is_punctuator_of_1, is_punctuator_of_2, is_punctuator_of_3, is_closed, is_between, is_quoted, is_punctuator}
use Rattle.pp_token.specs.Scanning.{name_length, number_length, closing, character_of, kind_of_quote, front_of, opening_at, with_length, quoted, quoted_at, punctuator_length}
use Rattle.pp_token.proofs.UnclosedLaws.{opened, begins, opening_begins}
use Rattle.pp_token.proofs.LongestLaws.{closed_within, closed_prefix, punctuator_prefix, both, one_of, or_true}

-- what a punctuator does not begin with
pub starts : ℕ → Bool
starts c = not (is_nondigit c || is_ascii_digit c) && not (c == 39 || c == 34)

-- nor with a dot and a digit
starts_text : List ℕ → Bool
starts_text [] = true
starts_text (c ∷ []) = starts c
starts_text (c ∷ d ∷ ds) = starts c && not (c == 46 && is_ascii_digit d)

any_of : (test : ℕ → Bool) (xs : List ℕ) (c : ℕ) → list_any (λ p. p == c) xs ≡ true → list_all test xs ≡ true → test c ≡ true
any_of test [] c e all = cc
any_of test (x ∷ xs) c e all =
    let parts = both (test x) (list_all test xs) all in
    elim (one_of (x == c) (list_any (λ p. p == c) xs) e) [
      | inl here ↦ subst (λ y. test y ≡ true) (eqb-true x c here) parts.0
      | inr later ↦ any_of test xs c later parts.1
    ]

any_text : (test : List ℕ → Bool) (xs : List (List ℕ)) (text : List ℕ) → list_any (λ p. bytes_eq p text) xs ≡ true → list_all test xs ≡ true → test text ≡ true
any_text test [] text e all = cc
any_text test (x ∷ xs) text e all =
    let parts = both (test x) (list_all test xs) all in
    elim (one_of (bytes_eq x text) (list_any (λ p. bytes_eq p text) xs) e) [
      | inl here ↦ subst (λ y. test y ≡ true) ((bytes_eq-Decides x text).0 here) parts.0
      | inr later ↦ any_text test xs text later parts.1
    ]

starts_1 : (a : ℕ) → is_punctuator_of_1 a ≡ true → starts a ≡ true
unfolding is_punctuator_of_1 starts is_nondigit
starts_1 a e = any_of starts punctuators_of_1 a e refl

starts_2 : (a b : ℕ) → is_punctuator_of_2 a b ≡ true → starts_text (a ∷ b ∷ []) ≡ true
unfolding is_punctuator_of_2 starts starts_text is_nondigit
starts_2 a b e = any_text starts_text punctuators_of_2 (a ∷ b ∷ []) e refl

starts_3 : (a b c : ℕ) → is_punctuator_of_3 a b c ≡ true → starts_text (a ∷ b ∷ c ∷ []) ≡ true
unfolding is_punctuator_of_3 starts starts_text is_nondigit
starts_3 a b c e = any_text starts_text punctuators_of_3 (a ∷ b ∷ c ∷ []) e refl

punctuator_starts : (c : ℕ) (cs : List ℕ) → is_punctuator (c ∷ cs) ≡ true → starts c ≡ true
unfolding is_punctuator starts_text
punctuator_starts a [] e = starts_1 a e
punctuator_starts a (b ∷ []) e = (both (starts a) (not (a == 46 && is_ascii_digit b)) (starts_2 a b e)).0
punctuator_starts a (b ∷ c ∷ []) e = (both (starts a) (not (a == 46 && is_ascii_digit b)) (starts_3 a b c e)).0
punctuator_starts a (b ∷ c ∷ d ∷ ds) e = cc

not_both : (b : Bool) → not b ≡ true → b ≡ true → ⊥
not_both true e f = cc
not_both false e f = cc

-- behind a dot and before a digit, a punctuator has one character
pub dot_digit : (d : ℕ) (cs : List ℕ) → is_ascii_digit d ≡ true → is_punctuator (46 ∷ d ∷ cs) ≡ true → ⊥
unfolding is_punctuator starts_text
dot_digit d [] digit e = not_both (is_ascii_digit d) (both (starts 46) (not (is_ascii_digit d)) (starts_2 46 d e)).1 digit
dot_digit d (c ∷ []) digit e = not_both (is_ascii_digit d) (both (starts 46) (not (is_ascii_digit d)) (starts_3 46 d c e)).1 digit
dot_digit d (c ∷ x ∷ xs) digit e = cc

pub no_punctuator : (c : ℕ) (cs : List ℕ) → starts c ≡ false → punctuator_length (c ∷ cs) ≡ 0
no_punctuator c cs e = elim (punctuator_length (c ∷ cs)) as (λ n. punctuator_length (c ∷ cs) ≡ n → punctuator_length (c ∷ cs) ≡ 0) [
  | zero ↦ λ is. is
  | suc k ↦ λ is.
      let pre : is_punctuator (take (suc k) (c ∷ cs)) ≡ true = subst (λ (n : ℕ). is_punctuator (take n (c ∷ cs)) ≡ true) is (punctuator_prefix (c ∷ cs) (omega (arith, is))) in
      absurd (let first : starts c ≡ true = punctuator_starts c (take k cs) pre in cc)
] refl

pub no_name : (c : ℕ) (cs : List ℕ) → is_nondigit c ≡ false → name_length (c ∷ cs) ≡ 0
unfolding name_length
no_name c cs e = rw e refl

pub no_number : (c : ℕ) (cs : List ℕ) → is_ascii_digit c ≡ false → (c == 46) ≡ false → number_length (c ∷ cs) ≡ 0
unfolding number_length
no_number c cs e f = rw (e, f) refl

-- quotes
opening_tight : (quote : Quote) (cs : List ℕ) → opening_at (character_of quote ∷ cs) ≡ opened (record { quote = quote; wide = false }) cs
unfolding opening_at
opening_tight Single [] = refl
opening_tight Single (d ∷ ds) = refl
opening_tight Double [] = refl
opening_tight Double (d ∷ ds) = refl

opening_wide : (quote : Quote) (cs : List ℕ) → opening_at (76 ∷ character_of quote ∷ cs) ≡ opened (record { quote = quote; wide = true }) cs
unfolding opening_at
opening_wide Single cs = refl
opening_wide Double cs = refl

abbrev pub literal : Quote → ℕ → Option Found
literal quote n = Some (record { kind = kind_of_quote quote; length = n })

tight_found : (quote : Quote) (k : ℕ) (cs : List ℕ) → closing (character_of quote) false cs ≡ Some k → quoted_at (character_of quote ∷ cs) ≡ literal quote (suc k)
unfolding quoted_at quoted
tight_found quote k cs e = rw (opening_tight quote cs, e) (ap (literal quote) (omega arith))

wide_found : (quote : Quote) (k : ℕ) (cs : List ℕ) → closing (character_of quote) false cs ≡ Some k → quoted_at (76 ∷ character_of quote ∷ cs) ≡ literal quote (suc (suc k))
unfolding quoted_at quoted
wide_found quote k cs e = rw (opening_wide quote cs, e) (ap (literal quote) (omega arith))

between_found : (quote : Quote) (k : ℕ) (text : List ℕ) → k ≤ length text → is_between (character_of quote) (take k text) ≡ true → quoted_at text ≡ literal quote k
between_found quote zero text low e = cc
between_found quote (suc k) [] low e = cc
between_found quote (suc k) (c ∷ cs) low e =
    let parts = both (c == character_of quote) (is_closed (character_of quote) false (take k cs)) e in
    let same : c ≡ character_of quote = eqb-true c (character_of quote) parts.0 in
    rw same (tight_found quote k cs (closed_within (character_of quote) false k cs (omega arith) parts.1))

between_wide : (quote : Quote) (k : ℕ) (cs : List ℕ) → k ≤ length cs → is_between (character_of quote) (take k cs) ≡ true → quoted_at (76 ∷ cs) ≡ literal quote (suc k)
between_wide quote zero cs low e = cc
between_wide quote (suc k) [] low e = cc
between_wide quote (suc k) (c ∷ cs) low e =
    let parts = both (c == character_of quote) (is_closed (character_of quote) false (take k cs)) e in
    let same : c ≡ character_of quote = eqb-true c (character_of quote) parts.0 in
    rw same (wide_found quote k cs (closed_within (character_of quote) false k cs (omega arith) parts.1))

-- what is quoted is found
pub quoted_found : (quote : Quote) (k : ℕ) (text : List ℕ) → k ≤ length text → is_quoted (character_of quote) (take k text) ≡ true → quoted_at text ≡ literal quote k
unfolding is_quoted
quoted_found quote zero text low e = cc
quoted_found quote (suc k) [] low e = cc
quoted_found quote (suc k) (c ∷ cs) low e = elim (one_of (is_between (character_of quote) (c ∷ take k cs)) (c == 76 && is_between (character_of quote) (take k cs)) e) [
  | inl tight ↦ between_found quote (suc k) (c ∷ cs) low tight
  | inr wide ↦
      let parts = both (c == 76) (is_between (character_of quote) (take k cs)) wide in
      let same : c ≡ 76 = eqb-true c 76 parts.0 in
      rw same (between_wide quote k cs (omega arith) parts.1)
]

-- what is found is quoted, and longer than a name there
pub record IsLiteral (text : List ℕ) (found : Found) : Type 0 where
  pub quote : Quote
  pub kind : found.kind ≡ kind_of_quote quote
  pub quoted : is_quoted (character_of quote) (take found.length text) ≡ true
  pub names : name_length text < found.length
  pub numbers : number_length text < found.length
  pub punctuators : punctuator_length text < found.length
  pub some : 1 < found.length

self_quote : (quote : Quote) → (character_of quote == character_of quote) ≡ true
self_quote Single = refl
self_quote Double = refl

is_tight : (quote : Quote) (n : ℕ) (behind : List ℕ) → is_closed (character_of quote) false (take n behind) ≡ true → is_quoted (character_of quote) (take (suc n) (character_of quote ∷ behind)) ≡ true
unfolding is_quoted
is_tight quote n behind e = rw (self_quote quote, e) refl

is_wide : (quote : Quote) (n : ℕ) (behind : List ℕ) → is_closed (character_of quote) false (take n behind) ≡ true → is_quoted (character_of quote) (take (suc (suc n)) (76 ∷ character_of quote ∷ behind)) ≡ true
unfolding is_quoted
is_wide quote n behind e = or_true (is_between (character_of quote) (76 ∷ character_of quote ∷ take n behind)) (is_between (character_of quote) (character_of quote ∷ take n behind)) (rw (self_quote quote, e) refl)

closing_some : (quote : ℕ) (escaped : Bool) (n : ℕ) (cs : List ℕ) → closing quote escaped cs ≡ Some n → is_closed quote escaped (take n cs) ≡ true → 0 < n
closing_some quote escaped zero cs e f = cc
closing_some quote escaped (suc n) cs e f = omega arith

quote_starts : (quote : Quote) → starts (character_of quote) ≡ false
unfolding starts is_nondigit
quote_starts Single = refl
quote_starts Double = refl

L_starts : starts 76 ≡ false
unfolding starts is_nondigit
L_starts = refl

quote_names : (quote : Quote) (behind : List ℕ) → name_length (character_of quote ∷ behind) ≡ 0
unfolding name_length is_nondigit
quote_names Single behind = refl
quote_names Double behind = refl

quote_numbers : (quote : Quote) (behind : List ℕ) → number_length (character_of quote ∷ behind) ≡ 0
unfolding number_length
quote_numbers Single behind = refl
quote_numbers Double behind = refl

wide_names : (quote : Quote) (behind : List ℕ) → name_length (76 ∷ character_of quote ∷ behind) ≡ 1
unfolding name_length is_nondigit is_name_character
wide_names Single behind = refl
wide_names Double behind = refl

wide_numbers : (behind : List ℕ) → number_length (76 ∷ behind) ≡ 0
unfolding number_length
wide_numbers behind = refl

tight_literal : (quote : Quote) (n : ℕ) (behind : List ℕ) → closing (character_of quote) false behind ≡ Some n → IsLiteral (character_of quote ∷ behind) (record { kind = kind_of_quote quote; length = suc n })
tight_literal quote n behind e =
    let shut = closed_prefix (character_of quote) false n behind e in
    let some = closing_some (character_of quote) false n behind e shut in
    record {
      quote = quote;
      kind = refl;
      quoted = is_tight quote n behind shut;
      names = omega (arith, quote_names quote behind);
      numbers = omega (arith, quote_numbers quote behind);
      punctuators = omega (arith, no_punctuator (character_of quote) behind (quote_starts quote));
      some = omega arith;
    }

wide_literal : (quote : Quote) (n : ℕ) (behind : List ℕ) → closing (character_of quote) false behind ≡ Some n → IsLiteral (76 ∷ character_of quote ∷ behind) (record { kind = kind_of_quote quote; length = suc (suc n) })
wide_literal quote n behind e =
    let shut = closed_prefix (character_of quote) false n behind e in
    let some = closing_some (character_of quote) false n behind e shut in
    record {
      quote = quote;
      kind = refl;
      quoted = is_wide quote n behind shut;
      names = omega (arith, wide_names quote behind);
      numbers = omega (arith, wide_numbers (character_of quote ∷ behind));
      punctuators = omega (arith, no_punctuator 76 (character_of quote ∷ behind) L_starts);
      some = omega arith;
    }

one_more : (kind : PpKind) (n : ℕ) (wide : Bool) (quote : Quote) → wide ≡ false → (let it : Found = record { kind = kind; length = suc n } in it) ≡ record { kind = kind; length = front_of (record { quote = quote; wide = wide }) + n }
one_more kind n wide quote e = rw e (ap (λ (m : ℕ). (let it : Found = record { kind = kind; length = m } in it)) (omega arith))

two_more : (kind : PpKind) (n : ℕ) (wide : Bool) (quote : Quote) → wide ≡ true → (let it : Found = record { kind = kind; length = suc (suc n) } in it) ≡ record { kind = kind; length = front_of (record { quote = quote; wide = wide }) + n }
two_more kind n wide quote e = rw e (ap (λ (m : ℕ). (let it : Found = record { kind = kind; length = m } in it)) (omega arith))

literal_from : (text behind : List ℕ) (opening : Opening) (n : ℕ) → begins text opening behind → closing (character_of opening.quote) false behind ≡ Some n → IsLiteral text (record { kind = kind_of_quote opening.quote; length = front_of opening + n })
literal_from text behind opening n is e = elim is [
  | inl tight ↦ subst (λ (t : List ℕ). IsLiteral t (record { kind = kind_of_quote opening.quote; length = front_of opening + n })) (sym tight.0) (subst (IsLiteral (character_of opening.quote ∷ behind)) (one_more (kind_of_quote opening.quote) n opening.wide opening.quote tight.1) (tight_literal opening.quote n behind e))
  | inr wide ↦ subst (λ (t : List ℕ). IsLiteral t (record { kind = kind_of_quote opening.quote; length = front_of opening + n })) (sym wide.0) (subst (IsLiteral (76 ∷ character_of opening.quote ∷ behind)) (two_more (kind_of_quote opening.quote) n opening.wide opening.quote wide.1) (wide_literal opening.quote n behind e))
]

found_in : Found → Option Found → Found
found_in other None = other
found_in other (Some found) = found

pub same_found : (a b : Found) → Some a ≡ Some b → a ≡ b
unfolding found_in
same_found a b e = ap (found_in a) e

literal_with : (text behind : List ℕ) (opening : Opening) (n : Option ℕ) (found : Found) → begins text opening behind → closing (character_of opening.quote) false behind ≡ n → with_length opening n ≡ Some found → IsLiteral text found
literal_with text behind opening None found is e h = cc
literal_with text behind opening (Some n) found is e h = subst (IsLiteral text) (same_found (record { kind = kind_of_quote opening.quote; length = front_of opening + n }) found h) (literal_from text behind opening n is e)

pub literal_at : (text : List ℕ) (found : Found) → quoted_at text ≡ Some found → IsLiteral text found
unfolding quoted_at quoted
literal_at text found e = elim (opening_at text) as (λ o. opening_at text ≡ o → IsLiteral text found) [
  | None ↦ λ none. absurd (let h = rw none at e in cc)
  | Some it ↦ λ some. literal_with text it.1 it.0 (closing (character_of it.0.quote) false it.1) found (opening_begins text it.1 it.0 some) refl (rw some at e)
] refl

pub nondigit_starts : (c : ℕ) → is_nondigit c ≡ true → starts c ≡ false
unfolding starts
nondigit_starts c e = rw e refl

pub digit_starts : (c : ℕ) → is_ascii_digit c ≡ true → starts c ≡ false
unfolding starts
digit_starts c e = started (is_nondigit c) (is_ascii_digit c) (not (c == 39 || c == 34)) e where
  started : (a b d : Bool) → b ≡ true → (not (a || b) && d) ≡ false
  started true b d f = refl
  started false true d f = refl
  started false false d f = cc
