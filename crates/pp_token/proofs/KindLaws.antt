-- The kind of a text that is one token.
use Rattle.std.proofs.Common.{◌≡◌, ℕ, zero, suc, ◌<◌, ◌==◌, Bool, true, false, ◌||◌, cond, List, [], ◌∷◌, length, take, Option, Some, None, is_some, unwrap_or, refl, sym, subst, inl, inr, arith}
use Rattle.std.proofs.lemmas.Bool.{eqb-true}
use Rattle.std.proofs.lemmas.List.{take_all}
use Rattle.pp_token.specs.declared.token.PpKind.{PpKind}
use Rattle.pp_token.specs.declared.token.PpKind.TheVariants as kinds
use Rattle.pp_token.specs.Spelling.{is_nondigit, is_blank, is_punctuator_of_1, is_punctuator_of_2, is_punctuator_of_3, is_name, is_number, is_quoted, is_punctuator, is_one, kind_of, longest, is_token, longest_token}
use Rattle.pp_token.specs.Stepping.{IsMark}
use Rattle.pp_token.proofs.LongestLaws.{not_true, one_of}
use Rattle.pp_token.proofs.TokenLaws.{longest_is}

abbrev IsNone : ℕ → Type 0
IsNone c = (cs : List ℕ) → kind_of (c ∷ cs) ≡ None

space_none : IsNone 32
unfolding kind_of is_name is_number is_quoted is_punctuator is_one is_nondigit is_punctuator_of_1 is_punctuator_of_2 is_punctuator_of_3 is_blank
space_none [] = refl
space_none (b ∷ []) = refl
space_none (b ∷ c ∷ []) = refl
space_none (b ∷ c ∷ d ∷ ds) = refl

tab_none : IsNone 9
unfolding kind_of is_name is_number is_quoted is_punctuator is_one is_nondigit is_punctuator_of_1 is_punctuator_of_2 is_punctuator_of_3 is_blank
tab_none [] = refl
tab_none (b ∷ []) = refl
tab_none (b ∷ c ∷ []) = refl
tab_none (b ∷ c ∷ d ∷ ds) = refl

line_feed_none : IsNone 10
unfolding kind_of is_name is_number is_quoted is_punctuator is_one is_nondigit is_punctuator_of_1 is_punctuator_of_2 is_punctuator_of_3 is_blank
line_feed_none [] = refl
line_feed_none (b ∷ []) = refl
line_feed_none (b ∷ c ∷ []) = refl
line_feed_none (b ∷ c ∷ d ∷ ds) = refl

vertical_tab_none : IsNone 11
unfolding kind_of is_name is_number is_quoted is_punctuator is_one is_nondigit is_punctuator_of_1 is_punctuator_of_2 is_punctuator_of_3 is_blank
vertical_tab_none [] = refl
vertical_tab_none (b ∷ []) = refl
vertical_tab_none (b ∷ c ∷ []) = refl
vertical_tab_none (b ∷ c ∷ d ∷ ds) = refl

form_feed_none : IsNone 12
unfolding kind_of is_name is_number is_quoted is_punctuator is_one is_nondigit is_punctuator_of_1 is_punctuator_of_2 is_punctuator_of_3 is_blank
form_feed_none [] = refl
form_feed_none (b ∷ []) = refl
form_feed_none (b ∷ c ∷ []) = refl
form_feed_none (b ∷ c ∷ d ∷ ds) = refl

blank_none : (c : ℕ) → is_blank c ≡ true → IsNone c
unfolding is_blank
blank_none c e = elim (one_of (c == 32) (c == 9 || (c == 11 || c == 12)) e) [
  | inl space ↦ subst IsNone (sym (eqb-true c 32 space)) space_none
  | inr other ↦ elim (one_of (c == 9) (c == 11 || c == 12) other) [
    | inl tab ↦ subst IsNone (sym (eqb-true c 9 tab)) tab_none
    | inr feed ↦ elim (one_of (c == 11) (c == 12) feed) [
      | inl vertical ↦ subst IsNone (sym (eqb-true c 11 vertical)) vertical_tab_none
      | inr form ↦ subst IsNone (sym (eqb-true c 12 form)) form_feed_none
    ]
  ]
]

nothing_none : kind_of [] ≡ None
unfolding kind_of is_name is_number is_quoted is_punctuator is_one
nothing_none = refl

white_none : (blank ends : Bool) (c : ℕ) (cs : List ℕ) → is_blank c ≡ blank → (c == 10) ≡ ends → (IsMark (c ∷ cs) → ⊥) → kind_of (c ∷ cs) ≡ None
white_none true ends c cs e f differs = blank_none c e cs
white_none false true c cs e f differs = (subst IsNone (sym (eqb-true c 10 f)) line_feed_none) cs
white_none false false c cs e f differs = absurd (differs (record { some = omega arith; no_blank = e; no_end = f }))

pub kind_of_white : (text : List ℕ) → (IsMark text → ⊥) → None ≡ kind_of text
kind_of_white [] differs = sym nothing_none
kind_of_white (c ∷ cs) differs = sym (white_none (is_blank c) (c == 10) c cs refl refl differs)

-- the longest of all, where all is one
longest_all : (test : List ℕ → Bool) (text : List ℕ) → 0 < length text → test text ≡ true → longest test (length text) text ≡ length text
longest_all test text some e = longest_is test (length text) (length text) text some (omega arith) (rw (take_all (length text) text (omega arith)) e) (λ k more low. absurd (omega arith))

some_kind : (kind : Option PpKind) → is_some kind ≡ true → Some (unwrap_or kind kinds.Other) ≡ kind
some_kind None e = cc
some_kind (Some kind) e = refl

no_kind : (kind : Option PpKind) → is_some kind ≡ false → None ≡ kind
no_kind None e = refl
no_kind (Some kind) e = cc

passes_by : (test : List ℕ → Bool) (b : Bool) (m n : ℕ) (text : List ℕ) → test (take (suc m) text) ≡ b → (longest test m text ≡ n → test (take n text) ≡ true) → cond b (suc m) (longest test m text) ≡ n → test (take n text) ≡ true
passes_by test true m n text e f h = subst (λ (x : ℕ). test (take x text) ≡ true) h e
passes_by test false m n text e f h = f h

longest_passes : (test : List ℕ → Bool) (m n : ℕ) (text : List ℕ) → 0 < n → longest test m text ≡ n → test (take n text) ≡ true
longest_passes test zero n text some e = absurd (omega (arith, e))
longest_passes test (suc m) n text some e = passes_by test (test (take (suc m) text)) m n text refl (λ h. longest_passes test m n text some h) e

pub kind_of_longest : (text : List ℕ) → IsMark text → (longest_token text).length ≡ length text → Some (longest_token text).kind ≡ kind_of text
unfolding longest_token
kind_of_longest text mark e =
    let some : 0 < length text = mark.some in
    let here : is_token (take (length text) text) ≡ true = longest_passes is_token (length text) (length text) text some e in
    let whole : take (length text) text ≡ text = take_all (length text) text (omega arith) in
    rw (e, whole) (some_kind (kind_of text) (rw whole at here))

pub kind_of_shorter : (text : List ℕ) → IsMark text → ((longest_token text).length ≡ length text → ⊥) → None ≡ kind_of text
unfolding longest_token
kind_of_shorter text mark differs = no_kind (kind_of text) (not_true (is_some (kind_of text)) (λ e. differs (longest_all is_token text mark.some e)))
