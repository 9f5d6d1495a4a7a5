-- Which tokens break a rule, kind by kind.
use Rattle.std.proofs.Common.{◌≡◌, ℕ, ◌^◌, ◌<◌, ◌≤◌, List, [], ◌∷◌, ◌++◌, length, map, get_or, true, false, Option, Some, Result, Ok, Err, inl, inr, refl, sym, ap, subst, ◌∙◌, arith}
use Rattle.std.specs.Prelude.{MatchOption, unwrap_or}
use Rattle.std.proofs.lemmas.Bool.{true≢false}
use Rattle.std.proofs.lemmas.Option.{none-some}
use Rattle.fsc_base.specs.declared.place.Place.{Place}
use Rattle.fsc_base.specs.declared.place.Refused.{Refused}
use Rattle.fsc_base.specs.declared.place.Refused.TheVariants as refusals
use Rattle.fsc_base.specs.declared.rule.Rule.{Rule}
use Rattle.fsc_base.specs.declared.rule.Rule.TheVariants.{K45, L06}
use Rattle.pp_token.specs.declared.token.PpKind.{PpKind}
use Rattle.pp_token.specs.declared.token.PpKind.TheVariants as pp
use Rattle.c_lexer.specs.declared.token.BasicType.{BasicType}
use Rattle.c_lexer.specs.declared.token.BasicType.TheVariants.{UnsignedLong}
use Rattle.c_lexer.specs.declared.token.TokenKind.{TokenKind}
use Rattle.c_lexer.specs.declared.token.TokenKind.TheVariants.{Char, Int}
use Rattle.c_lexer.specs.Numbers.{Integer, integer_of, value_of, candidates, first_fitting}
use Rattle.c_lexer.specs.Characters.{read_as, character, values_of, IsBad, byte_of}
use Rattle.c_lexer.specs.Lexing.{is_wide, quoted, characters_of, first_byte, numbered, kind_of, Has, IsNoToken, HasBadEscape, IsFloating, IsTooLarge, IsWideOrSeveral, Breaks}
use Rattle.c_lexer.specs.Answers.{IsUnbroken, IsKind, Becomes, located, AddsCharacters, AddsString}
use Rattle.c_lexer.proofs.FloatingLaws.{not_floating}
use Rattle.c_lexer.proofs.CharacterLaws.{others, values_first, values_some}

pub unbroken : (kind : PpKind) (text : List ℕ) → (IsNoToken kind text → ⊥) → (HasBadEscape kind text → ⊥) → (IsFloating kind text → ⊥) → (IsTooLarge kind text → ⊥) → (IsWideOrSeveral kind text → ⊥) → IsUnbroken kind text
unbroken kind text a b c d e rule (inl h) = a h.1
unbroken kind text a b c d e rule (inr (inl h)) = b h.1
unbroken kind text a b c d e rule (inr (inr (inl h))) = c h.1
unbroken kind text a b c d e rule (inr (inr (inr (inl h)))) = d h.1
unbroken kind text a b c d e rule (inr (inr (inr (inr h)))) = e h.1

-- ---- character constants

pub char_bad : (text inner : List ℕ) (rule : Rule) → inner ≡ quoted text → 0 < length inner → (rule ≡ K45) × IsBad (character (get_or inner 0 0) (others inner)).value → Breaks rule pp.Char text
unfolding characters_of
char_bad text inner rule e some bad =
    let values = ap values_of (sym e) ∙ values_first inner (character (get_or inner 0 0) (others inner)) some refl in
    inr (inl (bad.0, subst (Has IsBad) (sym values) (inl bad.1)))

pub char_several : (text inner : List ℕ) (byte : ℕ) (behind : List ℕ) → inner ≡ quoted text → 0 < length inner → character (get_or inner 0 0) (others inner) ≡ read_as byte behind → 0 < length behind → Breaks L06 pp.Char text
unfolding characters_of
char_several text inner byte behind e some is more =
    let values = ap values_of (sym e) ∙ values_first inner (read_as byte behind) some is in
    let many : 1 < length (values_of (quoted text)) = omega (arith, values_some behind more, ap (λ (vs : List (Option ℕ)). length vs) values) in
    inr (inr (inr (inr (refl, inr many))))

has_none : (value : ℕ) (values : List (Option ℕ)) → value < 256 → values ≡ Some value ∷ [] → Has IsBad values → ⊥
has_none value values small e bad = by (subst (Has IsBad) e bad)
  where
    by : Has IsBad (Some value ∷ []) → ⊥
    by (inl large) = omega arith
    by (inr nothing) = nothing

not_wide : (text : List ℕ) → is_wide text ≡ false → is_wide text ≡ true → ⊥
not_wide text narrow wide = true≢false (sym wide ∙ narrow)

pub char_good : (text inner : List ℕ) (byte : ℕ) (behind : List ℕ) → is_wide text ≡ false → inner ≡ quoted text → 0 < length inner → byte < 256 → character (get_or inner 0 0) (others inner) ≡ read_as byte behind → length behind ≡ 0 → (Char byte ≡ kind_of pp.Char text) × IsUnbroken pp.Char text
unfolding characters_of
char_good text inner byte [] narrow e some small is none =
    let values = ap values_of (sym e) ∙ values_first inner (read_as byte []) some is in
    let several : IsWideOrSeveral pp.Char text → ⊥ = λ h. elim h [ inl wide ↦ not_wide text narrow wide | inr many ↦ omega (arith, ap (λ (vs : List (Option ℕ)). length vs) values, many) ] in
    (ap (λ (vs : List (Option ℕ)). Char (first_byte vs)) (sym values), unbroken pp.Char text (λ empty. omega (arith, ap (λ (xs : List ℕ). length xs) (e ∙ empty))) (has_none byte (values_of (quoted text)) small values) (λ h. h) (λ h. h) several)
char_good text inner byte (c ∷ behind) narrow e some small is none = absurd (omega arith)

-- ---- strings

pub string_good : (text inner : List ℕ) → is_wide text ≡ false → inner ≡ quoted text → (Has IsBad (values_of inner) → ⊥) → IsUnbroken pp.Str text
unfolding characters_of
string_good text inner narrow e good =
    unbroken pp.Str text (λ h. h) (λ bad. good (subst (λ (xs : List ℕ). Has IsBad (values_of xs)) (sym e) bad)) (λ h. h) (λ h. h) (not_wide text narrow)

pub string_bad : (text inner : List ℕ) (rule : Rule) → inner ≡ quoted text → (rule ≡ K45) × Has IsBad (values_of inner) → Breaks rule pp.Str text
unfolding characters_of
string_bad text inner rule e bad = inr (inl (bad.0, subst (λ (xs : List ℕ). Has IsBad (values_of xs)) e bad.1))

pub adds_string : {X : Type 0} (old new text inner : List ℕ) (place : Place) (r : Result X Refused) → is_wide text ≡ false → inner ≡ quoted text → AddsCharacters old new inner place r → AddsString old new text place r
unfolding characters_of
adds_string old new text inner place (Ok done) narrow e adds =
    (adds.0 ∙ ap (λ (xs : List ℕ). old ++ map byte_of (values_of xs)) e, string_good text inner narrow e adds.1)
adds_string old new text inner place (Err refusals.NoMemory) narrow e adds = tt
adds_string old new text inner place (Err (refusals.Broken broken)) narrow e adds =
    (adds.0, string_bad text inner broken.rule e (adds.1, adds.2))

-- ---- numbers

pub number_good : (text : List ℕ) (constant : Integer) (value : ℕ) (basic : BasicType) → Some constant ≡ integer_of text → value ≡ value_of constant → value < 2 ^ 32 → basic ≡ unwrap_or (first_fitting value (candidates constant.radix constant.suffix)) UnsignedLong → (Int value basic ≡ kind_of pp.Number text) × IsUnbroken pp.Number text
number_good text constant value basic e v small b =
    let one : Int value basic ≡ numbered (Some constant) = rw (b, v) refl in
    let some : IsNoToken pp.Number text → ⊥ = λ no_token. none-some constant (sym no_token.0 ∙ sym e) in
    let large : IsTooLarge pp.Number text → ⊥ = λ h. let bound : 2 ^ 32 ≤ value_of constant = subst (λ (o : Option Integer). MatchOption o ⊥ (λ (c : Integer). 2 ^ 32 ≤ value_of c)) (sym e) h in omega arith in
    (one ∙ ap numbered e, unbroken pp.Number text some (λ h. h) (not_floating text constant e) large (λ h. h))

-- ---- single tokens

pub located_becomes : (kind : PpKind) (text : List ℕ) (place : Place) (made : Result TokenKind Rule) → IsKind kind text made → Becomes kind text place (located place made)
located_becomes kind text place (Ok found) is = is
located_becomes kind text place (Err rule) breaks = (refl, breaks)
