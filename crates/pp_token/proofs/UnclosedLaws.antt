-- A quote that isn't closed on its line leaves each later one like it unclosed there.
use Rattle.std.proofs.Common.{◌≡◌, ℕ, ◌==◌, ◌⊎◌, Bool, true, false, ◌||◌, cond, List, [], ◌∷◌, ◌++◌, Option, Some, None, refl, sym, ap, subst, inl, inr}
use Rattle.std.specs.List.{list_any}
use Rattle.std.proofs.lemmas.Bool.{eqb-true, eq-eqb}
use Rattle.pp_token.specs.declared.spelling.Quote.{Quote}
use Rattle.pp_token.specs.declared.spelling.Quote.TheVariants.{Single, Double}
use Rattle.pp_token.specs.declared.spelling.Opening.{Opening}
use Rattle.pp_token.specs.declared.piece.Unclosed.{Unclosed}
use Rattle.pp_token.specs.Scanning.{further, closing, quote_of, character_of, with_opening, opening_at, with_length, quoted, quoted_at}
use Rattle.pp_token.specs.Stepping.{AllOpen, Knows, is_marked, marked}

further_none : (n : ℕ) (o : Option ℕ) → further n o ≡ None → o ≡ None
further_none n None e = refl
further_none n (Some k) e = cc

-- why no quote closes
no_close : (ends closes : Bool) (rest : Option ℕ) → cond ends None (cond closes (Some 1) (further 1 rest)) ≡ None → (ends ≡ true) ⊎ ((closes ≡ false) × (rest ≡ None))
no_close true closes rest e = inl refl
no_close false true rest e = cc
no_close false false rest e = inr (refl, further_none 1 rest e)

contradicts : (b : Bool) (P : Type 0) → b ≡ false → b ≡ true → P
contradicts true P e f = cc
contradicts false P e f = cc

pub all_open : (quote : ℕ) (escaped : Bool) (cs : List ℕ) → closing quote escaped cs ≡ None → AllOpen quote cs
all_open quote escaped [] e = tt
all_open quote true (c ∷ cs) e = elim (no_close (c == 10) false (closing quote false cs) e) [
  | inl ends ↦ inl (eqb-true c 10 ends)
  | inr still ↦ inr ((λ same. still.1), all_open quote false cs still.1)
]
all_open quote false (c ∷ cs) e = elim (no_close (c == 10) (c == quote) (closing quote (c == 92) cs) e) [
  | inl ends ↦ inl (eqb-true c 10 ends)
  | inr still ↦ inr ((λ same. contradicts (c == quote) (closing quote false cs ≡ None) still.0 (eq-eqb c quote same)), all_open quote (c == 92) cs still.1)
]

abbrev pub opened : Opening → List ℕ → Option (Opening × List ℕ)
opened opening behind = Some (opening, behind)

abbrev opening_in : Opening → Option (Opening × List ℕ) → Opening
opening_in other None = other
opening_in other (Some it) = it.0

abbrev rest_in : Option (Opening × List ℕ) → List ℕ
rest_in None = []
rest_in (Some it) = it.1

same_opening : (a b : Opening) (x y : List ℕ) → opened a x ≡ opened b y → a ≡ b
same_opening a b x y e = ap (opening_in a) e

same_behind : (a b : Opening) (x y : List ℕ) → opened a x ≡ opened b y → x ≡ y
same_behind a b x y e = ap rest_in e

-- what a text begins with where something opens
abbrev pub begins : List ℕ → Opening → List ℕ → Type 0
begins text opening behind = ((text ≡ character_of opening.quote ∷ behind) × (opening.wide ≡ false)) ⊎ ((text ≡ 76 ∷ character_of opening.quote ∷ behind) × (opening.wide ≡ true))

quote_is : (single double : Bool) (c : ℕ) → (single ≡ true → c ≡ 39) → (double ≡ true → c ≡ 34) → (quote : Quote) → cond single (Some Single) (cond double (Some Double) None) ≡ Some quote → c ≡ character_of quote
quote_is true double c s d Single e = s refl
quote_is true double c s d Double e = cc
quote_is false true c s d Single e = cc
quote_is false true c s d Double e = d refl
quote_is false false c s d quote e = cc

quote_of_is : (c : ℕ) (quote : Quote) → quote_of c ≡ Some quote → c ≡ character_of quote
quote_of_is c quote e = quote_is (c == 39) (c == 34) c (λ s. eqb-true c 39 s) (λ d. eqb-true c 34 d) quote e

opening_parts : (wide : Bool) (behind rest : List ℕ) (c : ℕ) (quote : Option Quote) (opening : Opening) → quote_of c ≡ quote → with_opening wide behind quote ≡ opened opening rest → (c ≡ character_of opening.quote) × (behind ≡ rest) × (opening.wide ≡ wide)
opening_parts wide behind rest c None opening e h = cc
opening_parts wide behind rest c (Some quote) opening e h =
    let it : Opening = record { quote = quote; wide = wide } in
    let same : it ≡ opening = same_opening it opening behind rest h in (
      subst (λ (o : Opening). c ≡ character_of o.quote) same (quote_of_is c quote e),
      same_behind it opening behind rest h,
      sym (ap (λ (o : Opening). o.wide) same),
    )

begins_two : (is_L : Bool) (c d : ℕ) (ds behind : List ℕ) (opening : Opening) → (is_L ≡ true → c ≡ 76) → cond is_L (with_opening true ds (quote_of d)) (with_opening false (d ∷ ds) (quote_of c)) ≡ opened opening behind → begins (c ∷ d ∷ ds) opening behind
begins_two true c d ds behind opening l e =
    let parts = opening_parts true ds behind d (quote_of d) opening refl e in
    inr (rw (l refl, parts.0, parts.1) refl, parts.2)
begins_two false c d ds behind opening l e =
    let parts = opening_parts false (d ∷ ds) behind c (quote_of c) opening refl e in
    inl (rw (parts.0, parts.1) refl, parts.2)

pub opening_begins : (text behind : List ℕ) (opening : Opening) → opening_at text ≡ opened opening behind → begins text opening behind
unfolding opening_at
opening_begins [] behind opening e = cc
opening_begins (c ∷ []) behind opening e =
    let parts = opening_parts false [] behind c (quote_of c) opening refl e in
    inl (rw (parts.0, parts.1) refl, parts.2)
opening_begins (c ∷ d ∷ ds) behind opening e = begins_two (c == 76) c d ds behind opening (λ l. eqb-true c 76 l) e

open_front : (quote : Quote) (behind : List ℕ) → AllOpen (character_of quote) (character_of quote ∷ behind) → closing (character_of quote) false behind ≡ None
open_front Single behind all = elim all [ inl e ↦ cc | inr it ↦ it.0 refl ]
open_front Double behind all = elim all [ inl e ↦ cc | inr it ↦ it.0 refl ]

open_wide : (q : ℕ) (rest : List ℕ) → AllOpen q (76 ∷ rest) → AllOpen q rest
open_wide q rest all = elim all [ inl e ↦ cc | inr it ↦ it.1 ]

open_begun : (opening : Opening) (text behind : List ℕ) → begins text opening behind → AllOpen (character_of opening.quote) text → closing (character_of opening.quote) false behind ≡ None
open_begun opening text behind is all = elim is [
  | inl e ↦ open_front opening.quote behind (subst (AllOpen (character_of opening.quote)) e.0 all)
  | inr e ↦ open_front opening.quote behind (open_wide (character_of opening.quote) (character_of opening.quote ∷ behind) (subst (AllOpen (character_of opening.quote)) e.0 all))
]

marked_open : (unclosed : Unclosed) (text : List ℕ) (quote : Quote) → Knows unclosed text → is_marked unclosed quote ≡ true → AllOpen (character_of quote) text
marked_open unclosed text Single knows e = knows.singles e
marked_open unclosed text Double knows e = knows.doubles e

-- a quote that is marked is no literal's
pub known_open : (unclosed : Unclosed) (text behind : List ℕ) (opening : Opening) → opening_at text ≡ opened opening behind → Knows unclosed text → is_marked unclosed opening.quote ≡ true → None ≡ quoted_at text
unfolding quoted_at quoted
known_open unclosed text behind opening e knows mark =
    rw (e, open_begun opening text behind (opening_begins text behind opening e) (marked_open unclosed text opening.quote knows mark)) refl

closed_none : (opening : Opening) (n : Option ℕ) → with_length opening n ≡ None → n ≡ None
closed_none opening None e = refl
closed_none opening (Some k) e = cc

front_open : (quote : Quote) (behind : List ℕ) → closing (character_of quote) false behind ≡ None → AllOpen (character_of quote) (character_of quote ∷ behind)
front_open Single behind e = inr ((λ same. e), all_open 39 false behind e)
front_open Double behind e = inr ((λ same. e), all_open 34 false behind e)

wide_open : (quote : Quote) (rest : List ℕ) → AllOpen (character_of quote) rest → AllOpen (character_of quote) (76 ∷ rest)
wide_open Single rest all = inr ((λ (same : 76 ≡ 39). cc), all)
wide_open Double rest all = inr ((λ (same : 76 ≡ 34). cc), all)

begun_open : (opening : Opening) (text behind : List ℕ) → begins text opening behind → closing (character_of opening.quote) false behind ≡ None → AllOpen (character_of opening.quote) text
begun_open opening text behind is none = elim is [
  | inl e ↦ subst (AllOpen (character_of opening.quote)) (sym e.0) (front_open opening.quote behind none)
  | inr e ↦ subst (AllOpen (character_of opening.quote)) (sym e.0) (wide_open opening.quote (character_of opening.quote ∷ behind) (front_open opening.quote behind none))
]

with_mark : (unclosed : Unclosed) (quote : Quote) (text : List ℕ) → Knows unclosed text → AllOpen (character_of quote) text → Knows (marked unclosed quote) text
with_mark unclosed Single text knows all = record { singles = λ e. all; doubles = knows.doubles }
with_mark unclosed Double text knows all = record { singles = knows.singles; doubles = λ e. all }

-- one that isn't closed may be marked
pub newly_known : (unclosed : Unclosed) (text behind : List ℕ) (opening : Opening) → opening_at text ≡ opened opening behind → quoted opening behind ≡ None → Knows unclosed text → Knows (marked unclosed opening.quote) text
unfolding quoted
newly_known unclosed text behind opening e none knows =
    with_mark unclosed opening.quote text knows (begun_open opening text behind (opening_begins text behind opening e) (closed_none opening (closing (character_of opening.quote) false behind) none))

either_false : (a b : Bool) → (a || b) ≡ false → (a ≡ false) × (b ≡ false)
either_false true b e = cc
either_false false b e = (refl, e)

-- passing over characters of the line keeps what is known
open_passed : (quote : ℕ) (passed rest : List ℕ) → list_any (λ c. c == 10) passed ≡ false → AllOpen quote (passed ++ rest) → AllOpen quote rest
open_passed quote [] rest e all = all
open_passed quote (c ∷ cs) rest e all =
    let parts = either_false (c == 10) (list_any (λ (x : ℕ). x == 10) cs) e in
    elim all [
      | inl ends ↦ contradicts (c == 10) (AllOpen quote rest) parts.0 (eq-eqb c 10 ends)
      | inr it ↦ open_passed quote cs rest parts.1 it.1
    ]

pub knows_behind : (unclosed : Unclosed) (passed rest : List ℕ) → list_any (λ c. c == 10) passed ≡ false → Knows unclosed (passed ++ rest) → Knows unclosed rest
knows_behind unclosed passed rest e knows = record {
  singles = λ m. open_passed 39 passed rest e (knows.singles m);
  doubles = λ m. open_passed 34 passed rest e (knows.doubles m);
}
