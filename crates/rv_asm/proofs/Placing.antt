-- Where labels stand in code that grows.
use Rattle.std.proofs.Common.{◌≡◌, ℕ, zero, suc, ◌+◌, inl, inr, eqb, Bool, true, false, cond, List, [], ◌∷◌, ◌++◌, Option, Some, None, refl, sym, ap, ◌∙◌, arith}
use Rattle.std.proofs.Math.ListN.{set}
use Rattle.std.proofs.lemmas.List.{get_or-set_other}
use Rattle.std.proofs.lemmas.Grind.{get_or-set_at}
use Rattle.std.proofs.lemmas.Bool.Decides.{eqb_tells}
use Rattle.rv_asm.specs.declared.item.Item.{Item}
use Rattle.rv_asm.specs.declared.item.Item.TheVariants.{Line, Bind, Leap}
use Rattle.rv_asm.specs.Items.{size_in, place_from, place_of, TakesRoom}
use Rattle.rv_asm.specs.Places.{place_in, IsUnbound}

pub size_in_append : (xs ys : List Item) → size_in (xs ++ ys) ≡ size_in xs + size_in ys
size_in_append [] ys = omega arith
size_in_append (x ∷ xs) ys = omega (arith, size_in_append xs ys)

-- the first of two places
abbrev pub first_of_two : Option ℕ → Option ℕ → Option ℕ
first_of_two None later = later
first_of_two (Some at) later = Some at

first_of_cond : (b : Bool) (at : ℕ) (place later : Option ℕ) → cond b (Some at) (first_of_two place later) ≡ first_of_two (cond b (Some at) place) later
first_of_cond true at place later = refl
first_of_cond false at place later = refl

first_of_none : (place : Option ℕ) → first_of_two place None ≡ place
first_of_none None = refl
first_of_none (Some at) = refl

pub place_from-append : (at : ℕ) (xs ys : List Item) (label : ℕ)
    → place_from at (xs ++ ys) label ≡ first_of_two (place_from at xs label) (place_from (at + size_in xs) ys label)
place_from-append at [] ys label = ap (λ (n : ℕ). place_from n ys label) (let e : at ≡ at + 0 = omega arith in e)
place_from-append at (Line word ∷ xs) ys label =
    place_from-append (at + 4) xs ys label
    ∙ ap (λ (n : ℕ). first_of_two (place_from (at + 4) xs label) (place_from n ys label)) (let e : at + 4 + size_in xs ≡ at + (4 + size_in xs) = omega arith in e)
place_from-append at (Leap to link ∷ xs) ys label =
    place_from-append (at + 8) xs ys label
    ∙ ap (λ (n : ℕ). first_of_two (place_from (at + 8) xs label) (place_from n ys label)) (let e : at + 8 + size_in xs ≡ at + (8 + size_in xs) = omega arith in e)
place_from-append at (Bind bound ∷ xs) ys label =
    ap (λ (place : Option ℕ). cond (eqb bound label) (Some at) place)
    (
    place_from-append at xs ys label
    ∙ ap (λ (n : ℕ). first_of_two (place_from at xs label) (place_from n ys label)) (let e : at + size_in xs ≡ at + (0 + size_in xs) = omega arith in e)
    )
    ∙ first_of_cond (eqb bound label) at (place_from at xs label) (place_from (at + (0 + size_in xs)) ys label)

-- an item that takes room binds nothing
room_alone : (at : ℕ) (item : Item) (label : ℕ) → TakesRoom item → place_from at (item ∷ []) label ≡ None
room_alone at (Line word) label h = refl
room_alone at (Leap to link) label h = refl
room_alone at (Bind bound) label h = absurd (omega arith)

pub place_of_room : (items : List Item) (item : Item) (label : ℕ) → TakesRoom item → place_of (items ++ item ∷ []) label ≡ place_of items label
place_of_room items item label h =
    place_from-append 0 items (item ∷ []) label
    ∙ ap (λ (later : Option ℕ). first_of_two (place_from 0 items label) later) (room_alone (0 + size_in items) item label h)
    ∙ first_of_none (place_of items label)

pub place_of_bind : (items : List Item) (bound label : ℕ)
    → place_of (items ++ Bind bound ∷ []) label ≡ first_of_two (place_of items label) (cond (eqb bound label) (Some (0 + size_in items)) None)
place_of_bind items bound label = place_from-append 0 items (Bind bound ∷ []) label

-- ---- the table of places

pub place_in_add : (places : List (Option ℕ)) (k : ℕ) → place_in (places ++ None ∷ []) k ≡ place_in places k
place_in_add [] zero = refl
place_in_add [] (suc k) = refl
place_in_add (place ∷ places) zero = refl
place_in_add (place ∷ places) (suc k) = place_in_add places k

-- a label that is not bound, once it is bound behind the items
pub bound_behind : (places : List (Option ℕ)) (items : List Item) (label k size : ℕ) → size ≡ size_in items → IsUnbound places label
    → place_in places k ≡ place_of items k → place_in (set places label (Some size)) k ≡ place_of (items ++ Bind label ∷ []) k
bound_behind places items label k size s unbound h =
    let end = 0 + size_in items in
    let all : size ≡ 0 + size_in items = omega arith in
    elim (eqb_tells label k) [
      | inl same ↦
          let none : place_of items k ≡ None = sym h ∙ (ap (λ (n : ℕ). place_in places n) (sym same.1) ∙ unbound.1) in
          let whole : place_of (items ++ Bind label ∷ []) k ≡ Some size =
          place_of_bind items label k
          ∙ (
          ap (λ (b : Bool). first_of_two (place_of items k) (cond b (Some end) None)) same.0
          ∙ (ap (λ (place : Option ℕ). first_of_two place (Some end)) none ∙ ap (λ (n : ℕ). let place : Option ℕ = Some n in place) (sym all))
          ) in
          get_or-set_at places label k (Some size) None (sym same.1) unbound.0 ∙ sym whole
      | inr other ↦
          let whole : place_of (items ++ Bind label ∷ []) k ≡ place_of items k =
          place_of_bind items label k
          ∙ (ap (λ (b : Bool). first_of_two (place_of items k) (cond b (Some end) None)) other.0 ∙ first_of_none (place_of items k)) in
          get_or-set_other places label k (Some size) None (λ e. other.1 (sym e)) ∙ (h ∙ sym whole)
    ]
