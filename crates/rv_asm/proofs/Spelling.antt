-- The words of items.
use Rattle.std.proofs.Common.{◌≡◌, ℕ, zero, suc, ◌+◌, ◌<◌, ◌≤◌, List, [], ◌∷◌, ◌++◌, length, take, get_or, Option, IsSome, refl, sym, ap, subst, ◌∙◌, arith}
use Rattle.std.proofs.Math.Seq.{take-suc}
use Rattle.std.proofs.lemmas.List.{append_assoc}
use Rattle.std.specs.Int.{w32, to_le_bytes}
use Rattle.std.proofs.lemmas.Grind.{flat_map-append}
use Rattle.rv_asm.specs.declared.item.Item.{Item}
use Rattle.rv_asm.specs.declared.item.Item.TheVariants.{Line, Bind, Leap}
use Rattle.rv_asm.specs.Items.{size_of, size_in, place_of}
use Rattle.rv_asm.specs.Places.{place_in}
use Rattle.rv_asm.specs.Code.{leap_to, words_at, words_from, IsBound, AreBound, Adds, AddsItems, IsCode, bytes_of_words}

-- ---- items behind items

pub words_from-append : (places : ℕ → Option ℕ) (at : ℕ) (xs ys : List Item)
    → words_from places at (xs ++ ys) ≡ words_from places at xs ++ words_from places (at + size_in xs) ys
words_from-append places at [] ys = ap (λ (n : ℕ). words_from places n ys) (let e : at ≡ at + 0 = omega arith in e)
words_from-append places at (x ∷ xs) ys =
    ap (λ (rest : List ℕ). words_at places at x ++ rest)
    (
    words_from-append places (at + size_of x) xs ys
    ∙ ap (λ (n : ℕ). words_from places (at + size_of x) xs ++ words_from places n ys)
    (let e : at + size_of x + size_in xs ≡ at + (size_of x + size_in xs) = omega arith in e)
    )
    ∙ sym (append_assoc (words_at places at x) (words_from places (at + size_of x) xs) (words_from places (at + (size_of x + size_in xs)) ys))

pub bound_all : (places : ℕ → Option ℕ) (xs ys : List Item) → AreBound places xs → AreBound places ys → AreBound places (xs ++ ys)
bound_all places [] ys h more = more
bound_all places (x ∷ xs) ys h more = (h.0, bound_all places xs ys h.1 more)

pub adds_then : (old mid new : List ℕ) (front back : List ℕ) → Adds old mid front → Adds mid new back → Adds old new (front ++ back)
adds_then old mid new front back h more =
    more
    ∙ ap (λ (bytes : List ℕ). bytes ++ bytes_of_words back) h
    ∙ append_assoc old (bytes_of_words front) (bytes_of_words back)
    ∙ ap (λ (bytes : List ℕ). old ++ bytes) (sym (flat_map-append (to_le_bytes w32) front back))

pub items_then : (old mid new : List ℕ) (places : ℕ → Option ℕ) (at next : ℕ) (xs ys : List Item) → next ≡ at + size_in xs
    → AddsItems old mid places at xs → AddsItems mid new places next ys → AddsItems old new places at (xs ++ ys)
items_then old mid new places at next xs ys e h more =
    let P : List ℕ → Type 0 = λ code. Adds old new code in (
      bound_all places xs ys h.0 more.0,
      subst P
          (ap (λ (n : ℕ). words_from places at xs ++ words_from places n ys) e ∙ sym (words_from-append places at xs ys))
          (adds_then old mid new (words_from places at xs) (words_from places next ys) h.1 more.1),
    )

-- one more item of a list
pub item_then : (old mid new : List ℕ) (places : ℕ → Option ℕ) (at i : ℕ) (items : List Item) (item : Item) → i < length items
    → at ≡ size_in (take i items) → AddsItems old mid places 0 (take i items) → AddsItems mid new places at (get_or items i item ∷ [])
    → AddsItems old new places 0 (take (i + 1) items)
item_then old mid new places at i items item below e h more =
    let P : List Item → Type 0 = λ xs. AddsItems old new places 0 xs in
    let taken : take (i + 1) items ≡ take i items ++ (get_or items i item ∷ []) =
    ap (λ (n : ℕ). take n items) (let s : i + 1 ≡ suc i = omega arith in s) ∙ take-suc items i item below in
    subst P (sym taken) (items_then old mid new places 0 at (take i items) (get_or items i item ∷ []) (omega arith) h more)

pub size_in-take : (items : List Item) (i : ℕ) (item : Item) → i < length items → size_in (take (suc i) items) ≡ size_in (take i items) + size_of (get_or items i item)
size_in-take [] i item h = absurd (omega arith)
size_in-take (x ∷ xs) zero item h = omega arith
size_in-take (x ∷ xs) (suc i) item h = omega (arith, size_in-take xs i item (omega arith))

pub size_in-take_le : (items : List Item) (i : ℕ) → size_in (take i items) ≤ size_in items
size_in-take_le [] zero = omega arith
size_in-take_le [] (suc i) = omega arith
size_in-take_le (x ∷ xs) zero = omega arith
size_in-take_le (x ∷ xs) (suc i) = omega (arith, size_in-take_le xs i)

-- ---- the same places by another table

words_at-same : (f g : ℕ → Option ℕ) → ((label : ℕ) → f label ≡ g label) → (at : ℕ) (item : Item) → words_at f at item ≡ words_at g at item
words_at-same f g h at (Line word) = refl
words_at-same f g h at (Bind label) = refl
words_at-same f g h at (Leap label link) = ap (λ (place : Option ℕ). leap_to place at link) (h label)

pub words_from-same : (f g : ℕ → Option ℕ) → ((label : ℕ) → f label ≡ g label) → (at : ℕ) (items : List Item) → words_from f at items ≡ words_from g at items
words_from-same f g h at [] = refl
words_from-same f g h at (x ∷ xs) =
    ap (λ (code : List ℕ). code ++ words_from f (at + size_of x) xs) (words_at-same f g h at x)
    ∙ ap (λ (code : List ℕ). words_at g at x ++ code) (words_from-same f g h (at + size_of x) xs)

bound-same : (f g : ℕ → Option ℕ) → ((label : ℕ) → f label ≡ g label) → (item : Item) → IsBound f item → IsBound g item
bound-same f g h (Line word) b = b
bound-same f g h (Bind label) b = b
bound-same f g h (Leap label link) b = let P : Option ℕ → Type 0 = λ place. IsSome place in subst P (h label) b

pub all_bound-same : (f g : ℕ → Option ℕ) → ((label : ℕ) → f label ≡ g label) → (items : List Item) → AreBound f items → AreBound g items
all_bound-same f g h [] b = b
all_bound-same f g h (x ∷ xs) b = (bound-same f g h x b.0, all_bound-same f g h xs b.1)

pub adds_items-same : (f g : ℕ → Option ℕ) (old new : List ℕ) (at : ℕ) (items : List Item) → ((label : ℕ) → f label ≡ g label)
    → AddsItems old new f at items → AddsItems old new g at items
adds_items-same f g old new at items h adds =
    let P : List ℕ → Type 0 = λ code. Adds old new code in
    (all_bound-same f g h items adds.0, subst P (words_from-same f g h at items) adds.1)

-- the code, by the table of places
pub finished : (start end result : List ℕ) (places : List (Option ℕ)) (given items whole : List Item) → start ≡ [] → given ≡ items → items ≡ whole → result ≡ end
    → ((label : ℕ) → place_in places label ≡ place_of items label) → AddsItems start end (place_in places) 0 given → IsCode result whole
finished start end result places given items whole none lent known last h adds =
    let from_none = let P : List ℕ → Type 0 = λ old. AddsItems old end (place_in places) 0 given in subst P none adds in
    let of_items = let P : List Item → Type 0 = λ xs. AddsItems [] end (place_in places) 0 xs in subst P lent from_none in
    let by_place = adds_items-same (place_in places) (place_of items) [] end 0 items h of_items in
    let of_whole = let P : List Item → Type 0 = λ xs. AddsItems [] end (place_of xs) 0 xs in subst P known by_place in
    let P : List ℕ → Type 0 = λ bytes. AddsItems [] bytes (place_of whole) 0 whole in subst P (sym last) of_whole
