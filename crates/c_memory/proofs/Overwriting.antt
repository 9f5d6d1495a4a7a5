-- Lists in which some items were overwritten: their length, what stands where items were put, and what stands beside.
use Rattle.std.proofs.Common.{◌≡◌, ℕ, suc, ◌+◌, ◌-◌, ◌<◌, ◌≤◌, ◌⊎◌, min, inl, inr, List, [], ◌∷◌, ◌++◌, length, take, drop, get_or, refl, sym, ap, ◌∙◌, arith, rules}
use Rattle.std.proofs.Math.ListN.{set}
use Rattle.std.proofs.lemmas.List.{append_assoc, length-append, take-append-drop, places, same_lists, set_split, drop-drop, length-drop, length-take, length-take-le, take_at, drop_at, get_or_append_left, get_or-append_right, get_or-take, get_or-drop, take-append-le, take-take, drop_all, append-nil}
use Rattle.c_memory.specs.Bytes.{overwritten}
use borrow.Rule.Slice.PartMut.{put_mid}

pub length-overwritten : {T : Type 0} (all : List T) (place : ℕ) (items : List T) → place + length items ≤ length all → length (overwritten all place items) ≡ length all
length-overwritten all place items h = search (rules, places)

-- all of a list
pub overwritten-all : {T : Type 0} (all items : List T) → length items ≡ length all → overwritten all 0 items ≡ items
overwritten-all all items h = ap (λ (rest : _). items ++ rest) (drop_all (0 + length items) all (omega arith)) ∙ append-nil items

-- one item
pub overwritten-one : {T : Type 0} (all : List T) (place : ℕ) (item : T) → place < length all → overwritten all place (item ∷ []) ≡ set all place item
overwritten-one all place item h =
    let e : place + 1 ≡ suc place = omega arith in
    sym (set_split all place item h ∙ ap (λ (n : ℕ). take place all ++ item ∷ drop n all) (sym e))

-- the same as a write to a part of a slice
pub put_mid-overwritten : {T : Type 0} (place n : ℕ) (all items : List T) → length items ≡ n → put_mid place n all items ≡ overwritten all place items
put_mid-overwritten place n all items h =
    ap (λ (rest : _). take place all ++ (items ++ rest)) (drop-drop n place all ∙ ap (λ (k : ℕ). drop (place + k) all) (sym h))

-- ---- item by item

-- where items were put
pub get_or-overwritten_within : {T : Type 0} (all : List T) (place : ℕ) (items : List T) (k : ℕ) (d : T) → place + length items ≤ length all → place ≤ k
    → k < place + length items → get_or (overwritten all place items) k d ≡ get_or items (k - place) d
get_or-overwritten_within all place items k d h from below =
    let n = length-take-le place all (omega arith) in
    get_or-append_right (take place all) (items ++ drop (place + length items) all) place k d n from
    ∙ get_or_append_left items (drop (place + length items) all) d (k - place) (omega arith)

-- beside them
pub get_or-overwritten_beside : {T : Type 0} (all : List T) (place : ℕ) (items : List T) (k : ℕ) (d : T) → place + length items ≤ length all
    → (k < place) ⊎ (place + length items ≤ k) → get_or (overwritten all place items) k d ≡ get_or all k d
get_or-overwritten_beside all place items k d h apart =
    let n = length-take-le place all (omega arith) in
    elim apart [
      | inl below ↦ get_or_append_left (take place all) (items ++ drop (place + length items) all) d k (omega arith) ∙ get_or-take place all k d below
      | inr above ↦
          get_or-append_right (take place all) (items ++ drop (place + length items) all) place k d n (omega arith)
          ∙ get_or-append_right items (drop (place + length items) all) (length items) (k - place) d refl (omega arith)
          ∙ get_or-drop (place + length items) all (k - place - length items) d
          ∙ ap (λ (i : ℕ). get_or all i d) (let e : place + length items + (k - place - length items) ≡ k = omega arith in e)
    ]

-- ---- parts

-- what was put there
pub part-overwritten_same : {T : Type 0} (all : List T) (place : ℕ) (items : List T) (n : ℕ) → place ≤ length all → length items ≡ n
    → take n (drop place (overwritten all place items)) ≡ items
part-overwritten_same all place items n h e =
    rw (drop_at (take place all) (items ++ drop (place + length items) all) place (length-take-le place all h))
    (take_at items (drop (place + length items) all) n e)

-- what stands before
pub take-overwritten : {T : Type 0} (all : List T) (place : ℕ) (items : List T) (n : ℕ) → n ≤ place → place ≤ length all → take n (overwritten all place items) ≡ take n all
take-overwritten all place items n below h =
    let l = length-take-le place all h in
    take-append-le n (take place all) (items ++ drop (place + length items) all) (omega arith) ∙ take-take n place all below

-- what stands behind
pub drop-overwritten : {T : Type 0} (all : List T) (place : ℕ) (items : List T) (n : ℕ) → place + length items ≤ n → place + length items ≤ length all
    → drop n (overwritten all place items) ≡ drop n all
drop-overwritten all place items n above h =
    same_lists _ _
    (simp length-drop (ap (λ (m : ℕ). m - n) (length-overwritten all place items h)))
    (λ k d lt.
    get_or-drop n (overwritten all place items) k d
    ∙ get_or-overwritten_beside all place items (n + k) d h (inr (omega arith))
    ∙ sym (get_or-drop n all k d))

-- a part beside
pub part-overwritten_beside : {T : Type 0} (all : List T) (place : ℕ) (items : List T) (from n : ℕ) → place + length items ≤ length all
    → (from + n ≤ place) ⊎ (place + length items ≤ from) → take n (drop from (overwritten all place items)) ≡ take n (drop from all)
part-overwritten_beside all place items from n h apart =
    let same = length-overwritten all place items h in
    same_lists _ _
    (simp (length-take, length-drop) (ap (λ (m : ℕ). min n (m - from)) same))
    (λ k d lt.
    let fits : k < n = omega (arith, length-take n (drop from (overwritten all place items))) in
    let beside : (from + k < place) ⊎ (place + length items ≤ from + k) = elim apart [ inl below ↦ inl (omega arith) | inr above ↦ inr (omega arith) ] in
    get_or-take n (drop from (overwritten all place items)) k d fits
    ∙ get_or-drop from (overwritten all place items) k d
    ∙ get_or-overwritten_beside all place items (from + k) d h beside
    ∙ sym (get_or-take n (drop from all) k d fits ∙ get_or-drop from all k d))

-- ---- several times

-- nothing
pub overwritten-nothing : {T : Type 0} (all : List T) (place : ℕ) → overwritten all place [] ≡ all
overwritten-nothing all place = let e : place + 0 ≡ place = omega arith in rw e (take-append-drop place all)

-- the same place again
pub overwritten-again : {T : Type 0} (all : List T) (place : ℕ) (first second : List T) → place + length first ≤ length all → length second ≡ length first
    → overwritten (overwritten all place first) place second ≡ overwritten all place second
overwritten-again all place first second h e =
    rw (
      take-overwritten all place first place (omega arith) (omega arith),
      drop-overwritten all place first (place + length second) (omega arith) h,
    )
    refl

-- one behind the other
pub overwritten-append : {T : Type 0} (all : List T) (place : ℕ) (first second : List T) (next : ℕ) → next ≡ place + length first → next + length second ≤ length all
    → overwritten (overwritten all place first) next second ≡ overwritten all place (first ++ second)
overwritten-append all place first second next e h =
    let front : take next (overwritten all place first) ≡ take place all ++ first =
    ap (λ (l : _). take next l) (sym (append_assoc (take place all) first (drop (place + length first) all)))
    ∙ take_at (take place all ++ first) (drop (place + length first) all) next (omega (arith, length-append (take place all) first, length-take-le place all (omega arith))) in
    let behind = drop-overwritten all place first (next + length second) (omega arith) (omega arith) in
    let far : next + length second ≡ place + length (first ++ second) = omega (arith, length-append first second) in
    rw (front, behind, far) (append_assoc (take place all) first (second ++ drop (place + length (first ++ second)) all)
    ∙ ap (λ (l : _). take place all ++ l) (sym (append_assoc first second (drop (place + length (first ++ second)) all))))
