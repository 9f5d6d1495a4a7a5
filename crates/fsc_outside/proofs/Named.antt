-- A table of files is the map of its names' bytes.
use Rattle.std.proofs.Common.{◌≡◌, ◌≢◌, ℕ, true, false, List, [], ◌∷◌, cond, Some, refl, ap, sym, ◌∙◌}
use Rattle.std.specs.declared.alloc.Global.{Global}
use Rattle.std.specs.declared.vec.Vec.{Vec}
use Rattle.std.specs.declared.cmp.Ordering.TheVariants.{Less, Equal, Greater}
use Rattle.std.specs.Ordering.{nat_cmp, is_eq, eq_by_cmp, match_ordering}
use Rattle.std.specs.Cmp.Lexicographic.{slice_cmp, nat_list_cmp_total}
use Rattle.std.specs.BTreeMap.{insert_entry}
use Rattle.std.specs.Map.{lookup}
use Rattle.std.specs.FinMap as map
use Rattle.std.specs.FinMap.{from_entries, find, put, get-from_entries, get-insert, same_map, slice_cmp-IsAntisymmetric, nat_cmp-IsAntisymmetric}
use Rattle.std.specs.FinMap.Entries.{by_order, find-put}
use Rattle.std.proofs.lemmas.Map.Lookups.{exact_bytes}
use Rattle.std.proofs.lemmas.Map.Views.{tells_apart}
use Rattle.fsc_outside.specs.FileMap.{FileMap, file_of}
use Rattle.fsc_outside.specs.Table.{named}

find-named : (es : List (Vec ℕ Global × List ℕ)) (q : List ℕ) → find (slice_cmp nat_cmp) q (named es) ≡ lookup (λ k. is_eq (slice_cmp nat_cmp q k.items)) es
find-named [] q = refl
find-named (e ∷ es) q = ap (cond (is_eq (slice_cmp nat_cmp q e.0.items)) (Some e.1)) (find-named es q)

-- what the tree finds is what the map has
pub file_of-named : (es : List (Vec ℕ Global × List ℕ)) (q : List ℕ) → file_of (from_entries (named es)) q ≡ lookup (λ k. is_eq (slice_cmp nat_cmp q k.items)) es
file_of-named es q = get-from_entries nat_list_cmp_total (named es) q ∙ find-named es q

named-insert_entry : (es : List (Vec ℕ Global × List ℕ)) (k : Vec ℕ Global) (v : List ℕ)
    → named (insert_entry (λ x y. slice_cmp nat_cmp x.items y.items) es k v) ≡ put (slice_cmp nat_cmp) k.items v (named es)
named-insert_entry [] k v = refl
named-insert_entry (e ∷ es) k v =
    let below = named-insert_entry es k v in
    elim (slice_cmp nat_cmp k.items e.0.items) as (λ o.
    named (match_ordering o ((k, v) ∷ e ∷ es) ((e.0, v) ∷ es) (e ∷ insert_entry (λ x y. slice_cmp nat_cmp x.items y.items) es k v))
    ≡ by_order o ((k.items, v) ∷ named (e ∷ es)) ((e.0.items, v) ∷ named es) ((e.0.items, e.1) ∷ put (slice_cmp nat_cmp) k.items v (named es))) [
      | Less ↦ refl
      | Equal ↦ refl
      | Greater ↦ ap (λ (rest : List (List ℕ × List ℕ)). (e.0.items, e.1) ∷ rest) below
    ]

-- an entry put into the tree is put into the map
pub from_entries-insert_entry : (es : List (Vec ℕ Global × List ℕ)) (k : Vec ℕ Global) (v : List ℕ)
    → from_entries {R = slice_cmp nat_cmp} (named (insert_entry (λ x y. slice_cmp nat_cmp x.items y.items) es k v)) ≡ map.insert (from_entries (named es)) k.items v
from_entries-insert_entry es k v =
    same_map nat_list_cmp_total (slice_cmp-IsAntisymmetric nat_cmp-IsAntisymmetric) _ _ (λ q.
    get-from_entries nat_list_cmp_total _ q
    ∙ ap (find (slice_cmp nat_cmp) q) (named-insert_entry es k v)
    ∙ find-put (slice_cmp nat_cmp) nat_list_cmp_total q k.items v (named es)
    ∙ sym (get-insert nat_list_cmp_total (from_entries (named es)) k.items v q
    ∙ ap (cond (eq_by_cmp (slice_cmp nat_cmp) q k.items) (Some v)) (get-from_entries nat_list_cmp_total (named es) q)))

-- the other files stay
pub file_of-insert_other : (files : FileMap) (name bytes other : List ℕ) → other ≢ name → file_of (map.insert files name bytes) other ≡ file_of files other
file_of-insert_other files name bytes other apart =
    get-insert nat_list_cmp_total files name bytes other
    ∙ elim (eq_by_cmp (slice_cmp nat_cmp) other name) as (λ b. eq_by_cmp (slice_cmp nat_cmp) other name ≡ b → cond b (Some bytes) (file_of files other) ≡ file_of files other) [
      | true ↦ λ same. absurd (apart (tells_apart exact_bytes other name same))
      | false ↦ λ _. refl
    ] refl
