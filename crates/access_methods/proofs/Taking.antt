-- What a copy takes, one byte or base after another, and what it leaves.
use Rattle.std.proofs.Common.{◌≡◌, ℕ, zero, suc, ◌+◌, ◌-◌, ◌*◌, ◌/◌, ◌<◌, Bool, true, false, List, [], ◌∷◌, ◌++◌, length, take, drop, get_or, replicate, refl, sym, ap, ◌∙◌, arith}
use Rattle.std.proofs.lemmas.List.{take_more, get_or-drop, length-drop}
use Rattle.c_memory.specs.Blocks.{Block}
use Rattle.c_memory.specs.Copying.{is_whole, copied_base, copied_bases}
use Rattle.cell_store.specs.Store.{Store}
use Rattle.access_methods.specs.declared.object.Object.{Object}
use Rattle.access_methods.specs.Cells.{Lays}
use Rattle.access_methods.proofs.Accessing.{either, zero_item}

-- so many of the bytes are taken
pub record BytesTaken (store : Store) (object : Object) (offset k count : ℕ) (taken : List ℕ) : Type 0 where
  pub length : count ≡ k
  pub items : (x : Block) → Lays store object x → taken ≡ take k (drop offset x.bytes)

pub bytes_none : (store : Store) (object : Object) (offset : ℕ) → BytesTaken store object offset 0 0 []
bytes_none store object offset = record { length = refl; items = λ x lays. refl }

pub bytes_push : (store : Store) (object : Object) (offset k count more byte : ℕ) (items longer : List ℕ) → BytesTaken store object offset k count items
    → offset + k < object.size → ((x : Block) → Lays store object x → byte ≡ get_or x.bytes (offset + k) 0)
    → more ≡ count + 1 → longer ≡ items ++ byte ∷ [] → BytesTaken store object offset (k + 1) more longer
bytes_push store object offset k count more byte items longer so_far within is counted pushed = record {
  length = counted ∙ ap (λ (n : ℕ). n + 1) so_far.length;
  items = λ x lays.
      let size = lays.size in
      let full = lays.filled.bytes in
      let inside : k < length (drop offset x.bytes) = omega (arith, length-drop offset x.bytes) in
      pushed
      ∙ ap (λ (bs : List ℕ). bs ++ byte ∷ []) (so_far.items x lays)
      ∙ ap (λ (b : ℕ). take k (drop offset x.bytes) ++ b ∷ []) (is x lays ∙ sym (get_or-drop offset x.bytes k 0))
      ∙ sym (take_more (drop offset x.bytes) k 0 inside);
}

-- so many of the bases are taken
pub record BasesTaken (store : Store) (object : Object) (to from n k count : ℕ) (taken : List ℕ) : Type 0 where
  pub length : count ≡ k
  pub items : (x : Block) → Lays store object x → taken ≡ copied_bases k x.bases to from n (to / 4)

one_more_base : (k : ℕ) (source : List ℕ) (to from n w : ℕ) → copied_bases (suc k) source to from n w ≡ copied_bases k source to from n w ++ copied_base source to from n (w + k) ∷ []
one_more_base zero source to from n w = let here : w ≡ w + 0 = omega arith in ap (λ (i : ℕ). copied_base source to from n i ∷ []) here
one_more_base (suc k) source to from n w =
    let next : w + 1 + k ≡ w + suc k = omega arith in
    ap (λ (bs : List ℕ). copied_base source to from n w ∷ bs)
    (one_more_base k source to from n (w + 1) ∙ ap (λ (i : ℕ). copied_bases k source to from n (w + 1) ++ copied_base source to from n i ∷ []) next)

pub bases_none : (store : Store) (object : Object) (to from n k : ℕ) → k ≡ 0 → BasesTaken store object to from n k 0 []
bases_none store object to from n k none = record {
  length = sym none;
  items = λ x lays. ap (λ (i : ℕ). copied_bases i x.bases to from n (to / 4)) (sym none);
}

pub bases_push : (store : Store) (object : Object) (to from n k next w count more base : ℕ) (items longer : List ℕ) → BasesTaken store object to from n k count items
    → w ≡ to / 4 + k → next ≡ suc k → ((x : Block) → Lays store object x → base ≡ copied_base x.bases to from n w)
    → more ≡ count + 1 → longer ≡ items ++ base ∷ [] → BasesTaken store object to from n next more longer
bases_push store object to from n k next w count more base items longer so_far place follows is counted pushed = record {
  length = counted ∙ (let before = so_far.length in omega arith);
  items = λ x lays.
      pushed
      ∙ ap (λ (bs : List ℕ). bs ++ base ∷ []) (so_far.items x lays)
      ∙ ap (λ (b : ℕ). copied_bases k x.bases to from n (to / 4) ++ b ∷ []) (is x lays ∙ ap (λ (i : ℕ). copied_base x.bases to from n i) place)
      ∙ sym (one_more_base k x.bases to from n (to / 4))
      ∙ ap (λ (i : ℕ). copied_bases i x.bases to from n (to / 4)) (sym follows);
}

-- zeros have no bases
either_zero : (b : Bool) (k : ℕ) → k ≡ 0 → either b k ≡ 0
either_zero true k h = h
either_zero false k h = refl

zero_base : (count to from n w : ℕ) → copied_base (replicate count 0) to from n w ≡ 0
zero_base count to from n w =
    either_zero (is_whole to from n w) (get_or (replicate count 0) ((from + (4 * w - to)) / 4) 0) (zero_item count ((from + (4 * w - to)) / 4))

pub zero_bases : (k count to from n w : ℕ) → copied_bases k (replicate count 0) to from n w ≡ replicate k 0
zero_bases zero count to from n w = refl
zero_bases (suc k) count to from n w = rw (zero_base count to from n w) (ap (λ (bs : List ℕ). 0 ∷ bs) (zero_bases k count to from n (w + 1)))
