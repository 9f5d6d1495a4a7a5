-- What the calls of a store do to the heaps that it holds.
use Rattle.std.proofs.Common.{◌≡◌, ℕ, ◌+◌, ◌*◌, ◌%◌, ◌≤◌, false, true, List, length, refl, sym, ap, ◌∙◌, arith, subst}
use Rattle.std.specs.Prelude.{slice_set}
use Rattle.block_header.specs.Headers.{first_word}
use Rattle.c_memory.specs.declared.kind.BlockKind.{BlockKind}
use Rattle.c_memory.specs.Blocks.{Heap, killed, sealed_at}
use Rattle.c_memory.specs.Storage.{FitsIn}
use Rattle.cell_store.specs.Held.{HoldsCreated, HoldsDecided, HoldsKilled, HoldsSealed}
use Rattle.cell_store.specs.Layouts.{Layouts}
use Rattle.cell_store.specs.Making.{Makes, StoreFits, without_cell}
use Rattle.cell_store.specs.Pools.{Pool, with_freed}
use Rattle.cell_store.specs.Store.{Holds, IsLiveIn, Store, header_in, with_desc}
use Rattle.cell_store.proofs.CreationLaws.{holds_created}
use Rattle.cell_store.proofs.Dropping.{emptied}
use Rattle.cell_store.proofs.Fitting.{seen}
use Rattle.cell_store.proofs.HeaderChanges.{holds_decided, holds_killed, holds_sealed}
use Rattle.cell_store.proofs.HeldLaws.{fits_heap, heap_fits, next_after}

module _ (words : List ℕ) (made : ℕ) (pool : Pool) (store : Store) (is : seen words made pool ≡ store) (b : ℕ) (live : IsLiveIn store b) where
  pub dropped_heaps : (class cell : ℕ) (left : Pool) → left ≡ with_freed pool class cell → HoldsKilled store b (seen (emptied words b) made left)
  dropped_heaps class cell left e =
      let taken : pool.taken ≡ left.taken = sym (ap (λ (p : Pool). p.taken) e) in
      let same : without_cell store b ≡ seen (emptied words b) made left =
      ap (λ (s : Store). without_cell s b) (sym is) ∙ ap (λ t. record { words = emptied words b; made = made; greatest = t }) taken in
      λ heap layouts holds all. subst (λ (s : Store). Holds s (killed heap b) layouts) same (holds_killed store heap layouts b holds all live)

  pub decided_heaps : (desc : ℕ) → HoldsDecided store b desc (seen (slice_set words (first_word b) desc) made pool)
  decided_heaps desc =
      let same : with_desc store b desc ≡ seen (slice_set words (first_word b) desc) made pool = ap (λ (s : Store). with_desc s b desc) (sym is) in
      λ heap layouts layout holds all two found some.
      subst (λ (s : Store). Holds s heap layouts) same (holds_decided store heap layouts b desc layout holds all live two found some)

pub sealed_heaps : (store new : Store) (b desc : ℕ) → IsLiveIn store b → desc ≡ (header_in store b).desc → (header_in store b).desc % 4 ≡ 0 → 4 ≤ (header_in store b).desc
    → new ≡ with_desc store b (desc + 1) → HoldsSealed store b new
sealed_heaps store new b desc live e multiple some is =
    let same : with_desc store b ((header_in store b).desc + 1) ≡ new = ap (λ n. with_desc store b (n + 1)) (sym e) ∙ sym is in
    λ heap layouts holds all addresses.
    subst (λ (s : Store). Holds s (sealed_at heap b) layouts) same (holds_sealed store heap layouts b holds all addresses live multiple some)

pub created_heaps : (old new : Store) (size desc block : ℕ) → StoreFits old size → Makes old size desc block new → HoldsCreated old size desc new
created_heaps old new size desc block fits made heap layouts maker holds all makes =
    let heap_fits = fits_heap old heap layouts holds size maker fits in
    let next = next_after heap size maker in
    holds_created old new heap layouts holds all size desc block made maker makes (omega (arith, heap_fits.bases, next))

-- it fits the store exactly where it fits each heap that it holds
pub fits_all : (store : Store) (size : ℕ) → StoreFits store size → (heap : Heap) (layouts : Layouts) (maker : BlockKind) → Holds store heap layouts
    → (true ≡ true → FitsIn (4 * length store.words) heap size maker) × (FitsIn (4 * length store.words) heap size maker → true ≡ true)
fits_all store size fits heap layouts maker holds = (λ e. fits_heap store heap layouts holds size maker fits, λ f. refl)

pub fits_none : (store : Store) (size : ℕ) → (StoreFits store size → ⊥) → (heap : Heap) (layouts : Layouts) (maker : BlockKind) → Holds store heap layouts
    → (false ≡ true → FitsIn (4 * length store.words) heap size maker) × (FitsIn (4 * length store.words) heap size maker → false ≡ true)
fits_none store size fits heap layouts maker holds =
    (λ e. absurd (let no : false ≡ true = e in cc), λ f. absurd (fits (heap_fits store heap layouts holds size maker f)))
