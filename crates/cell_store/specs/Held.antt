-- What a call does to every heap that a store holds.
use Rattle.std.specs.Prelude.{◌≡◌, ℕ, ◌≤◌, ◌⊎◌, true, Some}
use Rattle.c_memory.specs.declared.kind.BlockKind.{BlockKind}
use Rattle.c_memory.specs.declared.kind.BlockKind.TheVariants as kind
use Rattle.c_memory.specs.Blocks.{Heap, is_object, killed, sealed_at}
use Rattle.c_memory.specs.Storage.{created, no_blocks}
use Rattle.cell_store.specs.Layouts.{AreAddresses, AreLayouts, Layout, Layouts}
use Rattle.cell_store.specs.Store.{Holds, Store, header_in}

-- a descriptor is that of a layout, for an object
pub record IsDecidedBy (layouts : Layouts) (desc : ℕ) (maker : BlockKind) : Type 0 where
  pub object : is_object maker ≡ true
  pub decided : 3 ≤ desc
  pub layout : Layout
  pub found : layouts desc ≡ Some layout

-- A descriptor is that of a new block of this kind: 1 for a function, 2 for an undecided object, and that of a layout for
-- any other object.
abbrev pub MakesKind : (layouts : Layouts) (desc : ℕ) (maker : BlockKind) → Type 0
MakesKind layouts desc maker = ((desc ≡ 1) × (maker ≡ kind.Function)) ⊎ (((desc ≡ 2) × (is_object maker ≡ true)) ⊎ IsDecidedBy layouts desc maker)

-- a store holds a heap without blocks
abbrev pub HoldsNone : Store → Type 0
HoldsNone store = (layouts : Layouts) → Holds store no_blocks layouts

-- after a creation it holds each heap with one more block
abbrev pub HoldsCreated : (old : Store) (size desc : ℕ) (new : Store) → Type 0
HoldsCreated old size desc new = (heap : Heap) (layouts : Layouts) (maker : BlockKind) → Holds old heap layouts → AreLayouts layouts
    → MakesKind layouts desc maker → Holds new (created heap size maker) layouts

-- after the end of a life it holds each heap without that life
abbrev pub HoldsKilled : (old : Store) (block : ℕ) (new : Store) → Type 0
HoldsKilled old block new = (heap : Heap) (layouts : Layouts) → Holds old heap layouts → AreLayouts layouts → Holds new (killed heap block) layouts

-- after a seal it holds each heap with that block sealed
abbrev pub HoldsSealed : (old : Store) (block : ℕ) (new : Store) → Type 0
HoldsSealed old block new = (heap : Heap) (layouts : Layouts) → Holds old heap layouts → AreLayouts layouts → AreAddresses layouts
    → Holds new (sealed_at heap block) layouts

-- after an undecided object got a layout's descriptor it holds the same heaps
abbrev pub HoldsDecided : (old : Store) (block desc : ℕ) (new : Store) → Type 0
HoldsDecided old block desc new = (heap : Heap) (layouts : Layouts) (layout : Layout) → Holds old heap layouts → AreLayouts layouts
    → (header_in old block).desc ≡ 2 → layouts desc ≡ Some layout → 3 ≤ desc → Holds new heap layouts
