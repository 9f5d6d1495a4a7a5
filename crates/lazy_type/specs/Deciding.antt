-- What a decision leaves as it was.
use Rattle.std.specs.Prelude.{◌≡◌, ℕ, List, Some}
use Rattle.fsc_base.specs.declared.word.WordKind.{WordKind}
use Rattle.c_memory.specs.Blocks.{Heap}
use Rattle.cell_store.specs.Store.{Store, Holds}
use Rattle.type_desc.specs.Shapes.{shape_of}
use Rattle.access_methods.specs.Shaped.{layouts_of}

-- where the shapes have the number, the store holds the heaps that it held
abbrev pub KeepsHeaps : (old : Store) (desc : ℕ) (new : Store) → Type 0
KeepsHeaps old desc new = (shapes : List (ℕ × List WordKind)) (kinds : List WordKind) (heap : Heap)
    → shape_of shapes desc ≡ Some kinds → Holds old heap (layouts_of shapes) → Holds new heap (layouts_of shapes)
