-- The laws of layouts.
use Rattle.std.specs.Prelude.{◌≡◌, ℕ, ◌+◌, ◌-◌, ◌*◌, ◌%◌, List, [], ◌∷◌, Some}
use Rattle.fsc_base.specs.declared.word.WordKind.{WordKind}
use Rattle.fsc_base.specs.declared.word.WordKind.TheVariants.{Fat, Narrow}
use Rattle.type_desc.specs.Places.{placed}
use Rattle.type_desc.specs.Shapes.{shape_of}
use Rattle.cell_store.specs.Layouts.{AreAddresses, AreLayouts}
use Rattle.access_methods.specs.Shaped.{layouts_of, shaped}

-- numbers stand for layouts
abbrev pub LayoutsAreLayouts : Type 0
LayoutsAreLayouts = (shapes : List (ℕ × List WordKind)) → AreLayouts (layouts_of shapes)

-- only 3 and multiples of 4 do
abbrev pub AddressesAlone : Type 0
AddressesAlone = (shapes : List (ℕ × List WordKind)) → AreAddresses (layouts_of shapes)

-- a multiple of 4 stands for the layout of its shape
abbrev pub FindsShapes : Type 0
FindsShapes = (shapes : List (ℕ × List WordKind)) (desc : ℕ) (kinds : List WordKind) → desc % 4 ≡ 0 → shape_of shapes desc ≡ Some kinds
    → layouts_of shapes desc ≡ Some (shaped kinds)

-- value and base of word w where all words are narrow
abbrev pub OneKindNarrow : Type 0
OneKindNarrow = (total w : ℕ) → placed (Narrow ∷ []) total w ≡ (w, 2 * total - 1 - w)

-- and where all are fat
abbrev pub OneKindFat : Type 0
OneKindFat = (total w : ℕ) → placed (Fat ∷ []) total w ≡ (2 * w + 1, 2 * w)
