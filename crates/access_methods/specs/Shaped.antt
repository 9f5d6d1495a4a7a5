-- The layouts of shapes, and what descriptors stand for.
use Rattle.std.specs.Prelude.{◌≡◌, ℕ, ◌*◌, ◌%◌, ◌<◌, ◌⊎◌, ◌==◌, List, [], ◌∷◌, Option, Some, None, if◌then◌else◌}
use Rattle.fsc_base.specs.declared.word.WordKind.{WordKind}
use Rattle.fsc_base.specs.declared.word.WordKind.TheVariants.{Fat, Narrow}
use Rattle.type_desc.specs.Places.{value_at, base_at, plane_value_at, plane_base_at}
use Rattle.type_desc.specs.Shapes.{shape_of}
use Rattle.cell_store.specs.Layouts.{Layout, Layouts}

-- all values, and then all bases
abbrev pub plane : Layout
plane = record { value_at = plane_value_at; base_at = plane_base_at }

-- the layout of a shape, given by its kinds
abbrev pub shaped : List WordKind → Layout
shaped kinds = record { value_at = value_at kinds; base_at = base_at kinds }

-- that of blocks all of whose words are narrow, and that of blocks all of whose words are fat
abbrev pub narrow : Layout
narrow = shaped (Narrow ∷ [])

abbrev pub pair : Layout
pair = shaped (Fat ∷ [])

-- each index below twice the total is that of some word's value or base
abbrev pub IsOnto : Layout → Type 0
IsOnto layout = (total i : ℕ) → i < 2 * total → (w : ℕ) × (w < total) × ((i ≡ layout.value_at total w) ⊎ (i ≡ layout.base_at total w))

-- the layout of a shape, where there is one
abbrev pub shaped_by : Option (List WordKind) → Option Layout
shaped_by None = None
shaped_by (Some kinds) = Some (shaped kinds)

-- 3 stands for the plane layout, and a multiple of 4 for that of its shape
unfoldable pub layouts_of : List (ℕ × List WordKind) → Layouts
layouts_of shapes desc =
    if desc == 3 then Some plane
    else (if desc % 4 == 0 then shaped_by (shape_of shapes desc) else None)
