-- What the descriptor of a live object says.
use Rattle.std.specs.Prelude.{◌≡◌, ◌≢◌, ℕ, suc, ◌-◌, ◌≤◌, Some, None}
use Rattle.cell_store.specs.Layouts.{Layout, Layouts, IsLayout}
use Rattle.access_methods.specs.declared.form.Chosen.{Chosen}
use Rattle.access_methods.specs.declared.form.Chosen.TheVariants as chosen
use Rattle.access_methods.specs.declared.form.Form.{Form}
use Rattle.access_methods.specs.declared.form.Form.TheVariants as form
use Rattle.access_methods.specs.Shaped.{plane, shaped, narrow, pair, IsOnto}
use Rattle.access_methods.specs.ShapedLaws.{plane_is_layout, plane_is_onto, shaped_is_layout, shaped_is_onto}

-- the layout that was chosen
abbrev pub layout_in : Chosen → Layout
layout_in chosen.Plane = plane
layout_in chosen.Narrow = narrow
layout_in chosen.Pair = pair
layout_in (chosen.Mixed shape) = shaped shape.now

pub chosen_is_layout : (layout : Chosen) → IsLayout (layout_in layout)
chosen_is_layout chosen.Plane = plane_is_layout
chosen_is_layout chosen.Narrow = shaped_is_layout _
chosen_is_layout chosen.Pair = shaped_is_layout _
chosen_is_layout (chosen.Mixed shape) = shaped_is_layout shape.now

pub chosen_is_onto : (layout : Chosen) → IsOnto (layout_in layout)
chosen_is_onto chosen.Plane = plane_is_onto
chosen_is_onto chosen.Narrow = shaped_is_onto _
chosen_is_onto chosen.Pair = shaped_is_onto _
chosen_is_onto (chosen.Mixed shape) = shaped_is_onto shape.now

-- it is not one more than a number that stands for a layout
abbrev pub IsOpen : Layouts → (desc : ℕ) → Type 0
IsOpen layouts desc = (of : ℕ) → desc ≡ suc of → 4 ≤ of → layouts of ≡ None

-- a descriptor stands for no layout; for one; or it is one more than a number that stands for one
abbrev pub IsFormOf : Layouts → (desc : ℕ) → Form → Type 0
IsFormOf layouts desc form.Undecided = (layouts desc ≡ None) × IsOpen layouts desc
IsFormOf layouts desc (form.Open layout) = (layouts desc ≡ Some (layout_in layout)) × (desc ≢ 2) × IsOpen layouts desc
IsFormOf layouts desc (form.Sealed layout) = (layouts desc ≡ None) × (4 ≤ desc) × (layouts (desc - 1) ≡ Some (layout_in layout))
