-- Code as a list of items, and the instructions that it comes to.
use Rattle.std.specs.Prelude.{ℕ, ◌+◌, ◌<◌, eqb, cond, List, [], ◌∷◌, Option, Some, None}
use Rattle.rv_isa.specs.declared.inst.Inst.{Inst}
use Rattle.rv_isa.specs.Encoding.{encoding}
use Rattle.rv_asm.specs.declared.item.Item.{Item}
use Rattle.rv_asm.specs.declared.item.Item.TheVariants.{Line, Bind, Leap}

-- an assembler: the address where its code begins, what the code is made of, and how many labels were made
pub record Assembly : Type 0 where
  pub address : ℕ
  pub items : List Item
  pub labels : ℕ

-- an instruction
abbrev pub line : Inst → Item
line inst = Line (encoding inst)

-- how many bytes an item takes
abbrev pub size_of : Item → ℕ
size_of (Line word) = 4
size_of (Bind label) = 0
size_of (Leap label link) = 8

abbrev pub size_in : List Item → ℕ
size_in [] = 0
size_in (item ∷ items) = size_of item + size_in items

-- the place of a label in items that begin at a place
abbrev pub place_from : ℕ → List Item → ℕ → Option ℕ
place_from at [] label = None
place_from at (Line word ∷ items) label = place_from (at + 4) items label
place_from at (Bind bound ∷ items) label = cond (eqb bound label) (Some at) (place_from at items label)
place_from at (Leap to link ∷ items) label = place_from (at + 8) items label

-- how many bytes stand before a label
abbrev pub place_of : List Item → ℕ → Option ℕ
place_of items label = place_from 0 items label

-- an item that takes room: any but the place of a label
abbrev pub TakesRoom : Item → Type 0
TakesRoom item = 0 < size_of item
