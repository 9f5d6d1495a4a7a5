-- How parts of symbols and functions are spelled that are read on their own.
use Rattle.std.specs.Prelude.{ℕ, List, [], ◌∷◌, ◌++◌}
use Rattle.unit_file.specs.declared.parts.FunctionHead.{FunctionHead}
use Rattle.unit_file.specs.declared.parts.SymbolTail.{SymbolTail}
use Rattle.unit_file.specs.declared.unit.Front.{Front}
use Rattle.unit_file.specs.declared.unit.Back.{Back}
use Rattle.fat_code.specs.declared.fault.Version.{Version}
use Rattle.unit_file.specs.Spelling.{numbers, spelled_definition, spelled_front, spelled_back}
use Rattle.unit_file.specs.Tags.{flag_tag, linkage_tag}

-- what a symbol has behind its name
abbrev pub spelled_tail : SymbolTail → List ℕ
spelled_tail tail = numbers (linkage_tag tail.linkage ∷ tail.kind ∷ flag_tag tail.used ∷ []) ++ spelled_definition tail.definition

-- the numbers of a function
abbrev pub spelled_head : FunctionHead → List ℕ
spelled_head head = numbers (head.parameters ∷ head.slots ∷ flag_tag head.is_variadic ∷ [])

-- the parts of a unit
abbrev pub spelled_front_of : Version → Front → List ℕ
spelled_front_of version front = spelled_front version front.nodes front.types.items front.shapes.items

abbrev pub spelled_back_of : Back → List ℕ
spelled_back_of back = spelled_back back.symbols.items back.functions.items back.objects.items
