-- Programs of fat code.
use Rattle.std.specs.Prelude.{◌≤◌, List, [], length, map}
use Rattle.c_link.specs.declared.fault.LinkFault.{LinkFault}
use Rattle.c_link.specs.Views.{LinkView}
use Rattle.c_link.specs.Broken.{BrokenProgram}
use Rattle.c_link.specs.Linked.{LinkProgram, Linked}
use Rattle.fat_code.specs.declared.program.ProgramParts.{ProgramParts}
use Rattle.fat_code.specs.Views.{fat_view}

-- what linking sees of the units
abbrev pub views_of : ProgramParts → List LinkView
views_of program = map fat_view program.units

-- what linking gave
abbrev pub linked_of : ProgramParts → LinkProgram
linked_of program = record {
  functions = program.functions;
  symbols = program.symbols;
  objects = program.objects;
  heap = program.heap;
  entry = program.entry;
}

-- The units of a program are all that there are: the library's, which its user's wanted, are among them. That their types
-- agree is not asked, since a declaration without a prototype of a function of the library was compared with none.
pub record IsProgram (program : ProgramParts) : Type 0 where
  pub few : length program.units ≤ 1100
  pub linked : Linked (views_of program) [] (linked_of program)
  pub unbroken : (fault : LinkFault) → BrokenProgram (views_of program) fault → ⊥
