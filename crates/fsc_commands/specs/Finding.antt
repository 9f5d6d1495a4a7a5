-- What the text of a file is.
use Rattle.std.specs.Prelude.{ℕ, List, Option, Some}
use Rattle.fsc_outside.specs.FileMap.{FileMap, Holds}
use Rattle.fsc_commands.specs.declared.c_file.Found.{Found}
use Rattle.fsc_commands.specs.declared.c_file.Found.TheVariants as found
use Rattle.fsc_commands.specs.Refusing.{IsNoProgram, GivesProgram}

-- the program of the first path, or a text that is that of none
abbrev pub IsFound : Found → (file : List ℕ) (told : Option FileMap) → Type 0
IsFound (found.Plain program) file told = GivesProgram program file told
IsFound (found.Text text) file told = Holds told file (Some text) × IsNoProgram text
