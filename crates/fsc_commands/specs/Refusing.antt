-- Why files gave no program.
use Rattle.std.specs.Prelude.{◌≡◌, ℕ, List, Option, Some}
use Rattle.fsc_base.specs.declared.place.Place.{Place}
use Rattle.fsc_base.specs.declared.rule.Rule.{Rule}
use Rattle.fsc_outside.specs.Calls.{FileCounts}
use Rattle.fsc_outside.specs.FileMap.{FileMap, Holds}
use Rattle.plain_text.specs.declared.program.Program.{Program}
use Rattle.plain_text.specs.Program.{IsPlain}
use Rattle.fsc_front.specs.Refusing.{IsCause}
use Rattle.fsc_core.specs.declared.refusal.CoreNo.{CoreNo}
use Rattle.fsc_core.specs.declared.refusal.CoreNo.TheVariants as core
use Rattle.fsc_core.specs.Refusing.{RefusesFiles}
use Rattle.fsc_ending.specs.declared.ending.Ending.{Ending}
use Rattle.fsc_ending.specs.declared.ending.Ending.TheVariants.{MissingFile, FileFault, Rejected, LinkRefused, NotBuilt, NoMemory}
use Rattle.fsc_ending.specs.declared.ending.Form.TheVariants.{Text}

-- the text is that of no program of the first path
abbrev pub IsNoProgram : List ℕ → Type 0
IsNoProgram text = (program : Program) → IsPlain text program → ⊥

-- the file has a text that is the program's
abbrev pub GivesProgram : Program → (file : List ℕ) (told : Option FileMap) → Type 0
GivesProgram program file told = (text : List ℕ) × Holds told file (Some text) × IsPlain text program

-- Why a text is rejected: the rule is one of preprocessing, K40 only where a file was absent; or some list of preprocessing
-- tokens breaks it there; or it is one of the parser's, of the checker's or the bound on a unit.
abbrev pub IsRejection : Rule → Place → FileCounts → Type 0
IsRejection rule place counts = IsCause (record { rule = rule; place = place }) counts

-- the ending of a refusal
abbrev pub ending_of_refusal : CoreNo → Ending
ending_of_refusal (core.Broken broken file) = Rejected broken.rule broken.place file
ending_of_refusal (core.Missing file) = MissingFile file
ending_of_refusal (core.FileFault file) = FileFault file
ending_of_refusal (core.Link fault) = LinkRefused fault
ending_of_refusal core.Misfit = NotBuilt Text
ending_of_refusal core.NoMemory = NoMemory

-- the files of these names give no program, and this is the ending
pub data RefusesNames (ending : Ending) (names : List (List ℕ)) (counts : FileCounts) : Type 0 where
  refused_so : (no : CoreNo) → ending ≡ ending_of_refusal no → RefusesFiles no names counts → RefusesNames ending names counts
