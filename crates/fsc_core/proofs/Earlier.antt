-- Why files are refused, seen from before they were read.
use Rattle.std.proofs.Common.{◌≡◌, ℕ, ◌≤◌, inl, inr, List, Option, Some, None, Result, Ok, Err, sym, subst}
use Rattle.std.specs.Prelude.{slice_get, IfErr}
use Rattle.fsc_base.specs.declared.image.Image.{Image}
use Rattle.fsc_base.specs.declared.place.Broken.{Broken}
use Rattle.fsc_base.specs.declared.rule.Rule.TheVariants.{K40}
use Rattle.fsc_outside.specs.Calls.{FileCounts, Misses}
use Rattle.fsc_outside.specs.FileMap.{FileMap, Holds}
use Rattle.fsc_outside.proofs.Earlier.{fails_earlier, misses_earlier}
use Rattle.fsc_front.specs.Refusing.{IsCause}
use Rattle.fsc_core.specs.declared.refusal.CoreNo.{CoreNo}
use Rattle.fsc_core.specs.declared.refusal.CoreNo.TheVariants as core
use Rattle.fsc_core.specs.Refusing.{Among, RefusesOne, RefusesSome, RefusesUnits, RefusesFiles}

pub cause_earlier : (broken : Broken) (early late : FileCounts) → early.absences_before ≤ late.absences_before → late.absences_after ≡ early.absences_after
    → IsCause broken late → IsCause broken early
cause_earlier broken early late before after (inl (inl of_text)) = inl (inl of_text)
cause_earlier broken early late before after (inl (inr (inl too_deep))) = inl (inr (inl too_deep))
cause_earlier broken early late before after (inl (inr (inr (absent, rose)))) = inl (inr (inr (absent, misses_earlier early late before after rose)))
cause_earlier broken early late before after (inr tokens) = inr tokens

-- what refused the files from a later moment on refuses them from an earlier one on
pub some_earlier : (no : CoreNo) (names : List (List ℕ)) (early late : FileCounts) → late.told ≡ early.told → late.blamed ≡ early.blamed
    → early.faults_before ≤ late.faults_before → late.faults_after ≡ early.faults_after
    → early.absences_before ≤ late.absences_before → late.absences_after ≡ early.absences_after → RefusesSome no names late → RefusesSome no names early
some_earlier (core.Broken broken file) names early late told blamed faults faults_after absences absences_after why =
    cause_earlier broken early late absences absences_after why
some_earlier (core.Missing file) names early late told blamed faults faults_after absences absences_after why =
    (why.0, misses_earlier early late absences absences_after why.1, subst (λ (t : Option FileMap). Holds t file None) told why.2)
some_earlier (core.FileFault file) names early late told blamed faults faults_after absences absences_after why =
    fails_earlier file early late told blamed faults faults_after why
some_earlier (core.Link fault) names early late told blamed faults faults_after absences absences_after why = absurd why
some_earlier core.Misfit names early late told blamed faults faults_after absences absences_after why = why
some_earlier core.NoMemory names early late told blamed faults faults_after absences absences_after why = why

-- one of the files is refused
pub one_of_some : (no : CoreNo) (names : List (List ℕ)) (at : ℕ) (name : List ℕ) (counts : FileCounts) → slice_get names at ≡ Some name → RefusesOne no name counts → RefusesSome no names counts
one_of_some (core.Broken broken file) names at name counts stands why = why
one_of_some (core.Missing file) names at name counts stands why =
    ((at, subst (λ (n : List ℕ). slice_get names at ≡ Some n) (sym why.0) stands), why.1, subst (λ (n : List ℕ). Holds counts.told n None) (sym why.0) why.2)
one_of_some (core.FileFault file) names at name counts stands why = why
one_of_some (core.Link fault) names at name counts stands why = why
one_of_some core.Misfit names at name counts stands why = why
one_of_some core.NoMemory names at name counts stands why = why

-- the files are refused
pub some_files : (no : CoreNo) (names : List (List ℕ)) (counts : FileCounts) → RefusesSome no names counts → RefusesFiles no names counts
some_files (core.Broken broken file) names counts why = why
some_files (core.Missing file) names counts why = why
some_files (core.FileFault file) names counts why = why
some_files (core.Link fault) names counts why = absurd why
some_files core.Misfit names counts why = why
some_files core.NoMemory names counts why = why

-- the units of files are refused
pub units_files : (no : CoreNo) (names : List (List ℕ)) (counts : FileCounts) → RefusesUnits no → RefusesFiles no names counts
units_files (core.Broken broken file) names counts why = why counts
units_files (core.Missing file) names counts why = absurd why
units_files (core.FileFault file) names counts why = absurd why
units_files (core.Link fault) names counts why = why
units_files core.Misfit names counts why = why
units_files core.NoMemory names counts why = why

-- the same of what files and their units refuse
pub files_earlier : (no : CoreNo) (names : List (List ℕ)) (early late : FileCounts) → late.told ≡ early.told → late.blamed ≡ early.blamed
    → early.faults_before ≤ late.faults_before → late.faults_after ≡ early.faults_after
    → early.absences_before ≤ late.absences_before → late.absences_after ≡ early.absences_after → RefusesFiles no names late → RefusesFiles no names early
files_earlier (core.Broken broken file) names early late told blamed faults faults_after absences absences_after why =
    cause_earlier broken early late absences absences_after why
files_earlier (core.Missing file) names early late told blamed faults faults_after absences absences_after why =
    (why.0, misses_earlier early late absences absences_after why.1, subst (λ (t : Option FileMap). Holds t file None) told why.2)
files_earlier (core.FileFault file) names early late told blamed faults faults_after absences absences_after why =
    fails_earlier file early late told blamed faults faults_after why
files_earlier (core.Link fault) names early late told blamed faults faults_after absences absences_after why = why
files_earlier core.Misfit names early late told blamed faults faults_after absences absences_after why = why
files_earlier core.NoMemory names early late told blamed faults faults_after absences absences_after why = why

-- a rule that is broken whatever the files are, but for the one on files that are absent
pub cause_any : (broken : Broken) (own counts : FileCounts) → (broken.rule ≡ K40 → ⊥) → IsCause broken own → IsCause broken counts
cause_any broken own counts other (inl (inl of_text)) = inl (inl of_text)
cause_any broken own counts other (inl (inr (inl too_deep))) = inl (inr (inl too_deep))
cause_any broken own counts other (inl (inr (inr (absent, rose)))) = absurd (other absent)
cause_any broken own counts other (inr tokens) = inr tokens

-- the answer of units that files gave
pub units_answer : (answer : Result Image CoreNo) (names : List (List ℕ)) (counts : FileCounts) → IfErr answer RefusesUnits → IfErr answer (λ no. RefusesFiles no names counts)
units_answer (Ok image) names counts why = why
units_answer (Err refusal) names counts why = units_files refusal names counts why
