-- Why files are refused, seen from before a file was read.
use Rattle.std.proofs.Common.{◌≡◌, ℕ, ◌≤◌, List, [], ◌∷◌, Bool, Option, Some}
use Rattle.fsc_base.specs.declared.image.Image.{Image}
use Rattle.fsc_outside.specs.Calls.{FileCounts}
use Rattle.fsc_outside.specs.FileMap.{Holds}
use Rattle.rv_run.specs.ImageRun.{Streams}
use Rattle.fsc_core.proofs.Earlier.{files_earlier}
use Rattle.fsc_ending.specs.declared.ending.Ending.{Ending}
use Rattle.fsc_commands.specs.Refusing.{IsNoProgram, RefusesNames, refused_so}
use Rattle.fsc_commands.specs.Going.{RunsFiles, files_refused, files_ran, RunsFile, file_built}

names_earlier : (ending : Ending) (names : List (List ℕ)) (early late : FileCounts) → late.told ≡ early.told → late.blamed ≡ early.blamed
    → early.faults_before ≤ late.faults_before → late.faults_after ≡ early.faults_after
    → early.absences_before ≤ late.absences_before → late.absences_after ≡ early.absences_after → RefusesNames ending names late → RefusesNames ending names early
names_earlier ending names early late told blamed faults faults_after absences absences_after (refused_so refusal is why) =
    refused_so refusal is (files_earlier refusal names early late told blamed faults faults_after absences absences_after why)

runs_earlier : (made : Option Image) (ending : Ending) (marks : Option ℕ) (names : List (List ℕ)) (steps : ℕ) (stats : Bool) (early late : FileCounts) (kept : Type 0) (before after : Streams)
    → late.told ≡ early.told → late.blamed ≡ early.blamed → early.faults_before ≤ late.faults_before → late.faults_after ≡ early.faults_after
    → early.absences_before ≤ late.absences_before → late.absences_after ≡ early.absences_after
    → RunsFiles made ending marks names steps stats late kept before after → RunsFiles made ending marks names steps stats early kept before after
runs_earlier made ending marks names steps stats early late kept before after told blamed faults faults_after absences absences_after (files_refused none why nothing) =
    files_refused none (names_earlier ending names early late told blamed faults faults_after absences absences_after why) nothing
runs_earlier made ending marks names steps stats early late kept before after told blamed faults faults_after absences absences_after (files_ran image sound is ran) = files_ran image sound is ran

-- the program of one file, whose text is that of none of the first path
pub built_file : (made : Option Image) (ending : Ending) (marks : Option ℕ) (file text : List ℕ) (steps : ℕ) (stats : Bool) (early late : FileCounts) (kept : Type 0) (before after : Streams)
    → late.told ≡ early.told → late.blamed ≡ early.blamed → early.faults_before ≤ late.faults_before → late.faults_after ≡ early.faults_after
    → early.absences_before ≤ late.absences_before → late.absences_after ≡ early.absences_after
    → Holds early.told file (Some text) → IsNoProgram text
    → RunsFiles made ending marks (file ∷ []) steps stats late kept before after → RunsFile made ending marks file steps stats early kept before after
built_file made ending marks file text steps stats early late kept before after told blamed faults faults_after absences absences_after held none runs =
    file_built text held none (runs_earlier made ending marks (file ∷ []) steps stats early late kept before after told blamed faults faults_after absences absences_after runs)
