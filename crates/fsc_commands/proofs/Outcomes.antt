-- What came of writing a file, and of what stands before it.
use Rattle.std.proofs.Common.{◌≡◌, ℕ, ◌≤◌, inl, inr, List, ◌<◌, length, get_or, Option, Some, None, refl, subst}
use Rattle.std.proofs.lemmas.Option.{slice_get_read}
use Rattle.fsc_outside.specs.Calls.{FileCounts, Fails}
use Rattle.fsc_outside.specs.FileMap.{FileMap, Holds, Replaces, KeepsOthers}
use Rattle.fsc_outside.proofs.Earlier.{fails_earlier, misses_earlier}
use Rattle.fsc_core.specs.Refusing.{Among}
use Rattle.fsc_ending.specs.declared.ending.Ending.{Ending}
use Rattle.fsc_ending.specs.declared.ending.Ending.TheVariants.{FileFault}
use Rattle.fsc_run.specs.Reading.{NamesFile, RefusesRead, absent, unreadable}
use Rattle.fsc_run.specs.Reading.{unheld as unread_unheld}
use Rattle.fsc_commands.specs.Writing.{Writes, written, unwritten, unheld, RefusesLink, unit_unread, unit_bad, units_refused}

-- files that stay as they were keep all but one
pub keeps_all : (told : Option FileMap) (name : List ℕ) → KeepsOthers told told name
keeps_all None name = tt
keeps_all (Some files) name = λ other differs. refl

-- a file that could not be written
pub faulty_file : (ending : Ending) (name : List ℕ) (IsFile : List ℕ → Type 0) (counts : FileCounts) (now : Option FileMap) → NamesFile FileFault name ending → Fails name counts
    → KeepsOthers counts.told now name → Writes ending name IsFile counts now
faulty_file ending name IsFile counts now (inl named) why kept = unwritten named why kept
faulty_file ending name IsFile counts now (inr memory) why kept = unheld memory kept

-- what was written is such a file
pub as_file : (ending : Ending) (name : List ℕ) (IsOne IsFile : List ℕ → Type 0) (counts : FileCounts) (now : Option FileMap) → ((bytes : List ℕ) → IsOne bytes → IsFile bytes)
    → Writes ending name IsOne counts now → Writes ending name IsFile counts now
as_file ending name IsOne IsFile counts now is (written bytes done one replaces) = written bytes done (is bytes one) replaces
as_file ending name IsOne IsFile counts now is (unwritten named why kept) = unwritten named why kept
as_file ending name IsOne IsFile counts now is (unheld memory kept) = unheld memory kept

-- the same, seen from before the files were read
pub writes_earlier : (ending : Ending) (name : List ℕ) (IsFile : List ℕ → Type 0) (early late : FileCounts) (now : Option FileMap) → late.told ≡ early.told → late.blamed ≡ early.blamed
    → early.faults_before ≤ late.faults_before → late.faults_after ≡ early.faults_after → Writes ending name IsFile late now → Writes ending name IsFile early now
writes_earlier ending name IsFile early late now told blamed faults faults_after (written bytes done is replaces) =
    written bytes done is (subst (λ (t : Option FileMap). Replaces t now name bytes) told replaces)
writes_earlier ending name IsFile early late now told blamed faults faults_after (unwritten named why kept) =
    unwritten named (fails_earlier name early late told blamed faults faults_after why) (subst (λ (t : Option FileMap). KeepsOthers t now name) told kept)
writes_earlier ending name IsFile early late now told blamed faults faults_after (unheld memory kept) =
    unheld memory (subst (λ (t : Option FileMap). KeepsOthers t now name) told kept)

-- the name at a place is one of the names
pub named_at : (names : List (List ℕ)) (at : ℕ) (name : List ℕ) → at < length names → name ≡ get_or names at name → Among name names
named_at names at name within is = (at, slice_get_read names (length names) at name refl within is)

read_earlier : (ending : Ending) (name : List ℕ) (early late : FileCounts) → late.told ≡ early.told → late.blamed ≡ early.blamed
    → early.faults_before ≤ late.faults_before → late.faults_after ≡ early.faults_after
    → early.absences_before ≤ late.absences_before → late.absences_after ≡ early.absences_after → RefusesRead ending name late → RefusesRead ending name early
read_earlier ending name early late told blamed faults faults_after absences absences_after (absent is why) =
    absent is (subst (λ (t : Option FileMap). Holds t name None) told why.0, misses_earlier early late absences absences_after why.1)
read_earlier ending name early late told blamed faults faults_after absences absences_after (unreadable is why) =
    unreadable is (fails_earlier name early late told blamed faults faults_after why)
read_earlier ending name early late told blamed faults faults_after absences absences_after (unread_unheld is) = unread_unheld is

-- why files of units give no image, seen from before they were read
pub link_earlier : (ending : Ending) (names : List (List ℕ)) (early late : FileCounts) → late.told ≡ early.told → late.blamed ≡ early.blamed
    → early.faults_before ≤ late.faults_before → late.faults_after ≡ early.faults_after
    → early.absences_before ≤ late.absences_before → late.absences_after ≡ early.absences_after → RefusesLink ending names late → RefusesLink ending names early
link_earlier ending names early late told blamed faults faults_after absences absences_after (unit_unread name stands why) =
    unit_unread name stands (read_earlier ending name early late told blamed faults faults_after absences absences_after why)
link_earlier ending names early late told blamed faults faults_after absences absences_after (unit_bad name bytes stands held bad) =
    unit_bad name bytes stands (subst (λ (t : Option FileMap). Holds t name (Some bytes)) told held) bad
link_earlier ending names early late told blamed faults faults_after absences absences_after (units_refused refusal is why) = units_refused refusal is why
