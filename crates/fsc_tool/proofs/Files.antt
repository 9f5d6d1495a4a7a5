-- Which files a call changes, and what it leaves in the one that it writes.
use Rattle.std.proofs.Common.{◌≡◌, ◌≢◌, ℕ, inl, inr, List, [], ◌∷◌, true, false, cond, Option, Some, None, refl, sym, subst, ◌∙◌}
use Rattle.std.specs.Ordering.{nat_cmp, eq_by_cmp}
use Rattle.std.specs.Cmp.Lexicographic.{slice_cmp, nat_list_cmp_total}
use Rattle.std.specs.FinMap as map
use Rattle.std.specs.FinMap.{get-insert}
use Rattle.std.proofs.lemmas.Map.Lookups.{exact_bytes}
use Rattle.std.proofs.lemmas.Map.Views.{tells_apart}
use Rattle.fsc_base.specs.declared.image.Image.{Image}
use Rattle.fsc_base.specs.Image.{IsSound}
use Rattle.fat_code.specs.declared.fault.Version.TheVariants.{Two}
use Rattle.fat_code.specs.declared.unit.FatParts.{FatParts}
use Rattle.fat_code.specs.Faults.{IsFaultless}
use Rattle.unit_file.specs.Spelling.{spelled_unit}
use Rattle.fsc_outside.specs.Calls.{FileCounts}
use Rattle.fsc_outside.specs.FileMap.{FileMap, Replaces, KeepsOthers, file_of}
use Rattle.elf_image.specs.Writing.{elf_of}
use Rattle.rv_run.specs.ImageRun.{Streams}
use Rattle.command_line.specs.Requests.{Listed}
use Rattle.command_line.specs.declared.request.Request.{Request}
use Rattle.command_line.specs.declared.request.Request.TheVariants as request
use Rattle.fsc_ending.specs.declared.ending.Ending.{Ending}
use Rattle.fsc_ending.specs.declared.ending.Ending.TheVariants.{Exited}
use Rattle.fsc_ending.specs.Reporting.{IsUnless}
use Rattle.fsc_ending.specs.Sort.{ran, sort_of}
use Rattle.fsc_commands.specs.Writing.{Writes, written, unwritten, unheld, IsImageFile, IsUnitFile, BuildsFiles, files_refused, image_written, CompilesFile, file_refused, unit_written, LinksFiles, link_refused, link_written}
use Rattle.fsc_tool.specs.Words.{NamesToWrite, writes_of}
use Rattle.fsc_tool.specs.Performing.{Performed, words_refused, file_asked, files_asked, image_asked, build_asked, compile_asked, link_asked, meaning_asked, report_asked, demo_refused, demo_ran}
use Rattle.fsc_tool.specs.Tool.{IsWritten, LeavesFiles}
use Rattle.fsc_tool.proofs.Asking.{same_request, writes_none}
use Rattle.fsc_tool.proofs.Performing.{refused_words, refused_units, refused_names, refused_link}
use Rattle.fsc_tool.proofs.Promises.{not_refused}
use Rattle.fsc_tool.proofs.Reporting.{is_said}

-- ---- one file

-- files that are as before
pub keeps_same : (told now : Option FileMap) (name : List ℕ) → now ≡ told → KeepsOthers told now name
keeps_same None now name is = tt
keeps_same (Some files) now name is = subst (λ (f : Option FileMap). KeepsOthers (Some files) f name) (sym is) (λ other apart. refl)

-- a file that is written changes no other
replaced_other : (files : FileMap) (name bytes other : List ℕ) → other ≢ name → file_of (map.insert files name bytes) other ≡ file_of files other
replaced_other files name bytes other apart =
    get-insert nat_list_cmp_total files name bytes other
    ∙ (elim (eq_by_cmp (slice_cmp nat_cmp) other name) as (λ r. eq_by_cmp (slice_cmp nat_cmp) other name ≡ r → cond r (Some bytes) (file_of files other) ≡ file_of files other) [
      | true ↦ λ is. absurd (apart (tells_apart exact_bytes other name is))
      | false ↦ λ is. refl
    ] refl)

replaces_keeps : (told now : Option FileMap) (name bytes : List ℕ) → Replaces told now name bytes → KeepsOthers told now name
replaces_keeps None now name bytes is = tt
replaces_keeps (Some files) now name bytes is =
    subst (λ (f : Option FileMap). KeepsOthers (Some files) f name) (sym is) (λ other apart. replaced_other files name bytes other apart)

writes_keep : (said : Ending) (name : List ℕ) (IsFile : List ℕ → Type 0) (counts : FileCounts) (now : Option FileMap) → Writes said name IsFile counts now → KeepsOthers counts.told now name
writes_keep said name IsFile counts now (written bytes is are replaces) = replaces_keeps counts.told now name bytes replaces
writes_keep said name IsFile counts now (unwritten is fails others) = others
writes_keep said name IsFile counts now (unheld is others) = others

pub builds_keep : (said : Ending) (name : List ℕ) (names : List (List ℕ)) (counts : FileCounts) (now : Option FileMap) → BuildsFiles said name names counts now → KeepsOthers counts.told now name
builds_keep said name names counts now (files_refused why same) = keeps_same counts.told now name same
builds_keep said name names counts now (image_written writes) = writes_keep said name IsImageFile counts now writes

pub compiles_keep : (said : Ending) (name file : List ℕ) (counts : FileCounts) (now : Option FileMap) → CompilesFile said name file counts now → KeepsOthers counts.told now name
compiles_keep said name file counts now (file_refused refusal is why same) = keeps_same counts.told now name same
compiles_keep said name file counts now (unit_written writes) = writes_keep said name IsUnitFile counts now writes

pub links_keep : (said : Ending) (name : List ℕ) (names : List (List ℕ)) (counts : FileCounts) (now : Option FileMap) → LinksFiles said name names counts now → KeepsOthers counts.told now name
links_keep said name names counts now (link_refused why same) = keeps_same counts.told now name same
links_keep said name names counts now (link_written writes) = writes_keep said name IsImageFile counts now writes

-- the file that words name to be written is the request's
pub named : (words : List (List ℕ)) (asked : Request) (name file : List ℕ) → Listed words asked → writes_of asked ≡ Some file → NamesToWrite words name → file ≡ name
named words asked name file listed writes names =
    let same : names.0 ≡ asked = same_request words names.0 asked names.1 listed in
    let some : writes_of asked ≡ Some name = subst (λ (r : Request). writes_of r ≡ Some name) same names.2 in
    cc

-- of each file that they name to be written the others are kept
pub keeps_named : (words : List (List ℕ)) (asked : Request) (told now : Option FileMap) (file : List ℕ) → Listed words asked → writes_of asked ≡ Some file → KeepsOthers told now file
    → (name : List ℕ) → NamesToWrite words name → KeepsOthers told now name
keeps_named words asked told now file listed writes keeps name names = subst (KeepsOthers told now) (named words asked name file listed writes names) keeps

-- ---- what a refusal leaves

-- the named file was written, or could not be
of_writes : (said : Ending) (words : List (List ℕ)) (name : List ℕ) (IsFile : List ℕ → Type 0) (counts : FileCounts) (now : Option FileMap) → NamesToWrite words name → Writes said name IsFile counts now
    → LeavesFiles said words counts.told now
of_writes said words name IsFile counts now names (written bytes is are replaces) = inr (name, names, inl is)
of_writes said words name IsFile counts now names (unwritten is fails others) = inr (name, names, inr (inl is))
of_writes said words name IsFile counts now names (unheld is others) = inr (name, names, inr (inr (inr is)))

leaves : (made : Option Image) (said : Ending) (marks : Option ℕ) (words : List (List ℕ)) (counts : FileCounts) (now : Option FileMap) (kept : Type 0) (before after : Streams)
    → Performed made said marks words counts now kept before after → (((name : List ℕ) → NamesToWrite words name → ⊥) → now ≡ counts.told) → LeavesFiles said words counts.told now
leaves made said marks words counts now kept before after (words_refused none why nothing same) idle = inl same
leaves made said marks words counts now kept before after (file_asked file steps stats asks runs) idle =
    inl (idle (λ name. writes_none words name (request.Go steps stats (file ∷ [])) asks refl))
leaves made said marks words counts now kept before after (files_asked files steps stats asks several runs) idle =
    inl (idle (λ name. writes_none words name (request.Go steps stats files) asks refl))
leaves made said marks words counts now kept before after (image_asked file steps stats none asks runs) idle =
    inl (idle (λ name. writes_none words name (request.Run steps stats file) asks refl))
leaves made said marks words counts now kept before after (build_asked image files none asks (files_refused why same) nothing) idle = inl same
leaves made said marks words counts now kept before after (build_asked image files none asks (image_written writes) nothing) idle =
    of_writes said words image IsImageFile counts now (request.Build image files, asks, refl) writes
leaves made said marks words counts now kept before after (compile_asked unit file none asks (file_refused refusal is why same) nothing) idle = inl same
leaves made said marks words counts now kept before after (compile_asked unit file none asks (unit_written writes) nothing) idle =
    of_writes said words unit IsUnitFile counts now (request.Compile unit file, asks, refl) writes
leaves made said marks words counts now kept before after (link_asked image units none asks (link_refused why same) nothing) idle = inl same
leaves made said marks words counts now kept before after (link_asked image units none asks (link_written writes) nothing) idle =
    of_writes said words image IsImageFile counts now (request.Link image units, asks, refl) writes
leaves made said marks words counts now kept before after (meaning_asked files cost none asks unmarked means) idle =
    inl (idle (λ name. writes_none words name (request.Mean cost files) asks refl))
leaves made said marks words counts now kept before after (report_asked files steps lives asks reports) idle =
    inl (idle (λ name. writes_none words name (request.Report steps files) asks refl))
leaves made said marks words counts now kept before after (demo_refused count refusal none asks is why nothing) idle =
    inl (idle (λ name. writes_none words name (request.Demo count) asks refl))
leaves made said marks words counts now kept before after (demo_ran count image ended between sound made_is asks unmarked left run closes unread) idle =
    inl (idle (λ name. writes_none words name (request.Demo count) asks refl))

written_then : (said ending : Ending) (name : List ℕ) → IsUnless said ending → IsWritten name said → IsWritten name ending
written_then said ending name (inl same) h = subst (IsWritten name) (sym same) h
written_then said ending name (inr (inl fault)) h = inr (inr (inl fault))
written_then said ending name (inr (inr memory)) h = inr (inr (inr memory))

left_then : (said ending : Ending) (words : List (List ℕ)) (told now : Option FileMap) → IsUnless said ending → LeavesFiles said words told now → LeavesFiles ending words told now
left_then said ending words told now report (inl same) = inl same
left_then said ending words told now report (inr (name, names, h)) = inr (name, names, written_then said ending name report h)

pub unchanged : (ending : Ending) (made : Option Image) (said : Ending) (marks : Option ℕ) (words : List (List ℕ)) (counts : FileCounts) (now : Option FileMap) (kept : Type 0) (before after : Streams)
    → Performed made said marks words counts now kept before after → IsUnless said ending → (((name : List ℕ) → NamesToWrite words name → ⊥) → now ≡ counts.told)
    → LeavesFiles ending words counts.told now
unchanged ending made said marks words counts now kept before after performed report idle =
    left_then said ending words counts.told now report (leaves made said marks words counts now kept before after performed idle)

-- ---- what an exit says

-- what came of a request that writes a file
abbrev Did : Request → Ending → FileCounts → Option FileMap → Type 0
Did (request.Build image files) said counts now = BuildsFiles said image files counts now
Did (request.Compile unit file) said counts now = CompilesFile said unit file counts now
Did (request.Link image units) said counts now = LinksFiles said image units counts now
Did (request.Run steps stats image) said counts now = Unit {0}
Did (request.Go steps stats files) said counts now = Unit {0}
Did (request.Mean cost files) said counts now = Unit {0}
Did (request.Report steps files) said counts now = Unit {0}
Did (request.Demo count) said counts now = Unit {0}

did_same : (words : List (List ℕ)) (done asked : Request) (said : Ending) (counts : FileCounts) (now : Option FileMap) → Listed words done → Listed words asked → Did done said counts now
    → Did asked said counts now
did_same words done asked said counts now listed asks did = subst (λ (r : Request). Did r said counts now) (same_request words done asked listed asks) did

did : (made : Option Image) (said wanted : Ending) (marks : Option ℕ) (words : List (List ℕ)) (counts : FileCounts) (now : Option FileMap) (kept : Type 0) (before after : Streams)
    → Performed made said marks words counts now kept before after → said ≡ wanted → sort_of wanted ≡ ran → (asked : Request) → Listed words asked → Did asked said counts now
did made said wanted marks words counts now kept before after (words_refused none why nothing stays) same exit asked asks = absurd (not_refused said wanted (refused_words said words why) same exit)
did made said wanted marks words counts now kept before after (file_asked file steps stats listed runs) same exit asked asks =
    did_same words (request.Go steps stats (file ∷ [])) asked said counts now listed asks tt
did made said wanted marks words counts now kept before after (files_asked files steps stats listed several runs) same exit asked asks =
    did_same words (request.Go steps stats files) asked said counts now listed asks tt
did made said wanted marks words counts now kept before after (image_asked file steps stats none listed runs) same exit asked asks =
    did_same words (request.Run steps stats file) asked said counts now listed asks tt
did made said wanted marks words counts now kept before after (build_asked image files none listed writes nothing) same exit asked asks =
    did_same words (request.Build image files) asked said counts now listed asks writes
did made said wanted marks words counts now kept before after (compile_asked unit file none listed writes nothing) same exit asked asks =
    did_same words (request.Compile unit file) asked said counts now listed asks writes
did made said wanted marks words counts now kept before after (link_asked image units none listed writes nothing) same exit asked asks =
    did_same words (request.Link image units) asked said counts now listed asks writes
did made said wanted marks words counts now kept before after (meaning_asked files cost none listed unmarked means) same exit asked asks =
    did_same words (request.Mean cost files) asked said counts now listed asks tt
did made said wanted marks words counts now kept before after (report_asked files steps lives listed reports) same exit asked asks =
    did_same words (request.Report steps files) asked said counts now listed asks tt
did made said wanted marks words counts now kept before after (demo_refused count refusal none listed is why nothing) same exit asked asks =
    did_same words (request.Demo count) asked said counts now listed asks tt
did made said wanted marks words counts now kept before after (demo_ran count image ended between sound made_is listed unmarked left run closes unread) same exit asked asks =
    did_same words (request.Demo count) asked said counts now listed asks tt

-- a file was written whole
abbrev Wrote : (status : ℕ) (IsFile : List ℕ → Type 0) (told now : Option FileMap) (name : List ℕ) → Type 0
Wrote status IsFile told now name = (status ≡ 0) × ((bytes : List ℕ) × IsFile bytes × Replaces told now name bytes)

exit_wrote : (said : Ending) (status : ℕ) (name : List ℕ) (IsFile : List ℕ → Type 0) (counts : FileCounts) (now : Option FileMap) → said ≡ Exited status → Writes said name IsFile counts now
    → Wrote status IsFile counts.told now name
exit_wrote said status name IsFile counts now same (written bytes is are replaces) = let e : Exited 0 ≡ Exited status = sym is ∙ same in (cc, (bytes, are, replaces))
exit_wrote said status name IsFile counts now same (unwritten is fails others) = absurd cc
exit_wrote said status name IsFile counts now same (unheld is others) = absurd cc

builds_exit : (said : Ending) (status : ℕ) (name : List ℕ) (names : List (List ℕ)) (counts : FileCounts) (now : Option FileMap) → said ≡ Exited status
    → BuildsFiles said name names counts now → Wrote status IsImageFile counts.told now name
builds_exit said status name names counts now same (files_refused why stays) = absurd (not_refused said (Exited status) (refused_names said names counts why) same refl)
builds_exit said status name names counts now same (image_written writes) = exit_wrote said status name IsImageFile counts now same writes

compiles_exit : (said : Ending) (status : ℕ) (name file : List ℕ) (counts : FileCounts) (now : Option FileMap) → said ≡ Exited status
    → CompilesFile said name file counts now → Wrote status IsUnitFile counts.told now name
compiles_exit said status name file counts now same (file_refused refusal is why stays) = absurd (not_refused said (Exited status) (refused_units said refusal is) same refl)
compiles_exit said status name file counts now same (unit_written writes) = exit_wrote said status name IsUnitFile counts now same writes

links_exit : (said : Ending) (status : ℕ) (name : List ℕ) (names : List (List ℕ)) (counts : FileCounts) (now : Option FileMap) → said ≡ Exited status
    → LinksFiles said name names counts now → Wrote status IsImageFile counts.told now name
links_exit said status name names counts now same (link_refused why stays) = absurd (not_refused said (Exited status) (refused_link said names counts why) same refl)
links_exit said status name names counts now same (link_written writes) = exit_wrote said status name IsImageFile counts now same writes

-- the file of an image
of_image : (status : ℕ) (told now : Option FileMap) (name : List ℕ) → Wrote status IsImageFile told now name
    → (status ≡ 0) × ((image : Image) × IsSound image × Replaces told now name (elf_of image))
of_image status told now name (zero_is, (bytes, (image, sound, is), replaces)) = (zero_is, (image, sound, subst (Replaces told now name) is replaces))

-- the file of a unit
of_unit : (status : ℕ) (told now : Option FileMap) (name : List ℕ) → Wrote status IsUnitFile told now name
    → (status ≡ 0) × ((unit : FatParts) × IsFaultless unit × Replaces told now name (spelled_unit Two unit))
of_unit status told now name (zero_is, (bytes, (unit, faultless, is), replaces)) = (zero_is, (unit, faultless, subst (Replaces told now name) is replaces))

pub built : (ending : Ending) (made : Option Image) (said : Ending) (marks : Option ℕ) (words : List (List ℕ)) (counts : FileCounts) (now : Option FileMap) (kept : Type 0) (before after : Streams)
    → Performed made said marks words counts now kept before after → IsUnless said ending → (image : List ℕ) (sources : List (List ℕ)) (status : ℕ) → Listed words (request.Build image sources)
    → ending ≡ Exited status → (status ≡ 0) × ((made : Image) × IsSound made × Replaces counts.told now image (elf_of made))
built ending made said marks words counts now kept before after performed report image sources status asks is =
    let same = is_said said ending (Exited status) report is (λ e. cc) (λ e. cc) in
    of_image status counts.told now image
    (builds_exit said status image sources counts now same (did made said (Exited status) marks words counts now kept before after performed same refl (request.Build image sources) asks))

pub linked : (ending : Ending) (made : Option Image) (said : Ending) (marks : Option ℕ) (words : List (List ℕ)) (counts : FileCounts) (now : Option FileMap) (kept : Type 0) (before after : Streams)
    → Performed made said marks words counts now kept before after → IsUnless said ending → (image : List ℕ) (units : List (List ℕ)) (status : ℕ) → Listed words (request.Link image units)
    → ending ≡ Exited status → (status ≡ 0) × ((made : Image) × IsSound made × Replaces counts.told now image (elf_of made))
linked ending made said marks words counts now kept before after performed report image units status asks is =
    let same = is_said said ending (Exited status) report is (λ e. cc) (λ e. cc) in
    of_image status counts.told now image
    (links_exit said status image units counts now same (did made said (Exited status) marks words counts now kept before after performed same refl (request.Link image units) asks))

pub compiled : (ending : Ending) (made : Option Image) (said : Ending) (marks : Option ℕ) (words : List (List ℕ)) (counts : FileCounts) (now : Option FileMap) (kept : Type 0) (before after : Streams)
    → Performed made said marks words counts now kept before after → IsUnless said ending → (unit file : List ℕ) (status : ℕ) → Listed words (request.Compile unit file)
    → ending ≡ Exited status → (status ≡ 0) × ((made : FatParts) × IsFaultless made × Replaces counts.told now unit (spelled_unit Two made))
compiled ending made said marks words counts now kept before after performed report unit file status asks is =
    let same = is_said said ending (Exited status) report is (λ e. cc) (λ e. cc) in
    of_unit status counts.told now unit
    (compiles_exit said status unit file counts now same (did made said (Exited status) marks words counts now kept before after performed same refl (request.Compile unit file) asks))
