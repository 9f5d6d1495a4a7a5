-- When each answer comes that is no run's.
use Rattle.std.proofs.Common.{◌≡◌, ℕ, ◌⊎◌, inl, inr, List, [], ◌∷◌, Bool, Option, Some, None, Err, refl, sym, ap, subst, ◌∙◌}
use Rattle.fsc_base.specs.declared.image.Image.{Image}
use Rattle.fsc_base.specs.declared.place.Place.{Place}
use Rattle.fsc_base.specs.declared.rule.Rule.{Rule}
use Rattle.fsc_outside.specs.Calls.{FileCounts, Fails, Misses}
use Rattle.fsc_outside.specs.FileMap.{FileMap, Holds}
use Rattle.elf_image.specs.Reading.{image_at}
use Rattle.elf_image.specs.declared.fault.ElfFault.{ElfFault}
use Rattle.elf_image.specs.declared.fault.ReadElfNo.TheVariants as elf
use Rattle.rv_run.specs.ImageRun.{Streams}
use Rattle.rv_run.specs.Machine.{State}
use Rattle.block_report.specs.declared.live.Live.{Live}
use Rattle.command_line.specs.Requests.{IsUsable, Listed}
use Rattle.command_line.specs.declared.request.Request.{Request}
use Rattle.command_line.specs.declared.request.Request.TheVariants as request
use Rattle.fsc_ending.specs.declared.ending.Ending.{Ending}
use Rattle.fsc_ending.specs.declared.ending.Ending.TheVariants.{CostUsed, Usage, MissingFile, FileFault, Rejected, LinkRefused, BadUnit, BadImage, NotBuilt, NoMemory}
use Rattle.fsc_ending.specs.declared.ending.Form.TheVariants.{Command, Text}
use Rattle.fsc_ending.specs.Reporting.{IsUnless}
use Rattle.fsc_ending.specs.Sort.{ran, followed, refused, malformed, sort_of, IsOfSort}
use Rattle.c_link.specs.declared.fault.LinkFault.{LinkFault}
use Rattle.fat_code.specs.declared.fault.UnitFault.{UnitFault}
use Rattle.unit_file.specs.Units.{IsFault}
use Rattle.fsc_core.specs.Refusing.{Among, RefusesOne, RefusesUnits}
use Rattle.fsc_core.specs.declared.refusal.CoreNo.{CoreNo}
use Rattle.fsc_core.specs.declared.refusal.CoreNo.TheVariants as core
use Rattle.fsc_run.specs.Reading.{IsAbsent, RefusesRead, absent, unreadable, unheld}
use Rattle.fsc_run.specs.Running.{RanFrom, image_unread, image_read}
use Rattle.fsc_run.proofs.Sorts.{of_run, of_image, not_ran, not_of_image}
use Rattle.fsc_commands.specs.Refusing.{IsRejection, RefusesNames, refused_so, ending_of_refusal}
use Rattle.fsc_commands.specs.Going.{program_unmade, program_ran, files_refused, files_ran, file_unread, file_ran, file_built}
use Rattle.fsc_commands.specs.Writing.{Writes, written, unwritten, unheld as write_unheld, files_refused as nothing_built, image_written, file_refused as nothing_compiled, unit_written, no_unit, unit_unheld, RefusesLink, unit_unread, unit_bad, units_refused, link_refused as link_none, link_written}
use Rattle.fsc_commands.specs.Meaning.{files_refused as meaning_refused, meaning_followed}
use Rattle.fsc_commands.specs.Reporting.{RanWithReport, Tells, told as list_told, untold as list_untold, unheld as list_unheld, report_refused, report_ran}
use Rattle.fsc_commands.proofs.Endings.{sorted, cost_named}
use Rattle.fsc_commands.specs.Demonstrating.{Closes, line_written, line_cut, no_line}
use Rattle.fsc_commands.proofs.Reports.{ran_of}
use Rattle.fsc_tool.specs.Words.{AsksRun, AsksUnit, IsOfTexts, IsOfUnits, IsOfProgram, reads_of, NamesToRead, NamesToWrite, MayTouch}
use Rattle.fsc_tool.specs.Performing.{RefusesWords, unusable, words_unheld, Performed, words_refused, file_asked, files_asked, image_asked, build_asked, compile_asked, link_asked, meaning_asked, report_asked, demo_refused, demo_ran}
use Rattle.fsc_tool.specs.Tool.{IsRunOf, none_ran, image_ran, job_ran, files_ran as files_run, file_written, report_ran as report_run, meaning_followed as meaning_run, demo_ran as demo_run, AsksText, AsksLinked}
use Rattle.fsc_tool.proofs.Asking.{usable}
use Rattle.fsc_tool.proofs.Reporting.{is_said, reported}

-- ---- what a refusal says

program_units : (asked : Request) → IsOfProgram asked → IsOfUnits asked
program_units (request.Build image files) is = tt
program_units (request.Compile unit file) is = tt
program_units (request.Link image units) is = tt
program_units (request.Run steps stats image) is = is
program_units (request.Go steps stats files) is = is
program_units (request.Mean cost files) is = tt
program_units (request.Report steps files) is = tt
program_units (request.Demo count) is = tt

-- a program that is linked is one of texts or of units
text_of : (words : List (List ℕ)) (told : Option FileMap) → AsksLinked words told → AsksText words told
text_of words told (inl none) = inl none
text_of words told (inr (asked, listed, is)) = inr (asked, listed, program_units asked is)

-- the causes of all refusals
data Cause (said : Ending) (words : List (List ℕ)) (counts : FileCounts) : Type 0 where
  no_use : said ≡ Usage → (IsUsable words → ⊥) → Cause said words counts
  no_file : (file : List ℕ) → said ≡ MissingFile file → NamesToRead words file → IsAbsent file counts → Cause said words counts
  bad_file : (name : List ℕ) → said ≡ FileFault name → MayTouch words name → Fails name counts → Cause said words counts
  bad_text : (rule : Rule) (place : Place) (name : List ℕ) → said ≡ Rejected rule place name → IsRejection rule place counts → AsksText words counts.told → Cause said words counts
  bad_link : (fault : LinkFault) → said ≡ LinkRefused fault → AsksLinked words counts.told → Cause said words counts
  bad_unit : (name bytes : List ℕ) (fault : UnitFault) (offset : ℕ) → said ≡ BadUnit name fault offset → AsksUnit words name → Holds counts.told name (Some bytes)
      → IsFault bytes fault offset → Cause said words counts
  no_text : said ≡ NotBuilt Text → AsksText words counts.told → Cause said words counts
  no_memory : said ≡ NoMemory → Cause said words counts

of_words : (said : Ending) (words : List (List ℕ)) (counts : FileCounts) → RefusesWords said words → Cause said words counts
of_words said words counts (unusable is why) = no_use is why
of_words said words counts (words_unheld is) = no_memory is

of_read : (said : Ending) (words : List (List ℕ)) (file : List ℕ) (counts : FileCounts) → NamesToRead words file → RefusesRead said file counts → Cause said words counts
of_read said words file counts names (absent is why) = no_file file is names why
of_read said words file counts names (unreadable is why) = bad_file file is (inl names) why
of_read said words file counts names (unheld is) = no_memory is

of_names : (said : Ending) (words files : List (List ℕ)) (asked : Request) (counts : FileCounts) → Listed words asked → reads_of asked ≡ files → IsOfTexts asked → AsksLinked words counts.told
    → RefusesNames said files counts → Cause said words counts
of_names said words files asked counts listed reads texts linked (refused_so (core.Broken broken name) is why) = bad_text broken.rule broken.place name is why (text_of words counts.told linked)
of_names said words files asked counts listed reads texts linked (refused_so (core.Missing name) is why) =
    no_file name is (asked, listed, subst (Among name) (sym reads) why.0) (why.2, why.1)
of_names said words files asked counts listed reads texts linked (refused_so (core.FileFault name) is why) = bad_file name is (inr (inr (asked, listed, texts))) why
of_names said words files asked counts listed reads texts linked (refused_so (core.Link fault) is why) = bad_link fault is linked
of_names said words files asked counts listed reads texts linked (refused_so core.Misfit is why) = no_text is (text_of words counts.told linked)
of_names said words files asked counts listed reads texts linked (refused_so core.NoMemory is why) = no_memory is

-- the one file of a unit
of_one : (said : Ending) (words : List (List ℕ)) (unit file : List ℕ) (counts : FileCounts) (refusal : CoreNo) → Listed words (request.Compile unit file) → said ≡ ending_of_refusal refusal
    → RefusesOne refusal file counts → Cause said words counts
of_one said words unit file counts (core.Broken broken name) listed is why = bad_text broken.rule broken.place name is why (inr (request.Compile unit file, listed, tt))
of_one said words unit file counts (core.Missing name) listed is why =
    no_file name is (request.Compile unit file, listed, (0, ap Some (sym why.0))) (subst (λ (f : List ℕ). Holds counts.told f None) (sym why.0) why.2, why.1)
of_one said words unit file counts (core.FileFault name) listed is why = bad_file name is (inr (inr (request.Compile unit file, listed, tt))) why
of_one said words unit file counts (core.Link fault) listed is why = absurd why
of_one said words unit file counts core.Misfit listed is why = no_text is (inr (request.Compile unit file, listed, tt))
of_one said words unit file counts core.NoMemory listed is why = no_memory is

-- a file that is to be written: it was, which is no refusal, or it could not be
of_writes : (said wanted : Ending) (words : List (List ℕ)) (name : List ℕ) (IsFile : List ℕ → Type 0) (counts : FileCounts) (now : Option FileMap) → NamesToWrite words name → Writes said name IsFile counts now
    → said ≡ wanted → sort_of wanted ≡ refused → Cause said words counts
of_writes said wanted words name IsFile counts now names (written bytes is are replaces) same refusal = absurd (not_ran said wanted (inl (ap sort_of is)) same refusal)
of_writes said wanted words name IsFile counts now names (unwritten is fails others) same refusal = bad_file name is (inr (inl names)) fails
of_writes said wanted words name IsFile counts now names (write_unheld is others) same refusal = no_memory is

-- why units are refused
of_units : (said : Ending) (words : List (List ℕ)) (counts : FileCounts) (refusal : CoreNo) → AsksLinked words counts.told → said ≡ ending_of_refusal refusal → RefusesUnits refusal
    → Cause said words counts
of_units said words counts (core.Broken broken name) linked is why = bad_text broken.rule broken.place name is (why counts) (text_of words counts.told linked)
of_units said words counts (core.Missing name) linked is why = absurd why
of_units said words counts (core.FileFault name) linked is why = absurd why
of_units said words counts (core.Link fault) linked is why = bad_link fault is linked
of_units said words counts core.Misfit linked is why = no_text is (text_of words counts.told linked)
of_units said words counts core.NoMemory linked is why = no_memory is

-- why units in files are refused
of_link : (said : Ending) (words units : List (List ℕ)) (image : List ℕ) (counts : FileCounts) → Listed words (request.Link image units) → RefusesLink said units counts → Cause said words counts
of_link said words units image counts listed (unit_unread name among why) = of_read said words name counts (request.Link image units, listed, among) why
of_link said words units image counts listed (unit_bad name bytes among held (no_unit fault offset is faulty)) = bad_unit name bytes fault offset is (image, units, listed, among) held faulty
of_link said words units image counts listed (unit_bad name bytes among held (unit_unheld is)) = no_memory is
of_link said words units image counts listed (units_refused refusal is why) = of_units said words counts refusal (inr (request.Link image units, listed, tt)) is why

-- the ending of the demonstration is that of a run
pub closed : (start : State) (steps : ℕ) (stats : Bool) (count : ℕ) (ended said : Ending) (marks : Option ℕ) (before after : Streams) (later : Option (List ℕ))
    → RanFrom start steps stats ended marks before after → Closes count ended said after.written later → IsOfSort ran said
closed start steps stats count ended said marks before after later run (line_written status exited is whole) = inl (ap sort_of (is ∙ exited))
closed start steps stats count ended said marks before after later run (line_cut status exited (inl is) part) = inl (ap sort_of is)
closed start steps stats count ended said marks before after later run (line_cut status exited (inr is) part) = inr is
closed start steps stats count ended said marks before after later run (no_line none is same) = subst (IsOfSort ran) (sym is) (of_run start steps stats ended marks before after run)

-- the bound of a meaning is no refusal
not_bound : (said wanted : Ending) (cost : ℕ) → said ≡ CostUsed cost → said ≡ wanted → sort_of wanted ≡ refused → ⊥
not_bound said wanted cost is same refusal =
    let s : sort_of said ≡ followed = ap sort_of is in
    let t : sort_of said ≡ refused = ap sort_of same ∙ refusal in
    cc

-- the ending of a run whose objects are told is its own, or memory was refused
pub told_end : (machine : State) (at : ℕ) (said ending : Ending) (lives : Option (List Live)) → Tells machine at said ending lives → IsOfSort ran said → IsOfSort ran ending
told_end machine at said ending lives (list_told found own is lives_are report) run = subst (IsOfSort ran) (sym is) run
told_end machine at said ending lives (list_untold own is none) run = subst (IsOfSort ran) (sym is) run
told_end machine at said ending lives (list_unheld own is none) run = inr is

pub reported_run : (image : Image) (steps : ℕ) (ending : Ending) (marks : Option ℕ) (lives : Option (List Live)) (before after : Streams)
    → RanWithReport image steps ending marks lives before after → IsOfSort ran ending
reported_run image steps ending marks lives before after run =
    told_end run.machine _ run.said ending lives run.tells (of_run _ steps _ run.said None before after (ran_of _ run.machine steps run.said before after run.came))

cause : (made : Option Image) (said wanted : Ending) (marks : Option ℕ) (words : List (List ℕ)) (counts : FileCounts) (now : Option FileMap) (kept : Type 0) (before after : Streams)
    → Performed made said marks words counts now kept before after → said ≡ wanted → sort_of wanted ≡ refused → Cause said words counts
cause made said wanted marks words counts now kept before after (words_refused none why nothing stays) same refusal = of_words said words counts why
cause made said wanted marks words counts now kept before after (file_asked file steps stats asks (file_unread none why nothing)) same refusal =
    of_read said words file counts (request.Go steps stats (file ∷ []), asks, (0, refl)) why
cause made said wanted marks words counts now kept before after (file_asked file steps stats asks (file_ran program gives (program_unmade none memory nothing))) same refusal =
    no_memory memory
cause made said wanted marks words counts now kept before after (file_asked file steps stats asks (file_ran program gives (program_ran image is writes run not_read left))) same refusal =
    absurd (not_ran said wanted (of_run _ steps stats said marks before after run) same refusal)
cause made said wanted marks words counts now kept before after (file_asked file steps stats asks (file_built text held none (files_refused unmade why nothing))) same refusal =
    of_names said words (file ∷ []) (request.Go steps stats (file ∷ [])) counts asks refl tt (inl (file, steps, text, (stats, asks), held, none)) why
cause made said wanted marks words counts now kept before after (file_asked file steps stats asks (file_built text held none (files_ran image sound is run))) same refusal =
    absurd (not_ran said wanted (of_run _ steps stats said marks before after run) same refusal)
cause made said wanted marks words counts now kept before after (files_asked files steps stats asks several (files_refused none why nothing)) same refusal =
    of_names said words files (request.Go steps stats files) counts asks refl tt (inr (request.Go steps stats files, asks, several)) why
cause made said wanted marks words counts now kept before after (files_asked files steps stats asks several (files_ran image sound is run)) same refusal =
    absurd (not_ran said wanted (of_run _ steps stats said marks before after run) same refusal)
cause made said wanted marks words counts now kept before after (build_asked image files none asks (nothing_built why stays) nothing) same refusal =
    of_names said words files (request.Build image files) counts asks refl tt (inr (request.Build image files, asks, tt)) why
cause made said wanted marks words counts now kept before after (build_asked image files none asks (image_written writes) nothing) same refusal =
    of_writes said wanted words image _ counts now (request.Build image files, asks, refl) writes same refusal
cause made said wanted marks words counts now kept before after (compile_asked unit file none asks (nothing_compiled reason is why stays) nothing) same refusal =
    of_one said words unit file counts reason asks is why
cause made said wanted marks words counts now kept before after (compile_asked unit file none asks (unit_written writes) nothing) same refusal =
    of_writes said wanted words unit _ counts now (request.Compile unit file, asks, refl) writes same refusal
cause made said wanted marks words counts now kept before after (link_asked image units none asks (link_none why stays) nothing) same refusal =
    of_link said words units image counts asks why
cause made said wanted marks words counts now kept before after (link_asked image units none asks (link_written writes) nothing) same refusal =
    of_writes said wanted words image _ counts now (request.Link image units, asks, refl) writes same refusal
cause made said wanted marks words counts now kept before after (meaning_asked files cost none asks unmarked (meaning_refused why stays same_streams)) same refusal =
    of_names said words files (request.Mean cost files) counts asks refl tt (inr (request.Mean cost files, asks, tt)) why
cause made said wanted marks words counts now kept before after (meaning_asked files cost none asks unmarked (meaning_followed meant)) same refusal =
    elim (sorted said cost meant) [
      | inl run ↦ absurd (not_ran said wanted run same refusal)
      | inr (inl is) ↦ no_text is (inr (request.Mean cost files, asks, tt))
      | inr (inr is) ↦ absurd (not_bound said wanted cost is same refusal)
    ]
cause made said wanted marks words counts now kept before after (report_asked files steps lives asks (report_refused none no_lives why nothing)) same refusal =
    of_names said words files (request.Report steps files) counts asks refl tt (inr (request.Report steps files, asks, tt)) why
cause made said wanted marks words counts now kept before after (report_asked files steps lives asks (report_ran image sound is run)) same refusal =
    absurd (not_ran said wanted (reported_run image steps said marks lives before after run) same refusal)
cause made said wanted marks words counts now kept before after (demo_refused count refusal none asks is why nothing) same refusal_sort =
    of_units said words counts refusal (inr (request.Demo count, asks, tt)) is why
cause made said wanted marks words counts now kept before after (demo_ran count image ended between sound made_is asks unmarked left run closes unread) same refusal =
    absurd (not_ran said wanted (closed _ _ _ count ended said _ _ _ after.written run closes) same refusal)
cause made said wanted marks words counts now kept before after (image_asked file steps stats none asks (image_unread why nothing)) same refusal =
    of_read said words file counts (request.Run steps stats file, asks, (0, refl)) why
cause made said wanted marks words counts now kept before after (image_asked file steps stats none asks (image_read bytes held runs)) same refusal =
    absurd (not_of_image (image_at bytes) steps stats said wanted marks kept before after runs same refusal)

-- ---- of each refusal

usage_by : (said : Ending) (words : List (List ℕ)) (counts : FileCounts) → Cause said words counts → said ≡ Usage → IsUsable words → ⊥
usage_by said words counts (no_use is why) same = why
usage_by said words counts (no_file file is names why) same = absurd cc
usage_by said words counts (bad_file name is may why) same = absurd cc
usage_by said words counts (bad_text rule place name is why asks) same = absurd cc
usage_by said words counts (bad_link fault is asks) same = absurd cc
usage_by said words counts (bad_unit file bytes unit_fault at is names held faulty) same = absurd cc
usage_by said words counts (no_text is asks) same = absurd cc
usage_by said words counts (no_memory is) same = absurd cc

-- a unit that the words name, and whose file has these bytes, has that fault
abbrev AsksBadUnit : (words : List (List ℕ)) (told : Option FileMap) (name : List ℕ) (fault : UnitFault) (offset : ℕ) → Type 0
AsksBadUnit words told name fault offset = AsksUnit words name × ((bytes : List ℕ) × Holds told name (Some bytes) × IsFault bytes fault offset)

unit_by : (said : Ending) (words : List (List ℕ)) (counts : FileCounts) (name : List ℕ) (fault : UnitFault) (offset : ℕ) → Cause said words counts → said ≡ BadUnit name fault offset
    → AsksBadUnit words counts.told name fault offset
unit_by said words counts name fault offset (no_use is why) same = absurd cc
unit_by said words counts name fault offset (no_file file is names why) same = absurd cc
unit_by said words counts name fault offset (bad_file other is may why) same = absurd cc
unit_by said words counts name fault offset (bad_text rule place other is why asks) same = absurd cc
unit_by said words counts name fault offset (bad_link link_fault is asks) same = absurd cc
unit_by said words counts name fault offset (bad_unit file bytes unit_fault at is asks held faulty) same =
    let one : BadUnit file unit_fault at ≡ BadUnit name fault offset = sym is ∙ same in
    let e : file ≡ name = cc in
    let f : unit_fault ≡ fault = cc in
    let o : at ≡ offset = cc in (
      subst (AsksUnit words) e asks,
      (
        bytes,
        subst (λ (n : List ℕ). Holds counts.told n (Some bytes)) e held,
        subst (λ (n : ℕ). IsFault bytes fault n) o (subst (λ (x : UnitFault). IsFault bytes x at) f faulty),
      ),
    )
unit_by said words counts name fault offset (no_text is asks) same = absurd cc
unit_by said words counts name fault offset (no_memory is) same = absurd cc

command_by : (said : Ending) (words : List (List ℕ)) (counts : FileCounts) → Cause said words counts → said ≡ NotBuilt Command → ⊥
command_by said words counts (no_use is why) same = cc
command_by said words counts (no_file file is names why) same = cc
command_by said words counts (bad_file name is may why) same = cc
command_by said words counts (bad_text rule place name is why asks) same = cc
command_by said words counts (bad_link fault is asks) same = cc
command_by said words counts (bad_unit file bytes unit_fault at is asks held faulty) same = cc
command_by said words counts (no_text is asks) same = cc
command_by said words counts (no_memory is) same = cc

missing_by : (said : Ending) (words : List (List ℕ)) (counts : FileCounts) (name : List ℕ) → Cause said words counts → said ≡ MissingFile name
    → Misses counts × NamesToRead words name × Holds counts.told name None
missing_by said words counts name (no_use is why) same = absurd cc
missing_by said words counts name (no_file file is names why) same =
    let one : MissingFile file ≡ MissingFile name = sym is ∙ same in
    let e : file ≡ name = cc in
    (why.1, subst (NamesToRead words) e names, subst (λ (f : List ℕ). Holds counts.told f None) e why.0)
missing_by said words counts name (bad_file other is may why) same = absurd cc
missing_by said words counts name (bad_text rule place other is why asks) same = absurd cc
missing_by said words counts name (bad_link fault is asks) same = absurd cc
missing_by said words counts name (bad_unit file bytes unit_fault at is names held faulty) same = absurd cc
missing_by said words counts name (no_text is asks) same = absurd cc
missing_by said words counts name (no_memory is) same = absurd cc

file_fault_by : (said : Ending) (words : List (List ℕ)) (counts : FileCounts) (name : List ℕ) → Cause said words counts → said ≡ FileFault name
    → Fails name counts × MayTouch words name
file_fault_by said words counts name (no_use is why) same = absurd cc
file_fault_by said words counts name (no_file file is names why) same = absurd cc
file_fault_by said words counts name (bad_file other is may why) same =
    let one : FileFault other ≡ FileFault name = sym is ∙ same in
    let e : other ≡ name = cc in
    (subst (λ (f : List ℕ). Fails f counts) e why, subst (MayTouch words) e may)
file_fault_by said words counts name (bad_text rule place other is why asks) same = absurd cc
file_fault_by said words counts name (bad_link fault is asks) same = absurd cc
file_fault_by said words counts name (bad_unit file bytes unit_fault at is names held faulty) same = absurd cc
file_fault_by said words counts name (no_text is asks) same = absurd cc
file_fault_by said words counts name (no_memory is) same = absurd cc

rejected_by : (said : Ending) (words : List (List ℕ)) (counts : FileCounts) (rule : Rule) (place : Place) (name : List ℕ) → Cause said words counts → said ≡ Rejected rule place name
    → IsRejection rule place counts × AsksText words counts.told
rejected_by said words counts rule place name (no_use is why) same = absurd cc
rejected_by said words counts rule place name (no_file file is names why) same = absurd cc
rejected_by said words counts rule place name (bad_file other is may why) same = absurd cc
rejected_by said words counts rule place name (bad_text r p n is why asks) same =
    let one : Rejected r p n ≡ Rejected rule place name = sym is ∙ same in
    let e : r ≡ rule = cc in
    let f : p ≡ place = cc in
    (subst (λ (q : Place). IsRejection rule q counts) f (subst (λ (s : Rule). IsRejection s p counts) e why), asks)
rejected_by said words counts rule place name (bad_link fault is asks) same = absurd cc
rejected_by said words counts rule place name (bad_unit file bytes unit_fault at is names held faulty) same = absurd cc
rejected_by said words counts rule place name (no_text is asks) same = absurd cc
rejected_by said words counts rule place name (no_memory is) same = absurd cc

text_by : (said : Ending) (words : List (List ℕ)) (counts : FileCounts) → Cause said words counts → said ≡ NotBuilt Text → AsksText words counts.told
text_by said words counts (no_use is why) same = absurd cc
text_by said words counts (no_file file is names why) same = absurd cc
text_by said words counts (bad_file name is may why) same = absurd cc
text_by said words counts (bad_text rule place name is why asks) same = absurd cc
text_by said words counts (bad_link fault is asks) same = absurd cc
text_by said words counts (bad_unit file bytes unit_fault at is names held faulty) same = absurd cc
text_by said words counts (no_text is asks) same = asks
text_by said words counts (no_memory is) same = absurd cc

link_by : (said : Ending) (words : List (List ℕ)) (counts : FileCounts) (fault : LinkFault) → Cause said words counts → said ≡ LinkRefused fault → AsksLinked words counts.told
link_by said words counts fault (no_use is why) same = absurd cc
link_by said words counts fault (no_file file is names why) same = absurd cc
link_by said words counts fault (bad_file name is may why) same = absurd cc
link_by said words counts fault (bad_text rule place name is why asks) same = absurd cc
link_by said words counts fault (bad_link other is asks) same = asks
link_by said words counts fault (bad_unit file bytes unit_fault at is names held faulty) same = absurd cc
link_by said words counts fault (no_text is asks) same = absurd cc
link_by said words counts fault (no_memory is) same = absurd cc

pub usage_only : (ending : Ending) (made : Option Image) (said : Ending) (marks : Option ℕ) (words : List (List ℕ)) (counts : FileCounts) (now : Option FileMap) (kept : Type 0) (before after : Streams)
    → Performed made said marks words counts now kept before after → IsUnless said ending → ending ≡ Usage → IsUsable words → ⊥
usage_only ending made said marks words counts now kept before after performed report is =
    let same = is_said said ending Usage report is (λ e. cc) (λ e. cc) in
    usage_by said words counts (cause made said Usage marks words counts now kept before after performed same refl) same

pub command : (ending : Ending) (made : Option Image) (said : Ending) (marks : Option ℕ) (words : List (List ℕ)) (counts : FileCounts) (now : Option FileMap) (kept : Type 0) (before after : Streams)
    → Performed made said marks words counts now kept before after → IsUnless said ending → ending ≡ NotBuilt Command → ⊥
command ending made said marks words counts now kept before after performed report is =
    let same = is_said said ending (NotBuilt Command) report is (λ e. cc) (λ e. cc) in
    command_by said words counts (cause made said (NotBuilt Command) marks words counts now kept before after performed same refl) same

pub bad_unit_only : (ending : Ending) (made : Option Image) (said : Ending) (marks : Option ℕ) (words : List (List ℕ)) (counts : FileCounts) (now : Option FileMap) (kept : Type 0) (before after : Streams)
    → Performed made said marks words counts now kept before after → IsUnless said ending → (name : List ℕ) (fault : UnitFault) (offset : ℕ) → ending ≡ BadUnit name fault offset
    → AsksBadUnit words counts.told name fault offset
bad_unit_only ending made said marks words counts now kept before after performed report name fault offset is =
    let same = is_said said ending (BadUnit name fault offset) report is (λ e. cc) (λ e. cc) in
    unit_by said words counts name fault offset (cause made said (BadUnit name fault offset) marks words counts now kept before after performed same refl) same

pub text_only : (ending : Ending) (made : Option Image) (said : Ending) (marks : Option ℕ) (words : List (List ℕ)) (counts : FileCounts) (now : Option FileMap) (kept : Type 0) (before after : Streams)
    → Performed made said marks words counts now kept before after → IsUnless said ending → ending ≡ NotBuilt Text → AsksText words counts.told
text_only ending made said marks words counts now kept before after performed report is =
    let same = is_said said ending (NotBuilt Text) report is (λ e. cc) (λ e. cc) in
    text_by said words counts (cause made said (NotBuilt Text) marks words counts now kept before after performed same refl) same

pub missing : (ending : Ending) (made : Option Image) (said : Ending) (marks : Option ℕ) (words : List (List ℕ)) (counts : FileCounts) (now : Option FileMap) (kept : Type 0) (before after : Streams)
    → Performed made said marks words counts now kept before after → IsUnless said ending → (name : List ℕ) → ending ≡ MissingFile name
    → Misses counts × NamesToRead words name × Holds counts.told name None
missing ending made said marks words counts now kept before after performed report name is =
    let same = is_said said ending (MissingFile name) report is (λ e. cc) (λ e. cc) in
    missing_by said words counts name (cause made said (MissingFile name) marks words counts now kept before after performed same refl) same

pub file_fault : (ending : Ending) (made : Option Image) (said : Ending) (marks : Option ℕ) (words : List (List ℕ)) (counts : FileCounts) (now : Option FileMap) (kept : Type 0) (before after : Streams)
    → Performed made said marks words counts now kept before after → IsUnless said ending → (name : List ℕ) → ending ≡ FileFault name
    → Fails name counts × MayTouch words name
file_fault ending made said marks words counts now kept before after performed report name is =
    let same = is_said said ending (FileFault name) report is (λ e. cc) (λ e. cc) in
    file_fault_by said words counts name (cause made said (FileFault name) marks words counts now kept before after performed same refl) same

pub rejected : (ending : Ending) (made : Option Image) (said : Ending) (marks : Option ℕ) (words : List (List ℕ)) (counts : FileCounts) (now : Option FileMap) (kept : Type 0) (before after : Streams)
    → Performed made said marks words counts now kept before after → IsUnless said ending → (rule : Rule) (place : Place) (name : List ℕ) → ending ≡ Rejected rule place name
    → IsRejection rule place counts × AsksText words counts.told
rejected ending made said marks words counts now kept before after performed report rule place name is =
    let same = is_said said ending (Rejected rule place name) report is (λ e. cc) (λ e. cc) in
    rejected_by said words counts rule place name (cause made said (Rejected rule place name) marks words counts now kept before after performed same refl) same

pub link_refused : (ending : Ending) (made : Option Image) (said : Ending) (marks : Option ℕ) (words : List (List ℕ)) (counts : FileCounts) (now : Option FileMap) (kept : Type 0) (before after : Streams)
    → Performed made said marks words counts now kept before after → IsUnless said ending → (fault : LinkFault) → ending ≡ LinkRefused fault → AsksLinked words counts.told
link_refused ending made said marks words counts now kept before after performed report fault is =
    let same = is_said said ending (LinkRefused fault) report is (λ e. cc) (λ e. cc) in
    link_by said words counts fault (cause made said (LinkRefused fault) marks words counts now kept before after performed same refl) same

-- ---- what words that ask for no run answer

usage_said : (made : Option Image) (said : Ending) (marks : Option ℕ) (words : List (List ℕ)) (counts : FileCounts) (now : Option FileMap) (kept : Type 0) (before after : Streams)
    → Performed made said marks words counts now kept before after → (IsUsable words → ⊥) → (said ≡ Usage) ⊎ (said ≡ NoMemory)
usage_said made said marks words counts now kept before after (words_refused none (unusable is why) nothing stays) useless = inl is
usage_said made said marks words counts now kept before after (words_refused none (words_unheld is) nothing stays) useless = inr is
usage_said made said marks words counts now kept before after (file_asked file steps stats asks runs) useless =
    absurd (useless (usable words (request.Go steps stats (file ∷ [])) asks))
usage_said made said marks words counts now kept before after (files_asked files steps stats asks several runs) useless =
    absurd (useless (usable words (request.Go steps stats files) asks))
usage_said made said marks words counts now kept before after (build_asked image files none asks writes nothing) useless = absurd (useless (usable words (request.Build image files) asks))
usage_said made said marks words counts now kept before after (compile_asked unit file none asks writes nothing) useless = absurd (useless (usable words (request.Compile unit file) asks))
usage_said made said marks words counts now kept before after (link_asked image units none asks writes nothing) useless = absurd (useless (usable words (request.Link image units) asks))
usage_said made said marks words counts now kept before after (meaning_asked files cost none asks unmarked means) useless = absurd (useless (usable words (request.Mean cost files) asks))
usage_said made said marks words counts now kept before after (report_asked files steps lives asks reports) useless =
    absurd (useless (usable words (request.Report steps files) asks))
usage_said made said marks words counts now kept before after (demo_refused count refusal none asks is why nothing) useless = absurd (useless (usable words (request.Demo count) asks))
usage_said made said marks words counts now kept before after (demo_ran count image ended between sound made_is asks unmarked left run closes unread) useless =
    absurd (useless (usable words (request.Demo count) asks))
usage_said made said marks words counts now kept before after (image_asked file steps stats none asks runs) useless =
    absurd (useless (usable words (request.Run steps stats file) asks))

pub usage : (ending : Ending) (made : Option Image) (said : Ending) (marks : Option ℕ) (words : List (List ℕ)) (counts : FileCounts) (now : Option FileMap) (kept : Type 0) (before after : Streams)
    → Performed made said marks words counts now kept before after → IsUnless said ending → (IsUsable words → ⊥) → IsUnless Usage ending
usage ending made said marks words counts now kept before after performed report useless =
    reported Usage said ending (usage_said made said marks words counts now kept before after performed useless) report

-- ---- a file that is no image

abbrev ReadsAs : (words : List (List ℕ)) (told : Option FileMap) (fault : ElfFault) (offset : ℕ) → Type 0
ReadsAs words told fault offset = (file : List ℕ) × (steps : ℕ) × (stats : Bool) × (bytes : List ℕ) ×
    AsksRun words file steps stats × Holds told file (Some bytes) × (image_at bytes ≡ Err (elf.Bad fault offset))

-- a refusal is no fault of an image
not_malformed : (said : Ending) (fault : ElfFault) (offset : ℕ) → IsOfSort refused said → said ≡ BadImage fault offset → ⊥
not_malformed said fault offset (inl is) same = let s : sort_of said ≡ malformed = ap sort_of same in cc
not_malformed said fault offset (inr is) same = cc

-- nor is the ending of a run
not_run_malformed : (said : Ending) (fault : ElfFault) (offset : ℕ) → IsOfSort ran said → said ≡ BadImage fault offset → ⊥
not_run_malformed said fault offset (inl is) same = let s : sort_of said ≡ malformed = ap sort_of same in cc
not_run_malformed said fault offset (inr is) same = cc

bad_image_by : (made : Option Image) (said : Ending) (marks : Option ℕ) (words : List (List ℕ)) (told : Option FileMap) (kept : Type 0) (before after : Streams) (fault : ElfFault) (offset : ℕ)
    → IsRunOf made said marks words told kept before after → said ≡ BadImage fault offset → ReadsAs words told fault offset
bad_image_by made said marks words told kept before after fault offset (none_ran none refusal nothing) same = absurd (not_malformed said fault offset refusal same)
bad_image_by made said marks words told kept before after fault offset (job_ran image is job asked writes run not_read left) same =
    absurd (not_run_malformed said fault offset (of_run _ _ _ said marks before after run) same)
bad_image_by made said marks words told kept before after fault offset (files_run image is run) same =
    absurd (not_run_malformed said fault offset (of_run _ _ _ said marks before after run.runs) same)
bad_image_by made said marks words told kept before after fault offset (file_written none is name names nothing) same =
    absurd (not_run_malformed said fault offset (inl (ap sort_of is)) same)
bad_image_by made said marks words told kept before after fault offset (report_run image sound is files steps lives asks run) same =
    absurd (not_run_malformed said fault offset (reported_run image steps said marks lives before after run) same)
bad_image_by made said marks words told kept before after fault offset (demo_run image sound is count ended between asks unmarked left run closes unread) same =
    absurd (not_run_malformed said fault offset (closed _ _ _ count ended said _ _ _ after.written run closes) same)
bad_image_by made said marks words told kept before after fault offset (meaning_run none files cost asks unmarked meant) same =
    elim (sorted said cost meant) [
      | inl run ↦ absurd (not_run_malformed said fault offset run same)
      | inr (inl is) ↦ absurd (not_malformed said fault offset (inl (ap sort_of is)) same)
      | inr (inr is) ↦ absurd cc
    ]
bad_image_by made said marks words told kept before after fault offset (image_ran none run) same =
    elim (of_image (image_at run.bytes) run.steps run.stats said marks kept before after run.runs) [
      | inl ended ↦ absurd (not_run_malformed said fault offset ended same)
      | inr (f, o, bytes, is) ↦
          let one : BadImage f o ≡ BadImage fault offset = sym is ∙ same in
          let e : f ≡ fault = cc in
          let k : o ≡ offset = cc in (
            run.file,
            run.steps,
            run.stats,
            run.bytes,
            run.request,
            run.text,
            subst (λ (n : ℕ). image_at run.bytes ≡ Err (elf.Bad fault n)) k (subst (λ (x : ElfFault). image_at run.bytes ≡ Err (elf.Bad x o)) e bytes),
          )
    ]

pub bad_image : (ending : Ending) (made : Option Image) (said : Ending) (marks : Option ℕ) (words : List (List ℕ)) (told : Option FileMap) (kept : Type 0) (before after : Streams)
    → IsRunOf made said marks words told kept before after → IsUnless said ending → (fault : ElfFault) (offset : ℕ) → ending ≡ BadImage fault offset → ReadsAs words told fault offset
bad_image ending made said marks words told kept before after run report fault offset is =
    bad_image_by made said marks words told kept before after fault offset run (is_said said ending (BadImage fault offset) report is (λ e. cc) (λ e. cc))

-- ---- the bound of a meaning

-- a refusal is not one
refused_costless : (said : Ending) (k : ℕ) → IsOfSort refused said → said ≡ CostUsed k → ⊥
refused_costless said k (inl is) same = let s : sort_of said ≡ followed = ap sort_of same in cc
refused_costless said k (inr is) same = cc

-- nor is the ending of a run
ran_costless : (said : Ending) (k : ℕ) → IsOfSort ran said → said ≡ CostUsed k → ⊥
ran_costless said k (inl is) same = let s : sort_of said ≡ followed = ap sort_of same in cc
ran_costless said k (inr is) same = cc

-- nor is a malformed image
unlike : (said : Ending) (fault : ElfFault) (offset k : ℕ) → said ≡ BadImage fault offset → said ≡ CostUsed k → ⊥
unlike said fault offset k is same = cc

-- the words ask for a meaning up to that cost
abbrev AsksMeaning : (words : List (List ℕ)) (cost : ℕ) → Type 0
AsksMeaning words cost = (files : List (List ℕ)) × Listed words (request.Mean cost files)

cost_by : (made : Option Image) (said : Ending) (marks : Option ℕ) (words : List (List ℕ)) (told : Option FileMap) (kept : Type 0) (before after : Streams) (k : ℕ)
    → IsRunOf made said marks words told kept before after → said ≡ CostUsed k → AsksMeaning words k
cost_by made said marks words told kept before after k (none_ran none refusal nothing) same = absurd (refused_costless said k refusal same)
cost_by made said marks words told kept before after k (job_ran image is job asked writes run not_read left) same =
    absurd (ran_costless said k (of_run _ _ _ said marks before after run) same)
cost_by made said marks words told kept before after k (files_run image is run) same = absurd (ran_costless said k (of_run _ _ _ said marks before after run.runs) same)
cost_by made said marks words told kept before after k (file_written none is name names nothing) same = absurd (ran_costless said k (inl (ap sort_of is)) same)
cost_by made said marks words told kept before after k (report_run image sound is files steps lives asks run) same =
    absurd (ran_costless said k (reported_run image steps said marks lives before after run) same)
cost_by made said marks words told kept before after k (demo_run image sound is count ended between asks unmarked left run closes unread) same =
    absurd (ran_costless said k (closed _ _ _ count ended said _ _ _ after.written run closes) same)
cost_by made said marks words told kept before after k (meaning_run none files cost asks unmarked meant) same =
    (files, subst (λ (n : ℕ). Listed words (request.Mean n files)) (sym (cost_named said cost k meant same)) asks)
cost_by made said marks words told kept before after k (image_ran none run) same =
    elim (of_image (image_at run.bytes) run.steps run.stats said marks kept before after run.runs) [
      | inl ended ↦ absurd (ran_costless said k ended same)
      | inr (f, o, bytes, is) ↦ absurd (unlike said f o k is same)
    ]

pub cost_used : (ending : Ending) (made : Option Image) (said : Ending) (marks : Option ℕ) (words : List (List ℕ)) (told : Option FileMap) (kept : Type 0) (before after : Streams)
    → IsRunOf made said marks words told kept before after → IsUnless said ending → (k : ℕ) → ending ≡ CostUsed k → AsksMeaning words k
cost_used ending made said marks words told kept before after run report k is =
    cost_by made said marks words told kept before after k run (is_said said ending (CostUsed k) report is (λ e. cc) (λ e. cc))
