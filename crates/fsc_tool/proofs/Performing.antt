-- What ran in a call, and the image that the words ask for.
use Rattle.std.proofs.Common.{◌≡◌, ℕ, ◌⊎◌, inl, inr, List, [], ◌∷◌, Bool, Option, Some, None, Result, Ok, Err, refl, ap, subst, ◌∙◌}
use Rattle.std.specs.Prelude.{IsSome}
use Rattle.fsc_base.specs.declared.image.Image.{Image}
use Rattle.fsc_outside.specs.Calls.{FileCounts}
use Rattle.fsc_outside.specs.Counts.{Rose}
use Rattle.fsc_outside.specs.FileMap.{FileMap, Holds}
use Rattle.elf_image.specs.Reading.{image_at}
use Rattle.elf_image.specs.declared.fault.ReadElfNo.{ReadElfNo}
use Rattle.elf_image.specs.declared.fault.ReadElfNo.TheVariants as elf
use Rattle.rv_run.specs.ImageRun.{Streams}
use Rattle.command_line.specs.declared.request.Request.TheVariants as request
use Rattle.fsc_ending.specs.declared.ending.Ending.{Ending}
use Rattle.fsc_ending.specs.declared.ending.Ending.TheVariants.{FileFault, NoMemory}
use Rattle.fsc_ending.specs.Sort.{sort_of, refused, IsOfSort}
use Rattle.fsc_core.specs.declared.refusal.CoreNo.{CoreNo}
use Rattle.fsc_core.specs.declared.refusal.CoreNo.TheVariants as core
use Rattle.fsc_run.specs.Reading.{absent, unreadable, unheld}
use Rattle.fsc_run.specs.Running.{RanNothing, RunsImage, image_unread, image_read}
use Rattle.fsc_run.proofs.Sorts.{refused_read}
use Rattle.fsc_commands.specs.Refusing.{RefusesNames, refused_so, ending_of_refusal}
use Rattle.fsc_commands.specs.Going.{program_unmade, program_ran, files_refused, files_ran, file_unread, file_ran, file_built}
use Rattle.fsc_commands.specs.Writing.{Writes, written, unwritten, unheld as write_unheld, files_refused as nothing_built, image_written, file_refused as nothing_compiled, unit_written, IsBadUnit, no_unit, unit_unheld, RefusesLink, unit_unread, unit_bad, units_refused, link_refused, link_written}
use Rattle.fsc_commands.specs.Meaning.{files_refused as meaning_refused, meaning_followed}
use Rattle.fsc_commands.specs.Reporting.{report_refused, report_ran}
use Rattle.fsc_tool.specs.Words.{AsksRun, NamesToWrite}
use Rattle.fsc_tool.specs.Performing.{RefusesWords, unusable, words_unheld, Performed, words_refused, file_asked, files_asked, image_asked, build_asked, compile_asked, link_asked, meaning_asked, report_asked, demo_refused, demo_ran}
use Rattle.fsc_tool.specs.Tool.{IsRunOf, none_ran, image_ran, job_ran, files_ran as files_run, file_written, report_ran as report_run, meaning_followed as meaning_run, demo_ran as demo_run}
use Rattle.fsc_tool.proofs.Asking.{one_run, not_both, not_several, not_files_run, not_run, no_job, usable, one_text, not_missing}

-- ---- refusals

pub refused_words : (ending : Ending) (words : List (List ℕ)) → RefusesWords ending words → IsOfSort refused ending
refused_words ending words (unusable is no_use) = inl (ap sort_of is)
refused_words ending words (words_unheld is) = inr is

pub refused_units : (ending : Ending) (refusal : CoreNo) → ending ≡ ending_of_refusal refusal → IsOfSort refused ending
refused_units ending (core.Broken broken file) is = inl (ap sort_of is)
refused_units ending (core.Missing file) is = inl (ap sort_of is)
refused_units ending (core.FileFault file) is = inl (ap sort_of is)
refused_units ending (core.Link fault) is = inl (ap sort_of is)
refused_units ending core.Misfit is = inl (ap sort_of is)
refused_units ending core.NoMemory is = inr is

pub refused_names : (ending : Ending) (names : List (List ℕ)) (counts : FileCounts) → RefusesNames ending names counts → IsOfSort refused ending
refused_names ending names counts (refused_so refusal is why) = refused_units ending refusal is

refused_unit : (ending : Ending) (name bytes : List ℕ) → IsBadUnit ending name bytes → IsOfSort refused ending
refused_unit ending name bytes (no_unit fault offset is faulty) = inl (ap sort_of is)
refused_unit ending name bytes (unit_unheld is) = inr is

pub refused_link : (ending : Ending) (names : List (List ℕ)) (counts : FileCounts) → RefusesLink ending names counts → IsOfSort refused ending
refused_link ending names counts (unit_unread name among why) = refused_read ending name counts why
refused_link ending names counts (unit_bad name bytes among held bad) = refused_unit ending name bytes bad
refused_link ending names counts (units_refused refusal is why) = refused_units ending refusal is

-- ---- what ran

-- a file was written, or nothing was
of_writes : (made : Option Image) (said : Ending) (marks : Option ℕ) (words : List (List ℕ)) (name : List ℕ) (IsFile : List ℕ → Type 0) (counts : FileCounts) (now : Option FileMap) (kept : Type 0)
    (before after : Streams) → made ≡ None → NamesToWrite words name → RanNothing marks kept before after → Writes said name IsFile counts now
    → IsRunOf made said marks words counts.told kept before after
of_writes made said marks words name IsFile counts now kept before after none names nothing (written bytes is are replaces) = file_written none is name names nothing
of_writes made said marks words name IsFile counts now kept before after none names nothing (unwritten is fails others) = none_ran none (inl (ap sort_of is)) nothing
of_writes made said marks words name IsFile counts now kept before after none names nothing (write_unheld is others) = none_ran none (inr is) nothing

pub is_run : (made : Option Image) (said : Ending) (marks : Option ℕ) (words : List (List ℕ)) (counts : FileCounts) (now : Option FileMap) (kept : Type 0) (before after : Streams)
    → Performed made said marks words counts now kept before after → IsRunOf made said marks words counts.told kept before after
is_run made said marks words counts now kept before after (words_refused none why nothing stays) = none_ran none (refused_words said words why) nothing
is_run made said marks words counts now kept before after (file_asked file steps stats asks (file_unread none why nothing)) =
    none_ran none (refused_read said file counts why) nothing
is_run made said marks words counts now kept before after (file_asked file steps stats asks (file_ran program gives (program_unmade none memory nothing))) =
    none_ran none (inr memory) nothing
is_run made said marks words counts now kept before after (file_asked file steps stats asks (file_ran program gives (program_ran image is writes ran not_read left))) =
    job_ran image is (record { file = file; steps = steps; text = gives.0; program = program }) (record { request = (stats, asks); text = gives.1; plain = gives.2 })
    writes ran not_read left
is_run made said marks words counts now kept before after (file_asked file steps stats asks (file_built text held none (files_refused unmade why nothing))) =
    none_ran unmade (refused_names said (file ∷ []) counts why) nothing
is_run made said marks words counts now kept before after (file_asked file steps stats asks (file_built text held none (files_ran image sound is ran))) =
    files_run image is
    (record { files = file ∷ []; steps = steps; stats = stats; request = asks; apart = no_job words counts.told file steps text (stats, asks) held none; sound = sound; runs = ran })
is_run made said marks words counts now kept before after (files_asked files steps stats asks several (files_refused none why nothing)) =
    none_ran none (refused_names said files counts why) nothing
is_run made said marks words counts now kept before after (files_asked files steps stats asks several (files_ran image sound is ran)) =
    files_run image is
    (record {
      files = files;
      steps = steps;
      stats = stats;
      request = asks;
      apart = (λ job is_told asked. not_several words job.file job.steps steps files stats asked.request asks several);
      sound = sound;
      runs = ran;
    })
is_run made said marks words counts now kept before after (image_asked file steps stats none asks (image_unread why nothing)) =
    none_ran none (refused_read said file counts why) nothing
is_run made said marks words counts now kept before after (image_asked file steps stats none asks (image_read bytes held runs)) =
    image_ran none (record { file = file; steps = steps; stats = stats; bytes = bytes; request = asks; text = held; runs = runs })
is_run made said marks words counts now kept before after (build_asked image files none asks (nothing_built why same) nothing) =
    none_ran none (refused_names said files counts why) nothing
is_run made said marks words counts now kept before after (build_asked image files none asks (image_written writes) nothing) =
    of_writes made said marks words image _ counts now kept before after none (request.Build image files, asks, refl) nothing writes
is_run made said marks words counts now kept before after (compile_asked unit file none asks (nothing_compiled reason is why same) nothing) =
    none_ran none (refused_units said reason is) nothing
is_run made said marks words counts now kept before after (compile_asked unit file none asks (unit_written writes) nothing) =
    of_writes made said marks words unit _ counts now kept before after none (request.Compile unit file, asks, refl) nothing writes
is_run made said marks words counts now kept before after (link_asked image units none asks (link_refused why same) nothing) =
    none_ran none (refused_link said units counts why) nothing
is_run made said marks words counts now kept before after (link_asked image units none asks (link_written writes) nothing) =
    of_writes made said marks words image _ counts now kept before after none (request.Link image units, asks, refl) nothing writes
is_run made said marks words counts now kept before after (meaning_asked files cost none asks unmarked (meaning_refused why same stays)) =
    none_ran none (refused_names said files counts why) (unmarked, same, stays)
is_run made said marks words counts now kept before after (meaning_asked files cost none asks unmarked (meaning_followed meant)) =
    meaning_run none files cost asks unmarked meant
is_run made said marks words counts now kept before after (report_asked files steps lives asks (report_refused none no_lives why nothing)) =
    none_ran none (refused_names said files counts why) nothing
is_run made said marks words counts now kept before after (report_asked files steps lives asks (report_ran image sound is run)) =
    report_run image sound is files steps lives asks run
is_run made said marks words counts now kept before after (demo_refused count refusal none asks is why nothing) =
    none_ran none (refused_units said refusal is) nothing
is_run made said marks words counts now kept before after (demo_ran count image ended between sound made_is asks unmarked left run closes unread) =
    demo_run image sound made_is count ended between asks unmarked left run closes unread

-- ---- the run of an image that the words ask for

-- memory was refused before an image ran
memory_first : (image : Result Image ReadElfNo) (steps : ℕ) (stats : Bool) (said : Ending) (marks : Option ℕ) (kept : Type 0) (before after : Streams)
    → said ≡ NoMemory → RanNothing marks kept before after → RunsImage image steps stats said marks kept before after
memory_first (Ok image) steps stats said marks kept before after memory nothing = inl (memory, nothing)
memory_first (Err (elf.Bad fault offset)) steps stats said marks kept before after memory nothing = (inl memory, nothing)
memory_first (Err elf.NoMemory) steps stats said marks kept before after memory nothing = (memory, nothing)

abbrev RunsOrFails : (said : Ending) (marks : Option ℕ) (counts : FileCounts) (kept : Type 0) (before after : Streams) (file : List ℕ) (steps : ℕ) (stats : Bool) (bytes : List ℕ) → Type 0
RunsOrFails said marks counts kept before after file steps stats bytes =
    RunsImage (image_at bytes) steps stats said marks kept before after
    ⊎ ((said ≡ FileFault file) × Rose counts.faults_before counts.faults_after × RanNothing marks kept before after)

pub image_runs : (made : Option Image) (said : Ending) (marks : Option ℕ) (words : List (List ℕ)) (counts : FileCounts) (now : Option FileMap) (kept : Type 0) (before after : Streams)
    → Performed made said marks words counts now kept before after
    → (file : List ℕ) (steps : ℕ) (stats : Bool) (bytes : List ℕ) → IsSome counts.told → AsksRun words file steps stats → Holds counts.told file (Some bytes)
    → RunsOrFails said marks counts kept before after file steps stats bytes
image_runs made said marks words counts now kept before after (words_refused none (unusable is no_use) nothing stays) file steps stats bytes is_told asks held =
    absurd (no_use (usable words (request.Run steps stats file) asks))
image_runs made said marks words counts now kept before after (words_refused none (words_unheld is) nothing stays) file steps stats bytes is_told asks held =
    inl (memory_first (image_at bytes) steps stats said marks kept before after is nothing)
image_runs made said marks words counts now kept before after (file_asked other m s other_asks runs) file steps stats bytes is_told asks held =
    absurd (not_both words other file m steps stats (s, other_asks) asks)
image_runs made said marks words counts now kept before after (files_asked files m s other_asks several runs) file steps stats bytes is_told asks held =
    absurd (not_files_run words file m steps files s stats other_asks asks)
image_runs made said marks words counts now kept before after (build_asked image files none other_asks writes nothing) file steps stats bytes is_told asks held =
    absurd (not_run words (request.Build image files) file steps stats other_asks asks (λ same. cc))
image_runs made said marks words counts now kept before after (compile_asked unit source none other_asks writes nothing) file steps stats bytes is_told asks held =
    absurd (not_run words (request.Compile unit source) file steps stats other_asks asks (λ same. cc))
image_runs made said marks words counts now kept before after (link_asked image units none other_asks writes nothing) file steps stats bytes is_told asks held =
    absurd (not_run words (request.Link image units) file steps stats other_asks asks (λ same. cc))
image_runs made said marks words counts now kept before after (meaning_asked files cost none other_asks unmarked means) file steps stats bytes is_told asks held =
    absurd (not_run words (request.Mean cost files) file steps stats other_asks asks (λ same. cc))
image_runs made said marks words counts now kept before after (report_asked files m lives other_asks reports) file steps stats bytes is_told asks held =
    absurd (not_run words (request.Report m files) file steps stats other_asks asks (λ same. cc))
image_runs made said marks words counts now kept before after (demo_refused count refusal none other_asks is why nothing) file steps stats bytes is_told asks held =
    absurd (not_run words (request.Demo count) file steps stats other_asks asks (λ same. cc))
image_runs made said marks words counts now kept before after (demo_ran count image ended between sound made_is other_asks unmarked left run closes unread) file steps stats bytes is_told asks held =
    absurd (not_run words (request.Demo count) file steps stats other_asks asks (λ same. cc))
image_runs made said marks words counts now kept before after (image_asked other m s none other_asks (image_unread (absent is why) nothing)) file steps stats bytes is_told asks held =
    let same = one_run words other file m steps s stats other_asks asks in
    absurd (not_missing counts.told file bytes is_told held (subst (λ (f : List ℕ). Holds counts.told f None) same.0 why.0))
image_runs made said marks words counts now kept before after (image_asked other m s none other_asks (image_unread (unreadable is why) nothing)) file steps stats bytes is_told asks held =
    let same = one_run words other file m steps s stats other_asks asks in
    inr (is ∙ ap FileFault same.0, why.0, nothing)
image_runs made said marks words counts now kept before after (image_asked other m s none other_asks (image_unread (unheld is) nothing)) file steps stats bytes is_told asks held =
    inl (memory_first (image_at bytes) steps stats said marks kept before after is nothing)
image_runs made said marks words counts now kept before after (image_asked other m s none other_asks (image_read found other_held runs)) file steps stats bytes is_told asks held =
    let same = one_run words other file m steps s stats other_asks asks in
    let held_here : Holds counts.told file (Some found) = subst (λ (f : List ℕ). Holds counts.told f (Some found)) same.0 other_held in
    let text = one_text counts.told file found bytes is_told held_here held in
    inl (subst (λ (b : List ℕ). RunsImage (image_at b) steps stats said marks kept before after) text
    (subst (λ (n : ℕ). RunsImage (image_at found) n stats said marks kept before after) same.1.0
    (subst (λ (t : Bool). RunsImage (image_at found) m t said marks kept before after) same.1.1 runs)))
