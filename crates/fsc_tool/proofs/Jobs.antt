-- What a file that is to be run answers: of a program its run, of any other text that it is refused.
use Rattle.std.proofs.Common.{◌≡◌, ℕ, zero, suc, ◌⊎◌, inl, inr, List, [], ◌∷◌, Option, Some, None, refl, sym, subst, ◌∙◌}
use Rattle.std.specs.Prelude.{IsSome}
use Rattle.fsc_base.specs.declared.image.Image.{Image}
use Rattle.fsc_base.specs.declared.place.Place.{Place}
use Rattle.fsc_base.specs.declared.rule.Rule.{Rule}
use Rattle.fsc_outside.specs.Calls.{FileCounts, Misses}
use Rattle.fsc_outside.specs.Counts.{Rose}
use Rattle.fsc_outside.specs.FileMap.{FileMap, Holds}
use Rattle.rv_run.specs.ImageRun.{ImageRun, Streams}
use Rattle.plain_text.specs.declared.program.Program.{Program}
use Rattle.plain_text.specs.Program.{IsPlain}
use Rattle.command_line.specs.declared.request.Request.TheVariants as request
use Rattle.fsc_ending.specs.declared.ending.Ending.{Ending}
use Rattle.fsc_ending.specs.declared.ending.Ending.TheVariants.{FileFault, WriteFault, NoteFault, Rejected, LinkRefused, NotBuilt, NoMemory}
use Rattle.fsc_ending.specs.declared.ending.Form.TheVariants.{Text}
use Rattle.fsc_ending.specs.Reporting.{IsUnless}
use Rattle.c_link.specs.declared.fault.LinkFault.{LinkFault}
use Rattle.fsc_core.specs.Refusing.{Among}
use Rattle.fsc_core.specs.declared.refusal.CoreNo.TheVariants as core
use Rattle.fsc_run.specs.Reading.{RefusesRead, absent, unreadable, unheld}
use Rattle.fsc_commands.specs.Refusing.{GivesProgram, IsNoProgram, RefusesNames, refused_so}
use Rattle.fsc_commands.specs.Going.{program_unmade, program_ran, files_refused, files_ran, file_unread, file_ran, file_built}
use Rattle.fsc_commands.proofs.Going.{Answers, exits, bound, cut, answers}
use Rattle.fsc_tool.specs.Words.{Asks}
use Rattle.fsc_tool.specs.Performing.{unusable, words_unheld, Performed, words_refused, file_asked, files_asked, image_asked, build_asked, compile_asked, link_asked, meaning_asked, report_asked, demo_refused, demo_ran}
use Rattle.fsc_tool.specs.Tool.{Job, IsAsked, IsEnd, IsRefusedText}
use Rattle.fsc_tool.proofs.Asking.{one_request, not_both, not_several, not_go, no_job, usable, one_text, not_missing}

-- ---- a job that is asked for comes to an end

job_read : (said : Ending) (file : List ℕ) (counts : FileCounts) → (Rose counts.faults_before counts.faults_after → ⊥) → (Misses counts → ⊥) → RefusesRead said file counts → IsEnd said
job_read said file counts no_fault no_absence (absent is why) = absurd (no_absence why.1)
job_read said file counts no_fault no_absence (unreadable is why) = absurd (no_fault why.0)
job_read said file counts no_fault no_absence (unheld is) = inr (inr is)

job_answered : (run : ImageRun) (steps : ℕ) (said : Ending) (before after : Option (List ℕ)) → (said ≡ WriteFault → ⊥) → Answers run steps said before after → IsEnd said
job_answered run steps said before after no_write (exits status is stopped whole) = inl (status, is)
job_answered run steps said before after no_write (bound is stopped whole) = inr (inl (steps, is))
job_answered run steps said before after no_write (cut (inl is) front) = absurd (no_write is)
job_answered run steps said before after no_write (cut (inr is) front) = inr (inr is)

job_ends : (made : Option Image) (said : Ending) (marks : Option ℕ) (words : List (List ℕ)) (counts : FileCounts) (now : Option FileMap) (kept : Type 0) (before after : Streams) (job : Job)
    → Performed made said marks words counts now kept before after → IsSome counts.told → IsAsked words counts.told job
    → (Rose counts.faults_before counts.faults_after → ⊥) → (Misses counts → ⊥) → (said ≡ WriteFault → ⊥) → IsEnd said
job_ends made said marks words counts now kept before after job (words_refused none (unusable is why) nothing stays) is_told asked no_fault no_absence no_write =
    absurd (why (usable words (request.Go job.steps asked.request.0 (job.file ∷ [])) asked.request.1))
job_ends made said marks words counts now kept before after job (words_refused none (words_unheld is) nothing stays) is_told asked no_fault no_absence no_write = inr (inr is)
job_ends made said marks words counts now kept before after job (file_asked file steps stats asks (file_unread none why nothing)) is_told asked no_fault no_absence no_write =
    job_read said file counts no_fault no_absence why
job_ends made said marks words counts now kept before after job (file_asked file steps stats asks (file_built found held nobody runs)) is_told asked no_fault no_absence no_write =
    absurd (no_job words counts.told file steps found (stats, asks) held nobody job is_told asked)
job_ends made said marks words counts now kept before after job (file_asked file steps stats asks (file_ran program gives (program_unmade none memory nothing))) is_told asked no_fault no_absence no_write =
    inr (inr memory)
job_ends made said marks words counts now kept before after job (file_asked file steps stats asks (file_ran program gives (program_ran image is writes run not_read left))) is_told asked no_fault no_absence no_write =
    job_answered _ steps said before.written after.written no_write (answers program image steps stats said marks before after writes run not_read)
job_ends made said marks words counts now kept before after job (files_asked files steps stats asks several runs) is_told asked no_fault no_absence no_write =
    absurd (not_several words job.file job.steps steps files stats asked.request asks several)
job_ends made said marks words counts now kept before after job (build_asked image files none other_asks writes nothing) is_told asked no_fault no_absence no_write =
    absurd (not_go words (request.Build image files) job.file job.steps other_asks asked.request (λ same. cc))
job_ends made said marks words counts now kept before after job (compile_asked unit source none other_asks writes nothing) is_told asked no_fault no_absence no_write =
    absurd (not_go words (request.Compile unit source) job.file job.steps other_asks asked.request (λ same. cc))
job_ends made said marks words counts now kept before after job (link_asked image units none other_asks writes nothing) is_told asked no_fault no_absence no_write =
    absurd (not_go words (request.Link image units) job.file job.steps other_asks asked.request (λ same. cc))
job_ends made said marks words counts now kept before after job (meaning_asked files cost none other_asks unmarked means) is_told asked no_fault no_absence no_write =
    absurd (not_go words (request.Mean cost files) job.file job.steps other_asks asked.request (λ same. cc))
job_ends made said marks words counts now kept before after job (report_asked files steps lives other_asks reports) is_told asked no_fault no_absence no_write =
    absurd (not_go words (request.Report steps files) job.file job.steps other_asks asked.request (λ same. cc))
job_ends made said marks words counts now kept before after job (demo_refused count refusal none other_asks is why nothing) is_told asked no_fault no_absence no_write =
    absurd (not_go words (request.Demo count) job.file job.steps other_asks asked.request (λ same. cc))
job_ends made said marks words counts now kept before after job (demo_ran count image ended between sound made_is other_asks unmarked left run closes unread) is_told asked no_fault no_absence no_write =
    absurd (not_go words (request.Demo count) job.file job.steps other_asks asked.request (λ same. cc))
job_ends made said marks words counts now kept before after job (image_asked file steps stats none asks runs) is_told asked no_fault no_absence no_write =
    absurd (not_both words job.file file job.steps steps stats asked.request asks)

reported_end : (said ending : Ending) → IsUnless said ending → (ending ≡ NoteFault → ⊥) → IsEnd said → IsEnd ending
reported_end said ending (inl same) no_fault h = subst IsEnd (sym same) h
reported_end said ending (inr (inl fault)) no_fault h = absurd (no_fault fault)
reported_end said ending (inr (inr memory)) no_fault h = inr (inr memory)

pub ends : (ending : Ending) (made : Option Image) (said : Ending) (marks : Option ℕ) (words : List (List ℕ)) (counts : FileCounts) (now : Option FileMap) (kept : Type 0) (before after : Streams) (job : Job)
    → Performed made said marks words counts now kept before after → IsUnless said ending → IsSome counts.told → IsAsked words counts.told job
    → (Rose counts.faults_before counts.faults_after → ⊥) → (Misses counts → ⊥) → (said ≡ WriteFault → ⊥) → (ending ≡ NoteFault → ⊥) → IsEnd ending
ends ending made said marks words counts now kept before after job performed report is_told asked no_fault no_absence no_write no_note =
    reported_end said ending report no_note (job_ends made said marks words counts now kept before after job performed is_told asked no_fault no_absence no_write)

-- ---- a text that is no program

-- what is said of such a text where nothing was made
abbrev Said : Ending → Type 0
Said said =
    (said ≡ NotBuilt Text)
    ⊎ (((name : List ℕ) × (said ≡ FileFault name))
    ⊎ ((said ≡ NoMemory) ⊎ (((rule : Rule) × (place : Place) × (name : List ℕ) × (said ≡ Rejected rule place name)) ⊎ ((fault : LinkFault) × (said ≡ LinkRefused fault)))))

-- it was refused, or an image was made
abbrev SaidOrMade : Ending → Option Image → Type 0
SaidOrMade said made = Said said ⊎ IsSome made

read_said : (said : Ending) (file text : List ℕ) (counts : FileCounts) → IsSome counts.told → Holds counts.told file (Some text) → RefusesRead said file counts → Said said
read_said said file text counts is_told held (absent is why) = absurd (not_missing counts.told file text is_told held why.0)
read_said said file text counts is_told held (unreadable is why) = inr (inl (file, is))
read_said said file text counts is_told held (unheld is) = inr (inr (inl is))

-- of one name
only_name : (name file : List ℕ) → Among name (file ∷ []) → name ≡ file
only_name name file (zero, is) = cc
only_name name file (suc n, is) = absurd cc

names_said : (said : Ending) (file text : List ℕ) (counts : FileCounts) → IsSome counts.told → Holds counts.told file (Some text) → RefusesNames said (file ∷ []) counts → Said said
names_said said file text counts is_told held (refused_so (core.Broken broken name) is why) = inr (inr (inr (inl (broken.rule, broken.place, name, is))))
names_said said file text counts is_told held (refused_so (core.Missing name) is why) =
    absurd (not_missing counts.told file text is_told held (subst (λ (f : List ℕ). Holds counts.told f None) (only_name name file why.0) why.2))
names_said said file text counts is_told held (refused_so (core.FileFault name) is why) = inr (inl (name, is))
names_said said file text counts is_told held (refused_so (core.Link fault) is why) = inr (inr (inr (inr (fault, is))))
names_said said file text counts is_told held (refused_so core.Misfit is why) = inl is
names_said said file text counts is_told held (refused_so core.NoMemory is why) = inr (inr (inl is))

no_other : (file other text : List ℕ) (counts : FileCounts) (program : Program) → IsSome counts.told → other ≡ file → Holds counts.told file (Some text) → IsNoProgram text
    → GivesProgram program other counts.told → ⊥
no_other file other text counts program is_told same held none gives =
    let held_here : Holds counts.told file (Some gives.0) = subst (λ (f : List ℕ). Holds counts.told f (Some gives.0)) same gives.1 in
    none program (subst (λ (t : List ℕ). IsPlain t program) (one_text counts.told file gives.0 text is_told held_here held) gives.2)

text_said : (made : Option Image) (said : Ending) (marks : Option ℕ) (words : List (List ℕ)) (counts : FileCounts) (now : Option FileMap) (kept : Type 0) (before after : Streams) (file : List ℕ) (steps : ℕ) (text : List ℕ)
    → Performed made said marks words counts now kept before after → IsSome counts.told → Asks words file steps → Holds counts.told file (Some text) → IsNoProgram text → SaidOrMade said made
text_said made said marks words counts now kept before after file steps text (words_refused none (unusable is why) nothing stays) is_told asks held nobody =
    absurd (why (usable words (request.Go steps asks.0 (file ∷ [])) asks.1))
text_said made said marks words counts now kept before after file steps text (words_refused none (words_unheld is) nothing stays) is_told asks held nobody = inl (inr (inr (inl is)))
text_said made said marks words counts now kept before after file steps text (file_asked other m s other_asks (file_unread none why nothing)) is_told asks held nobody =
    let same = one_request words other file m steps (s, other_asks) asks in
    inl (read_said said other text counts is_told (subst (λ (f : List ℕ). Holds counts.told f (Some text)) (sym same.0) held) why)
text_said made said marks words counts now kept before after file steps text (file_asked other m s other_asks (file_built found other_held none (files_refused unmade why nothing))) is_told asks held nobody =
    let same = one_request words other file m steps (s, other_asks) asks in
    inl (names_said said other text counts is_told (subst (λ (f : List ℕ). Holds counts.told f (Some text)) (sym same.0) held) why)
text_said made said marks words counts now kept before after file steps text (file_asked other m s other_asks (file_built found other_held none (files_ran image sound is ran))) is_told asks held nobody =
    inr (subst IsSome (sym is) refl)
text_said made said marks words counts now kept before after file steps text (file_asked other m s other_asks (file_ran program gives runs)) is_told asks held nobody =
    let same = one_request words other file m steps (s, other_asks) asks in
    absurd (no_other file other text counts program is_told same.0 held nobody gives)
text_said made said marks words counts now kept before after file steps text (files_asked files m s other_asks several runs) is_told asks held nobody =
    absurd (not_several words file steps m files s asks other_asks several)
text_said made said marks words counts now kept before after file steps text (build_asked image files none other_asks writes nothing) is_told asks held nobody =
    absurd (not_go words (request.Build image files) file steps other_asks asks (λ same. cc))
text_said made said marks words counts now kept before after file steps text (compile_asked unit source none other_asks writes nothing) is_told asks held nobody =
    absurd (not_go words (request.Compile unit source) file steps other_asks asks (λ same. cc))
text_said made said marks words counts now kept before after file steps text (link_asked image units none other_asks writes nothing) is_told asks held nobody =
    absurd (not_go words (request.Link image units) file steps other_asks asks (λ same. cc))
text_said made said marks words counts now kept before after file steps text (meaning_asked files cost none other_asks unmarked means) is_told asks held nobody =
    absurd (not_go words (request.Mean cost files) file steps other_asks asks (λ same. cc))
text_said made said marks words counts now kept before after file steps text (report_asked files m lives other_asks reports) is_told asks held nobody =
    absurd (not_go words (request.Report m files) file steps other_asks asks (λ same. cc))
text_said made said marks words counts now kept before after file steps text (demo_refused count refusal none other_asks is why nothing) is_told asks held nobody =
    absurd (not_go words (request.Demo count) file steps other_asks asks (λ same. cc))
text_said made said marks words counts now kept before after file steps text (demo_ran count image ended between sound made_is other_asks unmarked left run closes unread) is_told asks held nobody =
    absurd (not_go words (request.Demo count) file steps other_asks asks (λ same. cc))
text_said made said marks words counts now kept before after file steps text (image_asked other m s none other_asks runs) is_told asks held nobody =
    absurd (not_both words file other steps m s asks other_asks)

said_then : (said ending : Ending) → ending ≡ said → Said said → IsRefusedText ending
said_then said ending same (inl is) = inl (inl (inl (same ∙ is)))
said_then said ending same (inr (inl (name, is))) = inl (inr (name, same ∙ is))
said_then said ending same (inr (inr (inl is))) = inl (inl (inr (inr (same ∙ is))))
said_then said ending same (inr (inr (inr (inl (rule, place, name, is))))) = inr (inl (rule, place, name, same ∙ is))
said_then said ending same (inr (inr (inr (inr (fault, is))))) = inr (inr (fault, same ∙ is))

reported_then : (said ending : Ending) → IsUnless said ending → Said said → IsRefusedText ending
reported_then said ending (inl same) h = said_then said ending same h
reported_then said ending (inr (inl fault)) h = inl (inl (inr (inl fault)))
reported_then said ending (inr (inr memory)) h = inl (inl (inr (inr memory)))

text_then : (said ending : Ending) (made : Option Image) → IsUnless said ending → SaidOrMade said made → IsRefusedText ending ⊎ IsSome made
text_then said ending made report (inl h) = inl (reported_then said ending report h)
text_then said ending made report (inr some) = inr some

pub text : (ending : Ending) (made : Option Image) (said : Ending) (marks : Option ℕ) (words : List (List ℕ)) (counts : FileCounts) (now : Option FileMap) (kept : Type 0) (before after : Streams)
    → Performed made said marks words counts now kept before after → IsUnless said ending
    → (file : List ℕ) (steps : ℕ) (bytes : List ℕ) → IsSome counts.told → Asks words file steps → Holds counts.told file (Some bytes) → IsNoProgram bytes → IsRefusedText ending ⊎ IsSome made
text ending made said marks words counts now kept before after performed report file steps bytes is_told asks held nobody =
    text_then said ending made report (text_said made said marks words counts now kept before after file steps bytes performed is_told asks held nobody)
