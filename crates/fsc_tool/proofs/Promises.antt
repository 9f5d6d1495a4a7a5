-- What the run of an image that is a job's says of every job that is asked for.
use Rattle.std.proofs.Common.{◌≡◌, ◌≢◌, ℕ, ◌+◌, ◌*◌, ◌<◌, ◌≤◌, ◌⊎◌, inl, inr, List, [], ◌∷◌, length, take, Option, refl, sym, ap, subst, ◌∙◌, arith}
use Rattle.std.specs.Prelude.{IsSome}
use Rattle.std.proofs.lemmas.Bool.{cases_lt}
use Rattle.std.proofs.lemmas.List.{take-take, length-take}
use Rattle.fsc_base.specs.declared.image.Image.{Image}
use Rattle.fsc_outside.specs.FileMap.{FileMap}
use Rattle.fsc_outside.specs.Streams.{Appends, AppendsFront}
use Rattle.fsc_outside.proofs.Appending.{appends_nothing, appends_front_whole}
use Rattle.rv_run.specs.declared.stop.Stop.TheVariants as stop
use Rattle.rv_run.specs.ImageRun.{ImageRun, Streams, image_run, given_of}
use Rattle.rv_run.specs.Machine.{start_of}
use Rattle.plain_text.specs.declared.program.Program.{Program}
use Rattle.command_line.specs.Requests.{Listed}
use Rattle.command_line.specs.declared.request.Request.TheVariants as request
use Rattle.fsc_ending.specs.declared.ending.Ending.{Ending}
use Rattle.fsc_ending.specs.declared.ending.Ending.TheVariants.{Exited, StepsUsed}
use Rattle.fsc_ending.specs.Reporting.{IsUnless}
use Rattle.fsc_ending.specs.Sort.{ran, refused, sort_of, IsOfSort}
use Rattle.fsc_commands.proofs.Going.{Answers, exits, bound, cut, answers}
use Rattle.fsc_tool.specs.Words.{AsksReport, NamesToWrite}
use Rattle.fsc_tool.specs.Tool.{Job, IsAsked, IsImageRun, IsRunOf, none_ran, image_ran, job_ran, files_ran, file_written, report_ran, meaning_followed, demo_ran, AppendsAtLeast}
use Rattle.fsc_tool.proofs.Asking.{one_job, not_both, writes_none, not_go}
use Rattle.fsc_tool.proofs.Reporting.{is_said}

-- ---- lists

-- a front of a front
front_of_front : (before after : Option (List ℕ)) (written bytes : List ℕ) → written ≡ take (length written) bytes
    → AppendsFront before after written → AppendsFront before after bytes
front_of_front before after written bytes is front =
    let n = front.0 in
    let short : length written ≤ length bytes = omega (arith, ap length is, length-take (length written) bytes) in
    let same : take n written ≡ take n bytes = ap (take n) is ∙ take-take n (length written) bytes front.1 in
    (n, omega (arith, front.1), subst (Appends before after) same front.2)

-- a whole front is so many bytes
at_least : (j : ℕ) (before after : Option (List ℕ)) (written bytes : List ℕ) → written ≡ take (length written) bytes → j ≤ length written
    → Appends before after written → AppendsAtLeast j before after bytes
at_least j before after written bytes is enough whole =
    (length written, enough, omega (arith, ap length is, length-take (length written) bytes), subst (Appends before after) is whole)

-- ---- one program

exit_is : (run : ImageRun) (bytes : List ℕ) (status said : ℕ) → (run.stop ≡ stop.Steps) ⊎ ((run.stop ≡ stop.Exit status) × (run.written ≡ bytes))
    → run.stop ≡ stop.Exit said → (said ≡ status) × (run.written ≡ bytes)
exit_is run bytes status said (inl steps) exit = absurd cc
exit_is run bytes status said (inr (exited, whole)) exit = (cc, whole)

not_in_time : (run : ImageRun) (size n : ℕ) → (64 * (size + 2) ≤ n → run.stop ≢ stop.Steps) → run.stop ≡ stop.Steps → n < 64 * (size + 2)
not_in_time run size n in_time steps =
    elim (cases_lt n (64 * (size + 2))) [
      | inl below ↦ below
      | inr above ↦ absurd (in_time above steps)
    ]

-- nothing is a front of all bytes
nothing_is_front : (before after : Streams) (bytes : List ℕ) → after ≡ before → AppendsFront before.written after.written bytes
nothing_is_front before after bytes same = rw same (0, omega arith, appends_nothing before.written)

no_image_run : (said : Ending) (marks : Option ℕ) (words : List (List ℕ)) (told : Option FileMap) (kept : Type 0) (before after : Streams) (job : Job)
    → IsAsked words told job → IsImageRun said marks words told kept before after → ⊥
no_image_run said marks words told kept before after job asked run = not_both words job.file run.file job.steps run.steps run.stats asked.request run.request

-- words that ask for a job ask for no file to be written, for no meaning, no report and no demonstration
no_file : (words : List (List ℕ)) (told : Option FileMap) (job : Job) (name : List ℕ) → IsAsked words told job → NamesToWrite words name → ⊥
no_file words told job name asked names =
    writes_none words name (request.Go job.steps asked.request.0 (job.file ∷ [])) asked.request.1 refl names

no_meaning : (words files : List (List ℕ)) (told : Option FileMap) (job : Job) (cost : ℕ) → IsAsked words told job → Listed words (request.Mean cost files) → ⊥
no_meaning words files told job cost asked asks = not_go words (request.Mean cost files) job.file job.steps asks asked.request (λ same. cc)

no_report : (words files : List (List ℕ)) (told : Option FileMap) (job : Job) (steps : ℕ) → IsAsked words told job → AsksReport words files steps → ⊥
no_report words files told job steps asked asks = not_go words (request.Report steps files) job.file job.steps asks asked.request (λ same. cc)

no_demo : (words : List (List ℕ)) (told : Option FileMap) (job : Job) (count : ℕ) → IsAsked words told job → Listed words (request.Demo count) → ⊥
no_demo words told job count asked asks = not_go words (request.Demo count) job.file job.steps asks asked.request (λ same. cc)

-- the ending of a run is no refusal
pub not_refused : (said wanted : Ending) → IsOfSort refused said → said ≡ wanted → sort_of wanted ≡ ran → ⊥
not_refused said wanted (inl is) same run = let s : sort_of said ≡ ran = ap sort_of same ∙ run in cc
not_refused said wanted (inr is) same run = let s : sort_of said ≡ ran = ap sort_of same ∙ run in let m = ap sort_of is in cc

-- what was written is at least a front of what the run writes
front_written : (run : ImageRun) (steps : ℕ) (said : Ending) (before after : Option (List ℕ)) → Answers run steps said before after → AppendsFront before after run.written
front_written run steps said before after (exits status is stopped whole) = appends_front_whole before after run.written whole
front_written run steps said before after (bound is stopped whole) = appends_front_whole before after run.written whole
front_written run steps said before after (cut is front) = front

pub prefix : (made : Option Image) (said : Ending) (marks : Option ℕ) (words : List (List ℕ)) (told : Option FileMap) (kept : Type 0) (before after : Streams)
    → IsRunOf made said marks words told kept before after → (job : Job) → IsSome told → IsAsked words told job → AppendsFront before.written after.written job.program.bytes
prefix made said marks words told kept before after (none_ran none refusal nothing) job is_told asked = nothing_is_front before after job.program.bytes nothing.2
prefix made said marks words told kept before after (image_ran none run) job is_told asked = absurd (no_image_run said marks words told kept before after job asked run)
prefix made said marks words told kept before after (files_ran image is run) job is_told asked = absurd (run.apart job is_told asked)
prefix made said marks words told kept before after (file_written none is name names nothing) job is_told asked = absurd (no_file words told job name asked names)
prefix made said marks words told kept before after (meaning_followed none files cost asks unmarked meant) job is_told asked =
    absurd (no_meaning words files told job cost asked asks)
prefix made said marks words told kept before after (report_ran image sound is files steps lives asks run) job is_told asked =
    absurd (no_report words files told job steps asked asks)
prefix made said marks words told kept before after (demo_ran image sound is count ended between asks unmarked left run closes unread) job is_told asked =
    absurd (no_demo words told job count asked asks)
prefix made said marks words told kept before after (job_ran image is other other_asked writes run not_read left) job is_told asked =
    let same = one_job words told other job is_told other_asked asked in
    let given = given_of before.left in
    let whole = image_run other.steps (start_of image) given in
    let answer = answers other.program image other.steps other_asked.request.0 said marks before after writes run not_read in
    let front = front_of_front before.written after.written whole.written other.program.bytes (writes other.steps given).front (front_written whole other.steps said before.written after.written answer) in
    subst (λ (p : Program). AppendsFront before.written after.written p.bytes) same.0 front

exited_by : (run : ImageRun) (steps : ℕ) (said : Ending) (status : ℕ) (before after : Option (List ℕ)) → Answers run steps said before after → said ≡ Exited status
    → (run.stop ≡ stop.Exit status) × Appends before after run.written
exited_by run steps said status before after (exits other is stopped whole) same = let e : Exited other ≡ Exited status = sym is ∙ same in (cc, whole)
exited_by run steps said status before after (bound is stopped whole) same = absurd cc
exited_by run steps said status before after (cut (inl is) front) same = absurd cc
exited_by run steps said status before after (cut (inr is) front) same = absurd cc

pub exited : (ending : Ending) (made : Option Image) (said : Ending) (marks : Option ℕ) (words : List (List ℕ)) (told : Option FileMap) (kept : Type 0) (before after : Streams) → IsUnless said ending
    → IsRunOf made said marks words told kept before after → (job : Job) (status : ℕ) → IsSome told → IsAsked words told job → ending ≡ Exited status
    → (status ≡ job.program.status) × Appends before.written after.written job.program.bytes
exited ending made said marks words told kept before after report (none_ran none refusal nothing) job status is_told asked is =
    absurd (not_refused said (Exited status) refusal (is_said said ending (Exited status) report is (λ e. cc) (λ e. cc)) refl)
exited ending made said marks words told kept before after report (image_ran none run) job status is_told asked is =
    absurd (no_image_run said marks words told kept before after job asked run)
exited ending made said marks words told kept before after report (files_ran image made_is run) job status is_told asked is = absurd (run.apart job is_told asked)
exited ending made said marks words told kept before after report (file_written none done name names nothing) job status is_told asked is =
    absurd (no_file words told job name asked names)
exited ending made said marks words told kept before after report (meaning_followed none files cost asks unmarked meant) job status is_told asked is =
    absurd (no_meaning words files told job cost asked asks)
exited ending made said marks words told kept before after report (report_ran image sound made_is files steps lives asks run) job status is_told asked is =
    absurd (no_report words files told job steps asked asks)
exited ending made said marks words told kept before after report (demo_ran image sound made_is count ended between asks unmarked left run closes unread) job status is_told asked is =
    absurd (no_demo words told job count asked asks)
exited ending made said marks words told kept before after report (job_ran image made_is other other_asked writes run not_read left) job status is_told asked is =
    let same = one_job words told other job is_told other_asked asked in
    let given = given_of before.left in
    let whole = image_run other.steps (start_of image) given in
    let answer = answers other.program image other.steps other_asked.request.0 said marks before after writes run not_read in
    let by = exited_by whole other.steps said status before.written after.written answer (is_said said ending (Exited status) report is (λ e. cc) (λ e. cc)) in
    let exit = exit_is whole other.program.bytes other.program.status status (writes other.steps given).ends by.0 in
    let all : Appends before.written after.written other.program.bytes = subst (Appends before.written after.written) exit.1 by.1 in
    subst (λ (p : Program). (status ≡ p.status) × Appends before.written after.written p.bytes) same.0 (exit.0, all)

bound_by : (run : ImageRun) (steps : ℕ) (said : Ending) (n : ℕ) (before after : Option (List ℕ)) → Answers run steps said before after → said ≡ StepsUsed n
    → (run.stop ≡ stop.Steps) × (n ≡ steps) × Appends before after run.written
bound_by run steps said n before after (exits other is stopped whole) same = absurd cc
bound_by run steps said n before after (bound is stopped whole) same = let e : StepsUsed steps ≡ StepsUsed n = sym is ∙ same in (stopped, cc, whole)
bound_by run steps said n before after (cut (inl is) front) same = absurd cc
bound_by run steps said n before after (cut (inr is) front) same = absurd cc

pub steps_used : (ending : Ending) (made : Option Image) (said : Ending) (marks : Option ℕ) (words : List (List ℕ)) (told : Option FileMap) (kept : Type 0) (before after : Streams) → IsUnless said ending
    → IsRunOf made said marks words told kept before after → (job : Job) (n : ℕ) → IsSome told → IsAsked words told job → ending ≡ StepsUsed n
    → (n ≡ job.steps) × (n < 64 * (length job.program.bytes + 2)) ×
    ((j : ℕ) → j ≤ length job.program.bytes → 64 * (j + 1) ≤ n → AppendsAtLeast j before.written after.written job.program.bytes)
steps_used ending made said marks words told kept before after report (none_ran none refusal nothing) job n is_told asked is =
    absurd (not_refused said (StepsUsed n) refusal (is_said said ending (StepsUsed n) report is (λ e. cc) (λ e. cc)) refl)
steps_used ending made said marks words told kept before after report (image_ran none run) job n is_told asked is =
    absurd (no_image_run said marks words told kept before after job asked run)
steps_used ending made said marks words told kept before after report (files_ran image made_is run) job n is_told asked is = absurd (run.apart job is_told asked)
steps_used ending made said marks words told kept before after report (file_written none done name names nothing) job n is_told asked is =
    absurd (no_file words told job name asked names)
steps_used ending made said marks words told kept before after report (meaning_followed none files cost asks unmarked meant) job n is_told asked is =
    absurd (no_meaning words files told job cost asked asks)
steps_used ending made said marks words told kept before after report (report_ran image sound made_is files steps lives asks run) job n is_told asked is =
    absurd (no_report words files told job steps asked asks)
steps_used ending made said marks words told kept before after report (demo_ran image sound made_is count ended between asks unmarked left run closes unread) job n is_told asked is =
    absurd (no_demo words told job count asked asks)
steps_used ending made said marks words told kept before after report (job_ran image made_is other other_asked writes run not_read left) job n is_told asked is =
    let same = one_job words told other job is_told other_asked asked in
    let given = given_of before.left in
    let whole = image_run other.steps (start_of image) given in
    let answer = answers other.program image other.steps other_asked.request.0 said marks before after writes run not_read in
    let by = bound_by whole other.steps said n before.written after.written answer (is_said said ending (StepsUsed n) report is (λ e. cc) (λ e. cc)) in
    let all = writes other.steps given in
    let late : n < 64 * (length other.program.bytes + 2) = rw by.1 (not_in_time whole (length other.program.bytes) other.steps all.in_time by.0) in
    let keeps : (j : ℕ) → j ≤ length other.program.bytes → 64 * (j + 1) ≤ n → AppendsAtLeast j before.written after.written other.program.bytes = λ j within time.
    at_least j before.written after.written whole.written other.program.bytes all.front (all.keeps_up j within (rw by.1 at time)) by.2 in (
      by.1 ∙ same.1,
      subst (λ (p : Program). n < 64 * (length p.bytes + 2)) same.0 late,
      subst (λ (p : Program). (j : ℕ) → j ≤ length p.bytes → 64 * (j + 1) ≤ n → AppendsAtLeast j before.written after.written p.bytes) same.0 keeps,
    )
