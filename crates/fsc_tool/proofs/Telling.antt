-- Which objects are told.
use Rattle.std.proofs.Common.{◌≡◌, ℕ, List, Bool, true, false, Option, None, refl, ap, sym, ◌∙◌}
use Rattle.fsc_base.specs.declared.image.Image.{Image}
use Rattle.rv_run.specs.ImageRun.{Streams}
use Rattle.block_report.specs.declared.live.Live.{Live}
use Rattle.command_line.specs.Requests.{Listed}
use Rattle.command_line.specs.declared.request.Request.{Request}
use Rattle.command_line.specs.declared.request.Request.TheVariants as request
use Rattle.fsc_outside.specs.Calls.{FileCounts}
use Rattle.fsc_ending.specs.declared.ending.Ending.{Ending}
use Rattle.fsc_commands.specs.Reporting.{ReportsFiles, report_refused, report_ran}
use Rattle.fsc_tool.specs.Words.{AsksReport, AsksRun}
use Rattle.fsc_tool.specs.Tool.{IsTold, none_told, run_told}
use Rattle.fsc_tool.proofs.Asking.{same_request, not_run}

abbrev pub is_report : Request → Bool
is_report (request.Build image files) = false
is_report (request.Compile unit file) = false
is_report (request.Link image units) = false
is_report (request.Run steps stats image) = false
is_report (request.Go steps stats files) = false
is_report (request.Mean cost files) = false
is_report (request.Report steps files) = true
is_report (request.Demo count) = false

-- words that ask for something else ask for no report
no_report : (words : List (List ℕ)) (asked : Request) (files : List (List ℕ)) (steps : ℕ) → Listed words asked → is_report asked ≡ false → AsksReport words files steps → ⊥
no_report words asked files steps listed other asks =
    let same : asked ≡ request.Report steps files = same_request words asked (request.Report steps files) listed asks in
    let e : false ≡ true = sym other ∙ ap is_report same in
    cc

-- and none are told
pub told_other : (made : Option Image) (ending : Ending) (marks : Option ℕ) (words : List (List ℕ)) (before after : Streams) (asked : Request) → Listed words asked → is_report asked ≡ false
    → IsTold made ending marks None words before after
told_other made ending marks words before after asked listed other =
    none_told refl (λ files steps asks. absurd (no_report words asked files steps listed other asks))

-- nor where nothing was made
pub told_unmade : (made : Option Image) (ending : Ending) (marks : Option ℕ) (words : List (List ℕ)) (before after : Streams) → made ≡ None → IsTold made ending marks None words before after
told_unmade made ending marks words before after none = none_told refl (λ files steps asks. none)

-- those of a report
pub told_report : (made : Option Image) (ending : Ending) (marks : Option ℕ) (lives : Option (List Live)) (words files : List (List ℕ)) (steps : ℕ) (counts : FileCounts) (kept : Type 0)
    (before after : Streams) → AsksReport words files steps → ReportsFiles made ending marks lives files steps counts kept before after → IsTold made ending marks lives words before after
told_report made ending marks lives words files steps counts kept before after asks (report_refused none no_lives why nothing) = none_told no_lives (λ other m other_asks. none)
told_report made ending marks lives words files steps counts kept before after asks (report_ran image sound is run) = run_told files steps asks image is run

-- words of a run ask for no report
pub untold : (made : Option Image) (said : Ending) (marks : Option ℕ) (lives : Option (List Live)) (words : List (List ℕ)) (before after : Streams) (file : List ℕ) (steps : ℕ) (stats : Bool)
    → IsTold made said marks lives words before after → AsksRun words file steps stats → lives ≡ None
untold made said marks lives words before after file steps stats (none_told none unmade) asks = none
untold made said marks lives words before after file steps stats (run_told files m other_asks image is run) asks =
    absurd (not_run words (request.Report m files) file steps stats other_asks asks (λ same. cc))
