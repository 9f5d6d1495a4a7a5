-- A run of the demonstration, which touches no input.
use Rattle.std.proofs.Common.{◌≡◌, ◌≢◌, ℕ, List, Option, None, refl, ap}
use Rattle.fsc_base.specs.declared.image.Image.{Image}
use Rattle.fsc_outside.specs.Calls.{FileCounts}
use Rattle.fsc_outside.specs.FileMap.{FileMap}
use Rattle.rv_run.specs.ImageRun.{Streams}
use Rattle.command_line.specs.Requests.{Listed}
use Rattle.command_line.specs.declared.request.Request.TheVariants as request
use Rattle.fsc_ending.specs.declared.ending.Ending.{Ending}
use Rattle.fsc_ending.specs.declared.ending.Ending.TheVariants.{ReadFault}
use Rattle.fsc_commands.specs.Demonstrating.{RunsDemo, demo_refused as no_program, demo_ran as program_ran}
use Rattle.fsc_tool.specs.Performing.{Performed, demo_refused, demo_ran}

-- the input, which has this left, and an output
abbrev pub beside : (left written : Option (List ℕ)) → Streams
beside left written = record { left = left; written = written }

pub of_demo : (made : Option Image) (ending : Ending) (marks : Option ℕ) (words : List (List ℕ)) (counts : FileCounts) (now : Option FileMap) (kept own : Type 0) (count : ℕ)
    (left before after : Option (List ℕ)) → Listed words (request.Demo count) → marks ≡ None → ending ≢ ReadFault → (own → kept) → RunsDemo made ending count own before after
    → Performed made ending marks words counts now kept (beside left before) (beside left after)
of_demo made ending marks words counts now kept own count left before after listed unmarked unread keep (no_program refusal none is why same stays) =
    demo_refused count refusal none listed is why (unmarked, keep same, ap (beside left) stays)
of_demo made ending marks words counts now kept own count left before after listed unmarked unread keep (program_ran image said between sound is run closes) =
    demo_ran count image said between sound is listed unmarked refl run closes unread
