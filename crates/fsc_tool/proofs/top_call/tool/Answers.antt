use Rattle.std.proofs.Common.{inl, inr}
use Rattle.fsc_tool.proofs.Causes.{usage_only, usage, command, bad_unit_only, text_only, rejected, link_refused, cost_used, bad_image, missing, file_fault}
use Rattle.fsc_tool.proofs.Files.{unchanged, built, linked, compiled}
use Rattle.fsc_tool.proofs.Jobs.{ends, text}
use Rattle.fsc_tool.proofs.Performing.{is_run, image_runs}
use Rattle.fsc_tool.proofs.Promises.{prefix, exited, steps_used}
use Rattle.fsc_tool.proofs.Reporting.{unless, no_lives}
use Rattle.fsc_tool.proofs.Telling.{untold}
use Rattle.fsc_tool.proofs.top_call.tool.Goals as goal

pub returns-clause-run : goal.returns-clause-run
returns-clause-run g c = (_, _, _, c.report.ensures.reported, is_run _ _ _ _ _ _ _ _ _ c.perform-done.ensures.performed, c.perform-done.ensures.told)

pub returns-clause-image : goal.returns-clause-image
returns-clause-image g c = λ file steps stats bytes is_told asks held.
    (_, _, no_lives _ _ _ _ _ _ (untold _ _ _ _ _ _ _ file steps stats c.perform-done.ensures.told asks) c.report.ensures.reported, image_runs _ _ _ _ _ _ _ _ _ c.perform-done.ensures.performed file steps stats bytes is_told asks held)

pub returns-clause-prefix : goal.returns-clause-prefix
returns-clause-prefix g c = prefix _ _ _ _ _ _ _ _ (is_run _ _ _ _ _ _ _ _ _ c.perform-done.ensures.performed)

pub returns-clause-ends : goal.returns-clause-ends
returns-clause-ends g c = λ job is_told asked no_fault no_absence no_write no_note.
    ends _ _ _ _ _ _ _ _ _ _ job c.perform-done.ensures.performed (unless _ _ _ _ _ _ c.report.ensures.reported) is_told asked no_fault no_absence
    (λ is. no_write (c.perform-done.ensures.write_failed is))
    (λ is. elim (c.report.ensures.failed is) [ inl unnoted ↦ c.perform-done.ensures.unnoted unnoted | inr rose ↦ no_note rose ])

pub returns-clause-exited : goal.returns-clause-exited
returns-clause-exited g c = exited _ _ _ _ _ _ _ _ _ (unless _ _ _ _ _ _ c.report.ensures.reported) (is_run _ _ _ _ _ _ _ _ _ c.perform-done.ensures.performed)

pub returns-clause-steps_used : goal.returns-clause-steps_used
returns-clause-steps_used g c = steps_used _ _ _ _ _ _ _ _ _ (unless _ _ _ _ _ _ c.report.ensures.reported) (is_run _ _ _ _ _ _ _ _ _ c.perform-done.ensures.performed)

pub returns-clause-cost_used : goal.returns-clause-cost_used
returns-clause-cost_used g c = cost_used _ _ _ _ _ _ _ _ _ (is_run _ _ _ _ _ _ _ _ _ c.perform-done.ensures.performed) (unless _ _ _ _ _ _ c.report.ensures.reported)

pub returns-clause-bad_image : goal.returns-clause-bad_image
returns-clause-bad_image g c = bad_image _ _ _ _ _ _ _ _ _ (is_run _ _ _ _ _ _ _ _ _ c.perform-done.ensures.performed) (unless _ _ _ _ _ _ c.report.ensures.reported)

pub returns-clause-usage_only : goal.returns-clause-usage_only
returns-clause-usage_only g c = usage_only _ _ _ _ _ _ _ _ _ _ c.perform-done.ensures.performed (unless _ _ _ _ _ _ c.report.ensures.reported)

pub returns-clause-usage : goal.returns-clause-usage
returns-clause-usage g c = usage _ _ _ _ _ _ _ _ _ _ c.perform-done.ensures.performed (unless _ _ _ _ _ _ c.report.ensures.reported)

pub returns-clause-built_commands : goal.returns-clause-built_commands
returns-clause-built_commands g c = command _ _ _ _ _ _ _ _ _ _ c.perform-done.ensures.performed (unless _ _ _ _ _ _ c.report.ensures.reported)

pub returns-clause-bad_unit : goal.returns-clause-bad_unit
returns-clause-bad_unit g c = bad_unit_only _ _ _ _ _ _ _ _ _ _ c.perform-done.ensures.performed (unless _ _ _ _ _ _ c.report.ensures.reported)

pub returns-clause-text_only : goal.returns-clause-text_only
returns-clause-text_only g c = text_only _ _ _ _ _ _ _ _ _ _ c.perform-done.ensures.performed (unless _ _ _ _ _ _ c.report.ensures.reported)

pub returns-clause-text : goal.returns-clause-text
returns-clause-text g c = text _ _ _ _ _ _ _ _ _ _ c.perform-done.ensures.performed (unless _ _ _ _ _ _ c.report.ensures.reported)

pub returns-clause-rejected : goal.returns-clause-rejected
returns-clause-rejected g c = rejected _ _ _ _ _ _ _ _ _ _ c.perform-done.ensures.performed (unless _ _ _ _ _ _ c.report.ensures.reported)

pub returns-clause-link_refused : goal.returns-clause-link_refused
returns-clause-link_refused g c = link_refused _ _ _ _ _ _ _ _ _ _ c.perform-done.ensures.performed (unless _ _ _ _ _ _ c.report.ensures.reported)

pub returns-clause-missing : goal.returns-clause-missing
returns-clause-missing g c = missing _ _ _ _ _ _ _ _ _ _ c.perform-done.ensures.performed (unless _ _ _ _ _ _ c.report.ensures.reported)

pub returns-clause-file_fault : goal.returns-clause-file_fault
returns-clause-file_fault g c = file_fault _ _ _ _ _ _ _ _ _ _ c.perform-done.ensures.performed (unless _ _ _ _ _ _ c.report.ensures.reported)

pub returns-clause-built : goal.returns-clause-built
returns-clause-built g c = built _ _ _ _ _ _ _ _ _ _ c.perform-done.ensures.performed (unless _ _ _ _ _ _ c.report.ensures.reported)

pub returns-clause-linked : goal.returns-clause-linked
returns-clause-linked g c = linked _ _ _ _ _ _ _ _ _ _ c.perform-done.ensures.performed (unless _ _ _ _ _ _ c.report.ensures.reported)

pub returns-clause-compiled : goal.returns-clause-compiled
returns-clause-compiled g c = compiled _ _ _ _ _ _ _ _ _ _ c.perform-done.ensures.performed (unless _ _ _ _ _ _ c.report.ensures.reported)

pub returns-clause-unchanged : goal.returns-clause-unchanged
returns-clause-unchanged g c = unchanged _ _ _ _ _ _ _ _ _ _ c.perform-done.ensures.performed (unless _ _ _ _ _ _ c.report.ensures.reported) c.perform-done.ensures.kept
