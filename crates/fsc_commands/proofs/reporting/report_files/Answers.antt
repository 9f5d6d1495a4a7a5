use Rattle.std.proofs.Common.{inl, inr, refl, ◌∙◌}
use Rattle.fsc_core.specs.declared.refusal.CoreNo.TheVariants as core
use Rattle.fsc_commands.specs.Refusing.{refused_so}
use Rattle.fsc_commands.specs.Reporting.{report_refused, report_ran}
use Rattle.fsc_commands.proofs.reporting.report_files.Goals as goal

pub returns-in-Ok-clause-ran : goal.returns-in-Ok-clause-ran
returns-in-Ok-clause-ran g c =
    elim c.report_made.ensures.ran [
      | inl (none, untold, memory, nothing) ↦ report_refused none untold (refused_so core.NoMemory memory tt) nothing
      | inr (is, ran) ↦ report_ran c.in-Ok.image c.in-Ok.ensures.sound is ran
    ]

pub returns-in-Err-clause-ran : goal.returns-in-Err-clause-ran
returns-in-Err-clause-ran g c =
    report_refused c.requires.none c.requires.untold
    (refused_so c.in-Err.refusal (c.without_run.ensures.ending ∙ c.ending_of_refusal.ensures) c.in-Err.ensures.refused) (c.without_run.ensures.marks, (refl, refl), refl)
