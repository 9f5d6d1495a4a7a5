use Rattle.std.proofs.Common.{inr, refl}
use Rattle.fsc_commands.proofs.Reports.{run_is_told}
use Rattle.fsc_commands.proofs.reporting.report_made.Goals as goal

pub returns-clause-ran : goal.returns-clause-ran
returns-clause-ran g c =
    inr (
      refl,
      run_is_told c.args.image _ c.run_on-said.new.machine c.args.steps c.second_address-at.result c.run_on-said.result _ _ _ _ _ c.in-Ok.ensures c.second_address-at.ensures refl
          c.run_on-said.ensures.came c.tell.ensures.tells,
    )
