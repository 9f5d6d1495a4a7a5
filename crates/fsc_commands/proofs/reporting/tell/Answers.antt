use Rattle.std.proofs.Common.{◌≡◌, true}
use Rattle.fsc_commands.specs.Reporting.{is_own_end}
use Rattle.fsc_commands.proofs.Reports.{tells_found}
use Rattle.fsc_commands.proofs.reporting.tell.Goals as goal

pub returns-in-Ok-clause-tells : goal.returns-in-Ok-clause-tells
returns-in-Ok-clause-tells c =
    let own : is_own_end c.args.said ≡ true = search in
    tells_found c.args.machine.now c.args.at c.args.said c.in-Ok.found own c.in-Ok.ensures
