use Rattle.std.proofs.Common.{◌≡◌, Some}
use Rattle.fsc_commands.specs.Demonstrating.{exit_of}
use Rattle.fsc_commands.proofs.Demonstrations.{closes_exit}
use Rattle.fsc_commands.proofs.closing.close.Goals as goal

pub returns-in-Some-clause-closes : goal.returns-in-Some-clause-closes
returns-in-Some-clause-closes g c =
    let is : exit_of c.args.said ≡ Some c.in-Some.status = cc in
    closes_exit c.args.count c.in-Some.status c.args.said _ _ _ is c.write_exit.ensures.closes
