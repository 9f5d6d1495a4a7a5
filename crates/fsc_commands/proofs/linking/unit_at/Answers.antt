use Rattle.fsc_commands.specs.Writing.{unit_unread, unit_bad}
use Rattle.fsc_commands.proofs.Outcomes.{named_at}
use Rattle.fsc_commands.proofs.linking.unit_at.Goals as goal

pub returns-in-Ok-clause-refused : goal.returns-in-Ok-clause-refused
returns-in-Ok-clause-refused g c =
    unit_bad c.in-Some.name.now c.in-Ok.bytes (named_at c.args.names.now c.args.at c.in-Some.name.now c.in-Some.ensures.lookup.3.0 c.in-Some.ensures.lookup.1)
    c.in-Ok.ensures.found c.in-Err-decoded.ensures.refused

pub returns-clause-refused : goal.returns-clause-refused
returns-clause-refused g c =
    unit_unread c.in-Some.name.now (named_at c.args.names.now c.args.at c.in-Some.name.now c.in-Some.ensures.lookup.3.0 c.in-Some.ensures.lookup.1) c.in-Err.ensures.refused
