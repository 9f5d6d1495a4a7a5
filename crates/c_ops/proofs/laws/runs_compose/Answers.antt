use Rattle.c_ops.proofs.Running.{costs_within, end_stays, longer_goes_on, cuts_at_cost}
use Rattle.c_ops.proofs.laws.runs_compose.Goals as goal

pub returns-clause-within : goal.returns-clause-within
returns-clause-within g c act budget s input = costs_within act budget s input

pub returns-clause-ended : goal.returns-clause-ended
returns-clause-ended g c act budget more s input end said = end_stays act budget more s input end said

pub returns-clause-longer : goal.returns-clause-longer
returns-clause-longer g c act budget more s input said = longer_goes_on act budget more s input said

pub returns-clause-cut : goal.returns-clause-cut
returns-clause-cut g c act budget s input = cuts_at_cost act budget s input
