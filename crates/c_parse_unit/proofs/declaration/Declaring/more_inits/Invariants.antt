use Rattle.std.proofs.Common.{◌≤◌, length}
use Rattle.c_parse_unit.proofs.declaration.Declaring.more_inits.Given as goal

abbrev pub invariant-more : goal.invariant-more
invariant-more l = length l.parser.rest.now ≤ length l.fn.parser.rest.now

abbrev pub decreases-more : goal.decreases-more
decreases-more l = length l.parser.rest.now
