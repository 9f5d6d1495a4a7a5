use Rattle.std.proofs.Common.{◌≤◌}
use Rattle.c_mean.proofs.run.go_on.Given as goal

abbrev pub invariant-steps : goal.invariant-steps
invariant-steps g l =
    (g.S.Source.fault_count l.initial.input ≤ g.S.Source.fault_count l.input)
    × (g.O.Sink.fault_count l.initial.out ≤ g.O.Sink.fault_count l.out)
