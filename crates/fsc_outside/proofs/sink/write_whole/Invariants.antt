use Rattle.std.proofs.Common.{◌≡◌, ◌≤◌, ◌-◌, length, take, drop}
use Rattle.fsc_outside.specs.Streams.{Appends}
use Rattle.fsc_outside.proofs.sink.write_whole.Given as goal

-- what was written so far is the front of the piece, up to where the rest begins
abbrev pub invariant-loop-rest : goal.invariant-loop-rest
invariant-loop-rest g l = record {
  within : length l.rest ≤ length l.piece;
  rest : l.rest ≡ drop (length l.piece - length l.rest) l.piece;
  written : Appends (g.O.Sink.written l.initial.out) (g.O.Sink.written l.out) (take (length l.piece - length l.rest) l.piece);
  counted : g.O.Sink.fault_count l.initial.out ≤ g.O.Sink.fault_count l.out;
}

abbrev pub decreases-loop-rest : goal.decreases-loop-rest
decreases-loop-rest g l = length l.rest
