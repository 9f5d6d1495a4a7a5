use Rattle.std.proofs.Common.{◌≡◌, ◌≤◌, ◌-◌}
use Rattle.fsc_outside.specs.Streams.{Appends}
use Rattle.guest_mem.specs.Guest.{part}
use Rattle.guest_mem.proofs.region.PagedRegion.write_part.Given as goal

-- what was written so far is the front of the bytes
abbrev pub invariant-loop-done : goal.invariant-loop-done
invariant-loop-done g l = record {
  within : l.done ≤ l.n;
  wrote : Appends (g.O.Sink.written l.initial.out) (g.O.Sink.written l.out) (part l.self.region l.at l.done);
  counted : g.O.Sink.fault_count l.initial.out ≤ g.O.Sink.fault_count l.out;
}

abbrev pub decreases-loop-done : goal.decreases-loop-done
decreases-loop-done g l = l.n - l.done
