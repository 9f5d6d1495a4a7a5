use Rattle.std.proofs.Common.{◌≡◌, ℕ, ◌+◌, ◌-◌, ◌<◌, ◌≤◌, ◌^◌, List}
use Rattle.rv_run.specs.ImageRun.{image_run}
use Rattle.rv_run.proofs.Running.{IsToldOrUnasked, SoFar}
use Rattle.rv_run.proofs.Reaching.{HasReached}
use Rattle.rv_run.proofs.machine.Machine.run.Given as goal

-- the run so far is the beginning of the whole one
abbrev pub invariant-loop : goal.invariant-loop
invariant-loop g l = record {
  counted : l.self.count ≡ l.fn.self.count + l.counter;
  run : (given : List ℕ) → IsToldOrUnasked (g.S.Source.left l.fn.input) given (image_run l.n l.fn.self given).asked
      → SoFar l.fn.self given l.counter l.self
      (record { left = g.S.Source.left l.fn.input; written = g.O.Sink.written l.fn.out })
      (record { left = g.S.Source.left l.input; written = g.O.Sink.written l.out });
  reached : HasReached l.fn.self l.self
      (record { left = g.S.Source.left l.fn.input; written = g.O.Sink.written l.fn.out })
      (record { left = g.S.Source.left l.input; written = g.O.Sink.written l.out });
  untouched : (given : List ℕ) → (image_run l.n l.fn.self given).asked ≡ 0 → l.input ≡ l.fn.input;
  read_counted : g.S.Source.fault_count l.fn.input ≤ g.S.Source.fault_count l.input;
  write_counted : g.O.Sink.fault_count l.fn.out ≤ g.O.Sink.fault_count l.out;
}
