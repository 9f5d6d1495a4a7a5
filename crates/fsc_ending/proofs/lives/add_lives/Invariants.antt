use Rattle.std.proofs.Common.{◌≡◌, ◌++◌, take}
use Rattle.std.specs.Prelude.{flat_map}
use Rattle.fsc_ending.specs.Lives.{live_line}
use Rattle.fsc_ending.proofs.lives.add_lives.Given as goal

abbrev pub invariant-loop-live : goal.invariant-loop-live
invariant-loop-live l = l.lines.items ≡ l.fn.lines.items ++ flat_map live_line (take l.live-index l.lives)
