use Rattle.std.proofs.Common.{◌≡◌, ◌-◌}
use Rattle.plain_text.specs.Reading.{calls_at}
use Rattle.plain_text.proofs.CallLoop.{with_front}
use Rattle.plain_text.proofs.reading.calls.Given as goal

abbrev pub invariant-loop : goal.invariant-loop
invariant-loop l = with_front l.bytes.items (calls_at (1000 - l.counter) l.rest) ≡ calls_at 1000 l.text
