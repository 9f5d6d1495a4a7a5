use Rattle.std.proofs.Common.{◌≡◌, Some}
use Rattle.plain_text.specs.Reading.{call_at, calls_at}
use Rattle.plain_text.proofs.CallLoop.{goes_on, stops, is_full}
use Rattle.plain_text.proofs.reading.calls.Goals.{else-loop-test, then-loop-test+in_default}
use Rattle.plain_text.proofs.reading.calls.Goals as goal

pub loop-preserved : goal.loop-preserved
loop-preserved c =
    let read : call_at c.loop.rest.now ≡ Some (c.in-Some.byte, c.in-Some.after.now) = c.in-Some.ensures in
    rw c.in_ok-push.ensures.items (goes_on c.loop.bytes.items 1000 c.loop.counter c.loop.rest.now c.in-Some.byte c.in-Some.after.now (calls_at 1000 c.args.text.now) c.loop-test.true read c.loop.invariant)

pub returns : goal.returns
returns c =
    rw c.from_vec.ensures (elim c.loop-test.branch [
      | else-loop-test w ↦ is_full c.loop.bytes.items 1000 c.loop.counter c.loop.rest.now (calls_at 1000 c.args.text.now) w.loop-test.false c.loop.invariant
      | then-loop-test+in_default w ↦ stops c.loop.bytes.items 1000 c.loop.counter c.loop.rest.now (calls_at 1000 c.args.text.now) w.loop-test.true w.in_default.ensures c.loop.invariant
    ])
