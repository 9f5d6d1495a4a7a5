use Rattle.std.proofs.Common.{arith}
use Rattle.fsc_outside.proofs.Written.{length-tail, rest_more, written_more}
use Rattle.fsc_outside.proofs.sink.write_whole.Goals as goal

pub loop-rest-preserved : goal.loop-rest-preserved
loop-rest-preserved g c =
    let before = c.loop-rest.invariant in
    let fits = c.in-Moved.ensures.moved.1 in
    record {
      within = omega (arith, length-tail c.loop-rest.rest.now c.in-Moved.n);
      rest = rest_more _ _ _ before.within before.rest fits;
      written = written_more _ _ _ _ _ _ before.within before.rest fits before.written c.in-Moved.ensures.appended;
      counted = omega (arith, c.in-Moved.ensures.counted);
    }
