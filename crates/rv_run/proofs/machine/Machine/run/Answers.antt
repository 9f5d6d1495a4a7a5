use Rattle.std.proofs.Common.{◌+◌, ◌-◌, inr, refl, ap, ◌∙◌, arith}
use Rattle.rv_run.specs.declared.stop.Step.TheVariants as step
use Rattle.rv_run.specs.declared.stop.Stop.{Stop}
use Rattle.rv_run.specs.ImageRun.{image_run}
use Rattle.rv_run.proofs.Counting.{one_more}
use Rattle.rv_run.proofs.Reaching.{reached_first, reached_next, reached_end, reached_all}
use Rattle.rv_run.proofs.Running.{begins, goes_on, ends, ends_within, all_ran, told_or_unasked, takes_none}
use Rattle.rv_run.proofs.machine.Machine.run.Goals as goal

pub loop-init : goal.loop-init
loop-init g c = record {
  counted = omega arith;
  run = λ given known. begins c.args.self.now given _;
  reached = reached_first c.args.self.now _;
  untouched = λ given unasked. refl;
  read_counted = omega arith;
  write_counted = omega arith;
}

pub loop-preserved : goal.loop-preserved
loop-preserved g c =
    let one = one_more c.loop.self c.step.new.self _ _ c.in-Next.ensures.row in
    record {
      counted = omega arith;
      run = λ given known.
          goes_on c.args.n c.loop.counter c.args.self.now c.loop.self c.step.new.self _ _ _ given c.loop-test.true known (c.loop.invariant.run given known) c.in-Next.ensures.row;
      reached = reached_next c.args.self.now c.loop.self c.step.new.self _ _ _ c.loop.invariant.reached c.in-Next.ensures.row;
      untouched = λ given unasked. (
          let so_far = c.loop.invariant.run given (inr unasked) in
          c.step.ensures.untouched (takes_none c.args.n c.loop.counter c.args.self.now c.loop.self _ _ given c.loop-test.true so_far unasked) ∙ c.loop.invariant.untouched given unasked
          );
      read_counted = omega (arith, c.step.ensures.read_counted);
      write_counted = omega (arith, c.step.ensures.write_counted);
    }

pub returns-clause-run : goal.returns-clause-run
returns-clause-run g c = λ given known.
    let asked = (image_run c.args.n c.args.self.now given).asked in
    all_ran c.args.n c.loop.counter c.args.self.now c.loop.self _ _ given (omega arith) known (c.loop.invariant.run given (told_or_unasked _ given asked known))

pub returns-clause-reached : goal.returns-clause-reached
returns-clause-reached g c = reached_all c.args.n c.args.self.now c.loop.self _ _ (omega arith) c.loop.invariant.reached

pub returns-in-Ended-clause-run : goal.returns-in-Ended-clause-run
returns-in-Ended-clause-run g c = λ given known.
    let so_far = c.loop.invariant.run given (told_or_unasked _ given (image_run c.args.n c.args.self.now given).asked known) in
    ends c.args.n c.loop.counter c.args.self.now c.loop.self c.step.new.self _ _ _ given c.in-Ended.stop c.loop-test.true known so_far c.in-Ended.ensures.row

pub returns-in-Ended-clause-ended : goal.returns-in-Ended-clause-ended
returns-in-Ended-clause-ended g c = λ given known early.
    let so_far = c.loop.invariant.run given (told_or_unasked _ given (image_run c.args.n c.args.self.now given).asked known) in
    ends_within c.args.n c.loop.counter c.args.self.now c.loop.self c.step.new.self _ _ _ given c.in-Ended.stop c.loop-test.true known so_far c.in-Ended.ensures.row

pub returns-in-Ended-clause-reached : goal.returns-in-Ended-clause-reached
returns-in-Ended-clause-reached g c =
    reached_end c.args.n c.args.self.now c.loop.self c.step.new.self _ _ _ c.in-Ended.stop (omega arith) c.loop.invariant.reached c.in-Ended.ensures.row

pub returns-in-Ended-clause-untouched : goal.returns-in-Ended-clause-untouched
returns-in-Ended-clause-untouched g c = λ given unasked.
    let so_far = c.loop.invariant.run given (inr unasked) in
    c.step.ensures.untouched (takes_none c.args.n c.loop.counter c.args.self.now c.loop.self _ _ given c.loop-test.true so_far unasked) ∙ c.loop.invariant.untouched given unasked

pub returns-in-Ended-clause-unread : goal.returns-in-Ended-clause-unread
returns-in-Ended-clause-unread g c = λ given unasked e.
    let so_far = c.loop.invariant.run given (inr unasked) in
    c.step.ensures.unread (takes_none c.args.n c.loop.counter c.args.self.now c.loop.self _ _ given c.loop-test.true so_far unasked) (c.in-Ended.is ∙ ap (λ (s : Stop). step.Ended s) e)
