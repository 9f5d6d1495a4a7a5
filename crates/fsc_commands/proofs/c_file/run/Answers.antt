use Rattle.std.proofs.Common.{ℕ, List, refl, ap, subst}
use Rattle.rv_run.specs.Machine.{State}
use Rattle.rv_run.specs.ImageRun.{given_of}
use Rattle.fsc_run.specs.Running.{streams_of, RanFrom}
use Rattle.fsc_commands.specs.Going.{program_ran}
use Rattle.fsc_commands.proofs.Going.{RunsWrite, unasked}
use Rattle.fsc_commands.proofs.c_file.run.Goals as goal

pub returns-clause-unread : goal.returns-clause-unread
returns-clause-unread g c =
    c.run_machine.ensures.unread (given_of (g.S.Source.left c.args.input.now)) (unasked _ _ _ c.in-Ok-new.machine c.args.steps _ c.in-Ok-new.ensures c.in-Ok.ensures.writes)

pub returns-clause-untouched : goal.returns-clause-untouched
returns-clause-untouched g c =
    c.run_machine.ensures.untouched (given_of (g.S.Source.left c.args.input.now)) (unasked _ _ _ c.in-Ok-new.machine c.args.steps _ c.in-Ok-new.ensures c.in-Ok.ensures.writes)

pub returns-clause-runs : goal.returns-clause-runs
returns-clause-runs g c =
    let unread = c.run_machine.ensures.unread (given_of (g.S.Source.left c.args.input.now)) (unasked _ _ _ c.in-Ok-new.machine c.args.steps _ c.in-Ok-new.ensures c.in-Ok.ensures.writes) in
    program_ran c.in-Ok.image refl
    (subst (λ (bytes : List ℕ). RunsWrite bytes c.args.program.now.status c.in-Ok.image) c.as_slice.ensures c.in-Ok.ensures.writes)
    (subst (λ (s : State). RanFrom s c.args.steps c.args.stats c.run_machine.result.ending c.run_machine.result.marks
    (streams_of g.S.Source g.O.Sink c.args.input.now c.args.out.now) (streams_of g.S.Source g.O.Sink c.run_machine.new.input c.run_machine.new.out)) c.in-Ok-new.ensures c.run_machine.ensures.ran)
    unread
    (ap g.S.Source.left (c.run_machine.ensures.untouched (given_of (g.S.Source.left c.args.input.now)) (unasked _ _ _ c.in-Ok-new.machine c.args.steps _ c.in-Ok-new.ensures c.in-Ok.ensures.writes)))
