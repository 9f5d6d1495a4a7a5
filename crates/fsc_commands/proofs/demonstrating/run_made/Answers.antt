use Rattle.std.proofs.Common.{false, None, refl, subst}
use Rattle.rv_run.specs.Machine.{State}
use Rattle.fsc_run.specs.Running.{RanFrom}
use Rattle.fsc_commands.specs.Demonstrating.{most_steps, without_input, image_ran}
use Rattle.fsc_commands.proofs.demonstrating.run_made.Goals as goal

pub returns-clause-ran : goal.returns-clause-ran
returns-clause-ran g c =
    image_ran c.run_alone-said.result _ refl
    (subst (λ (s : State). RanFrom s most_steps false c.run_alone-said.result None (without_input (g.O.Sink.written c.args.out.now)) (without_input (g.O.Sink.written c.run_alone-said.new.out)))
    c.in-Ok.ensures c.run_alone-said.ensures.ran) c.close.ensures.closes
