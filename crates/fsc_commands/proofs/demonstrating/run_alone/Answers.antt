use Rattle.fsc_commands.specs.Demonstrating.{most_steps}
use Rattle.fsc_commands.proofs.Demonstrations.{unmarked, still}
use Rattle.fsc_commands.proofs.demonstrating.run_alone.Goals as goal

pub returns-clause-ran : goal.returns-clause-ran
returns-clause-ran g c = unmarked _ most_steps _ _ _ _ c.run_machine-done.ensures.ran

pub returns-clause-unread : goal.returns-clause-unread
returns-clause-unread g c = λ is. still (c.run_machine-done.ensures.read_failed is)
