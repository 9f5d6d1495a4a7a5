use Rattle.std.proofs.Common.{refl}
use Rattle.fsc_commands.specs.Demonstrating.{demo_refused}
use Rattle.fsc_commands.proofs.Demonstrations.{demo_of}
use Rattle.fsc_commands.proofs.demonstrating.demo.Goals as goal

pub returns-in-Ok-clause-ran : goal.returns-in-Ok-clause-ran
returns-in-Ok-clause-ran g c = demo_of c.in-Ok.image _ _ c.args.count _ _ _ c.in-Ok.ensures.sound c.run_made.ensures.ran

pub returns-in-Err-clause-ran : goal.returns-in-Err-clause-ran
returns-in-Err-clause-ran g c = demo_refused c.in-Err.no c.requires c.ending_of_refusal.ensures c.in-Err.ensures.refused refl refl
