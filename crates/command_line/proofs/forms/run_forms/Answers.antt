use Rattle.command_line.proofs.FormLaws.{run_listed, run_steps_listed}
use Rattle.command_line.proofs.forms.run_forms.Goals as goal

pub returns : goal.returns
returns c = record { plain = run_listed; with_steps = run_steps_listed }
