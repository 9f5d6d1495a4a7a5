use Rattle.command_line.proofs.FormLaws.{go_listed, go_steps_listed}
use Rattle.command_line.proofs.forms.go_forms.Goals as goal

pub returns : goal.returns
returns c = record { plain = go_listed; with_steps = go_steps_listed }
