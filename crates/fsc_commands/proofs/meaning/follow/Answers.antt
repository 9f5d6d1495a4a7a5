use Rattle.std.proofs.Common.{sym, ◌∙◌}
use Rattle.fsc_commands.proofs.Endings.{of_read, of_write, of_note}
use Rattle.fsc_commands.proofs.meaning.follow.Goals as goal

pub returns-clause-meant : goal.returns-clause-meant
returns-clause-meant g c = (c.run_mean-meant.result, c.ending_of_meant.ensures)

pub returns-clause-read_failed : goal.returns-clause-read_failed
returns-clause-read_failed g c = λ is. c.run_mean-meant.ensures.read_failed (of_read _ c.args.cost (sym c.ending_of_meant.ensures ∙ is))

pub returns-clause-write_failed : goal.returns-clause-write_failed
returns-clause-write_failed g c = λ is. c.run_mean-meant.ensures.write_failed (of_write _ c.args.cost (sym c.ending_of_meant.ensures ∙ is))

pub returns-clause-unnoted : goal.returns-clause-unnoted
returns-clause-unnoted g c = λ is. of_note _ c.args.cost (sym c.ending_of_meant.ensures ∙ is)
