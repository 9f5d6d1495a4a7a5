use Rattle.std.proofs.Common.{inl, inr, refl, ◌∙◌}
use Rattle.fsc_commands.proofs.Demonstrations.{whole_line, cut_line, unwritten}
use Rattle.fsc_commands.proofs.closing.write_exit.Goals as goal

pub returns-in-Whole-clause-closes : goal.returns-in-Whole-clause-closes
returns-in-Whole-clause-closes g c =
    whole_line c.args.count c.args.status c.as_slice.result.now _ _ (c.as_slice.ensures ∙ c.in-Ok.ensures) (c.write_whole.ensures.whole c.in-Whole.is)

pub returns-in-Failed-clause-closes : goal.returns-in-Failed-clause-closes
returns-in-Failed-clause-closes g c =
    cut_line c.args.count c.args.status c.as_slice.result.now _ _ _ (c.as_slice.ensures ∙ c.in-Ok.ensures) (inl refl) (c.write_whole.ensures.part (λ whole. cc))

pub returns-in-Ok-clause-closes : goal.returns-in-Ok-clause-closes
returns-in-Ok-clause-closes g c =
    cut_line c.args.count c.args.status c.as_slice.result.now _ _ _ (c.as_slice.ensures ∙ c.in-Ok.ensures) (inr refl) (c.write_whole.ensures.part (λ whole. cc))

pub returns-clause-closes : goal.returns-clause-closes
returns-clause-closes g c = unwritten c.args.count c.args.status _
