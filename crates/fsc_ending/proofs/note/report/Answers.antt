use Rattle.std.proofs.Common.{inl, inr, refl}
use Rattle.fsc_ending.proofs.Noting.{reported_whole, reported_late, reported_early}
use Rattle.fsc_ending.proofs.note.report.Goals as goal

pub returns-in-Whole-write_note-clause-reported : goal.returns-in-Whole-write_note-clause-reported
returns-in-Whole-write_note-clause-reported g c =
    reported_whole c.args.ending c.args.marks c.args.lives _ _ _ (c.write_front.ensures.whole c.in-Whole.is) (c.write_note.ensures.whole c.in-Whole-write_note.is)

pub returns-in-Failed-write_note-clause-reported : goal.returns-in-Failed-write_note-clause-reported
returns-in-Failed-write_note-clause-reported g c =
    reported_late c.args.ending _ c.args.marks c.args.lives _ _ _ (inl refl) (c.write_front.ensures.whole c.in-Whole.is) (c.write_note.ensures.part (λ whole. cc))

pub returns-in-NoMemory-write_note-clause-reported : goal.returns-in-NoMemory-write_note-clause-reported
returns-in-NoMemory-write_note-clause-reported g c =
    reported_late c.args.ending _ c.args.marks c.args.lives _ _ _ (inr refl) (c.write_front.ensures.whole c.in-Whole.is) (c.write_note.ensures.part (λ whole. cc))

pub returns-in-Failed-clause-reported : goal.returns-in-Failed-clause-reported
returns-in-Failed-clause-reported g c = reported_early c.args.ending _ c.args.marks c.args.lives _ _ (inl refl) (c.write_front.ensures.part (λ whole. cc))

pub returns-in-NoMemory-clause-reported : goal.returns-in-NoMemory-clause-reported
returns-in-NoMemory-clause-reported g c = reported_early c.args.ending _ c.args.marks c.args.lives _ _ (inr refl) (c.write_front.ensures.part (λ whole. cc))
