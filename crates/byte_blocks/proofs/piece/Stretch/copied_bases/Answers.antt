use Rattle.std.proofs.Common.{◌∙◌, arith}
use Rattle.c_memory.proofs.CopiedBases.{copied_bases_more}
use Rattle.byte_blocks.proofs.piece.Stretch.copied_bases.Goals as goal

pub loop-word-preserved : goal.loop-word-preserved
loop-word-preserved c =
    rw (c.in_ok-push.ensures.items, c.copied_base.ensures)
    (
    copied_bases_more c.loop-word.bases.items c.args.source.now c.args.self.to c.args.self.from c.args.self.n c.loop-word.word c.words_of-end.result (omega arith)
    ∙ c.loop-word.invariant
    )
