use Rattle.std.proofs.Common.{sym, arith}
use Rattle.byte_blocks.proofs.Counting.{Counts-free, Counts-full, raised-free, raised-full}
use Rattle.byte_blocks.proofs.tally.Tally.with_block.Goals as goal
use Rattle.byte_blocks.proofs.tally.Tally.with_block.Goals.{then-tally-class, else-tally-class}

pub returns-clause-counts : goal.returns-clause-counts
returns-clause-counts c blocks kind counts =
    elim c.if-tally-class.branch [
      | then-tally-class w ↦
          rw (w.tally-is, w.class_bytes.ensures, c.span.ensures)
          (Counts-full blocks c.args.self kind c.args.size c.class_of-class.result (omega arith) (omega arith) c.class_of-class.ensures.place c.class_of-class.ensures.class w.if-tally-class.true counts)
      | else-tally-class w ↦
          rw (w.tally-is, c.span.ensures)
          (Counts-free blocks c.args.self kind c.args.size c.class_of-class.result (omega arith) c.class_of-class.ensures.place c.class_of-class.ensures.class w.if-tally-class.false counts)
    ]

pub returns-clause-greatest : goal.returns-clause-greatest
returns-clause-greatest c blocks counts =
    let place = c.class_of-class.ensures.place in
    let live = counts.live_is c.class_of-class.result place in
    elim c.if-tally-class.branch [
      | then-tally-class w ↦
          rw (w.tally-is, ← c.class_of-class.ensures.class, ← live) (sym (raised-full c.args.self.greatest c.class_of-class.result _ w.if-tally-class.true))
      | else-tally-class w ↦
          rw (w.tally-is, ← c.class_of-class.ensures.class, ← live) (sym (raised-free c.args.self.greatest c.class_of-class.result _ w.if-tally-class.false))
    ]
