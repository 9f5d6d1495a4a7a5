use Rattle.std.proofs.Common.{sym}
use Rattle.c_types.proofs.Placing.{placing_large}
use Rattle.c_types.proofs.record.place_struct.Goals as goal

pub returns-then-from-gt-LARGEST-clause-refused : goal.returns-then-from-gt-LARGEST-clause-refused
returns-then-from-gt-LARGEST-clause-refused c =
    placing_large c.args.parts.now c.loop-part.part-index c.loop-part.places.items c.loop-part.end c.part-item.result
    c.offset_behind-offset.result c.end_behind-end.result c.loop-part-test.true c.part-item.is c.loop-part.invariant
    c.offset_behind-offset.ensures.offset c.end_behind-end.ensures.end (rw (sym c.from.ensures) c.if-from-gt-LARGEST.true)
