use Rattle.std.proofs.Common.{◌∙◌, refl}
use Rattle.cell_store.proofs.Fitting.{too_much, within_reach}
use Rattle.cell_store.proofs.store.CellStore.fits.Goals as goal

pub returns-then-headers-cells : goal.returns-then-headers-cells
returns-then-headers-cells c =
    within_reach c.self.inside.words.items c.self.inside.made c.self.inside.pool c.self.inside.next_base c.self.invariant c.args.self.now c.self.view_is
    c.args.size c.ranges.size.fits c.len.result c.from.result c.from-2.result c.class_of.result c.cost.result c.span.result
    (c.len.ensures ∙ c.self.inside.words.ok.0) c.from.ensures (c.from-2.ensures ∙ c.bottom.ensures) c.class_of.ensures.class c.cost.ensures c.span.ensures
    c.if-headers-cells.true

pub returns-else-headers-cells : goal.returns-else-headers-cells
returns-else-headers-cells c =
    too_much c.self.inside.words.items c.self.inside.made c.self.inside.pool c.self.inside.next_base c.self.invariant c.args.self.now c.self.view_is
    c.args.size c.ranges.size.fits c.len.result c.from.result c.from-2.result c.class_of.result c.cost.result _
    (c.len.ensures ∙ c.self.inside.words.ok.0) c.from.ensures (c.from-2.ensures ∙ c.bottom.ensures) c.class_of.ensures.class c.cost.ensures refl
    c.if-headers-cells.false
