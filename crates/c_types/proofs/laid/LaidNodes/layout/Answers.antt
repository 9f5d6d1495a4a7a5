use Rattle.c_types.proofs.Qualifying.{layout-unqualified}
use Rattle.c_types.proofs.laid.LaidNodes.layout.Goals as goal

pub returns : goal.returns
returns c = layout-unqualified c.args.self.now c.unqualified.ensures.built c.args.id c.unqualified.result _ c.unqualified.ensures.bare c.kept_layout.ensures
