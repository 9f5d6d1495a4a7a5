use Rattle.std.proofs.Common.{sym}
use Rattle.c_types.specs.declared.node.TypeNode.TheVariants.{Pointer}
use Rattle.c_types.proofs.Numbering.{not_found}
use Rattle.c_types.proofs.table.TypeTable.pointer_to.Goals as goal

pub returns-in_ok-layout-in-None-clause-id : goal.returns-in_ok-layout-in-None-clause-id
returns-in_ok-layout-in-None-clause-id c = rw (not_found c.args.self.now (Pointer c.args.to) (sym c.in-None.ensures)).0 c.add_form.ensures.id
