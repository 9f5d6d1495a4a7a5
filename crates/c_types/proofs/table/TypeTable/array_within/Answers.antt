use Rattle.std.proofs.Common.{sym}
use Rattle.c_types.specs.declared.node.TypeNode.TheVariants.{Array}
use Rattle.c_types.proofs.Nexts.{next_array_fits}
use Rattle.c_types.proofs.Numbering.{not_found}
use Rattle.c_types.proofs.table.TypeTable.array_within.Goals as goal

pub add_form-requires-clause-next : goal.add_form-requires-clause-next
add_form-requires-clause-next c = next_array_fits c.args.self.now c.in_ok-layout-in-None.ensures.built c.args.of c.args.count c.requires

pub returns-in_ok-layout-in-None-clause-id : goal.returns-in_ok-layout-in-None-clause-id
returns-in_ok-layout-in-None-clause-id c = rw (not_found c.args.self.now (Array c.args.of c.args.count) (sym c.in-None.ensures)).0 c.add_form.ensures.id
