use Rattle.std.proofs.Common.{◌≡◌, None, sym, ap, ◌∙◌}
use Rattle.c_types.specs.declared.node.TypeNode.TheVariants.{Function}
use Rattle.c_types.specs.Building.{number_of}
use Rattle.c_types.proofs.Numbering.{not_found}
use Rattle.c_types.proofs.table.TypeTable.function.Goals as goal

pub returns-in_ok-parameters-in-None-clause-id : goal.returns-in_ok-parameters-in-None-clause-id
returns-in_ok-parameters-in-None-clause-id c =
    let nodes = c.args.self.now in
    let node = Function c.args.returns c.args.is_known c.args.parameters.now c.args.is_variadic in
    let none : number_of nodes node ≡ None = ap (number_of nodes) (sym c.in_ok-form.ensures) ∙ sym c.in-None.ensures in
    rw (not_found nodes node none).0 c.add_form.ensures.id
