use Rattle.std.proofs.Common.{◌≡◌, None, sym, ap, ◌∙◌}
use Rattle.c_types.specs.Building.{number_of, version_of}
use Rattle.c_types.proofs.Nexts.{next_version}
use Rattle.c_types.proofs.Numbering.{not_found}
use Rattle.c_types.proofs.table.TypeTable.qualified_version.Goals as goal

pub add_form-requires-clause-next : goal.add_form-requires-clause-next
add_form-requires-clause-next c =
    rw c.version-of.ensures.version (next_version c.args.self.now c.version-of.ensures.built c.args.id c.args.bits c.requires.within c.requires.no_array)

pub returns-in-None-clause-id : goal.returns-in-None-clause-id
returns-in-None-clause-id c =
    let nodes = c.args.self.now in
    let version = version_of nodes c.args.id c.args.bits in
    let none : number_of nodes version ≡ None = ap (number_of nodes) (sym c.version-of.ensures.version) ∙ sym c.in-None.ensures in
    rw (not_found nodes version none).0 c.add_form.ensures.id
