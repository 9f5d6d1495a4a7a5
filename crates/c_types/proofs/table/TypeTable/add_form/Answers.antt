use Rattle.std.proofs.Common.{◌≡◌, [], ◌∷◌, ◌++◌, None, sym, ◌∙◌}
use Rattle.indexmap.proofs.CallerLemmas.{insert_entry-new}
use Rattle.c_types.specs.contracts.form.FormPartialEq.TheImpl.{eq-value}
use Rattle.c_types.specs.Building.{number_of}
use Rattle.c_types.specs.Numbered.{node_of, IsNumbered}
use Rattle.c_types.proofs.FormEquality.{none_noted}
use Rattle.c_types.proofs.Numbering.{numbered_added}
use Rattle.c_types.proofs.table.TypeTable.add_form.Goals as goal

pub invariant_of-self-2 : goal.invariant_of-self-2
invariant_of-self-2 c =
    let m = c.reserve.new.self in
    let nodes = c.self.inside.nodes in
    let numbered : IsNumbered m.entries nodes = rw c.reserve.ensures.entries c.self.invariant in
    let absent : number_of nodes (node_of c.args.form) ≡ None = rw (c.self.view_is, sym c.requires.same) c.requires.absent in
    let none = none_noted m.entries nodes c.args.form numbered absent in
    let whole : c.insert.new.self.entries ≡ m.entries ++ ((c.args.form, c.in_ok-id.id) ∷ []) =
    c.in-Ok.ensures.entries ∙ insert_entry-new eq-value.it m c.args.form c.in_ok-id.id none in
    rw (whole, c.in_ok-push.ensures.pushed)
    (numbered_added m.entries nodes c.args.form c.args.node c.in_ok-id.id numbered c.requires.same (rw c.self.view_is c.in_ok-id.ensures))
