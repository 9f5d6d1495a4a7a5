use Rattle.std.proofs.Common.{sym}
use Rattle.c_types.proofs.Completing.{kept_filled_there, nodes_filled_there}
use Rattle.c_types.proofs.laid.LaidNodes.complete.Goals as goal

pub invariant_of-self : goal.invariant_of-self
invariant_of-self c =
    let is = c.self.view_is in
    let node = c.node.ensures.node in
    rw c.complete.ensures
    (kept_filled_there c.self.inside.kept.items c.self.inside.outside c.args.id c.args.fields c.in_ok-layout.layout c.in_ok-layout.members
    c.index_mut.result.now c.self.invariant c.index_mut.ensures.value
    (rw (is, sym node) c.in-Some.ensures.incomplete)
    (rw (is, sym node, sym c.in-Some.ensures.union, sym c.as_slice.ensures) c.in_ok-layout.ensures.layout)
    (rw (is, sym node, sym c.in-Some.ensures.union, sym c.as_slice.ensures) c.in_ok-layout.ensures.members)
    c.in_ok-layout.ensures.modest)

pub returns-clause-completed : goal.returns-clause-completed
returns-clause-completed c =
    let is = c.self.view_is in
    rw (c.complete.ensures, sym is)
    (nodes_filled_there c.self.inside.kept.items c.args.id c.args.fields _ _ c.index_mut.result.now c.index_mut.ensures.value
    (rw (is, sym c.node.ensures.node) c.in-Some.ensures.incomplete))
