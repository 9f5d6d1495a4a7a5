use Rattle.std.proofs.Common.{◌∙◌, ap, sym}
use Rattle.c_types.specs.Nodes.{node_at}
use Rattle.c_types.specs.Layouts.{layout_of, members_in}
use Rattle.c_types.proofs.Qualifying.{unqualified-bare}
use Rattle.c_types.proofs.laid.LaidNodes.members.Goals as goal

pub returns : goal.returns
returns c =
    let nodes = c.args.self.now in
    c.kept_members.ensures
    ∙ ap (λ i. members_in (layout_of nodes) (node_at nodes i)) (c.unqualified.ensures.bare ∙ sym (unqualified-bare nodes c.args.id c.unqualified.ensures.built))
