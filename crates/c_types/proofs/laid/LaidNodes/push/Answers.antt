use Rattle.std.proofs.Common.{sym, ◌∙◌}
use Rattle.c_types.proofs.Keeping.{kept_pushed}
use Rattle.c_types.proofs.laid.LaidNodes.push.Goals as goal

pub invariant_of-self-2 : goal.invariant_of-self-2
invariant_of-self-2 c =
    let is = c.self.view_is in
    rw c.in_ok-push.ensures.items
    (kept_pushed c.self.inside.kept.items c.self.inside.outside _ c.self.invariant (rw is c.requires.next)
    (λ plain. rw is (c.requires.layout plain)) (rw is (c.new-members.ensures ∙ sym c.requires.members)))
