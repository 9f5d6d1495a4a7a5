use Rattle.std.proofs.Common.{◌∙◌}
use Rattle.guest_mem.proofs.PagedBytes.{contains_paged}
use Rattle.guest_mem.proofs.region.PagedRegion.contains.Goals as goal

pub returns : goal.returns
returns c =
    c.has.ensures
    ∙ contains_paged c.self.inside.address c.self.inside.flags c.self.inside.size c.self.inside.pages c.args.self.now c.args.right c.args.at c.args.n c.self.view_is
