use Rattle.std.proofs.Common.{ℕ, ◌*◌, ◌<◌, sym, subst}
use Rattle.type_desc.proofs.PlaceLaws.{shape_layout}
use Rattle.access_methods.proofs.layout.MixedLayout.base_at.Goals as goal

pub returns-clause-room : goal.returns-clause-room
returns-clause-room c =
    subst (λ (p : ℕ × ℕ). p.1 < 2 * c.args.total) (sym c.place.ensures)
    ((shape_layout c.args.self.now.shape.now c.args.total).base_within c.args.w c.requires.within)
