use Rattle.std.proofs.Common.{ℕ, ap, sym}
use Rattle.access_methods.specs.ShapedLaws.{narrow_places}
use Rattle.access_methods.proofs.layout.NarrowLayout.base_at.Goals as goal

pub returns-clause-place : goal.returns-clause-place
returns-clause-place c = let at = narrow_places c.args.total c.args.w in sym (ap (λ (p : ℕ × ℕ). p.1) at)
