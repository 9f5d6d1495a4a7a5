use Rattle.std.proofs.Common.{ℕ, ap, sym}
use Rattle.access_methods.specs.ShapedLaws.{fat_places}
use Rattle.access_methods.proofs.layout.PairLayout.value_at.Goals as goal

pub returns-clause-place : goal.returns-clause-place
returns-clause-place c = let at = fat_places c.args._total c.args.w in sym (ap (λ (p : ℕ × ℕ). p.0) at)
