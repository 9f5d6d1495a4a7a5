use Rattle.std.proofs.Common.{◌≤◌, ℕ, length}
use Rattle.type_desc.specs.Periods.{IsPeriod}
use Rattle.type_desc.proofs.period.least_period.Given as goal

abbrev pub invariant-loop-n : goal.invariant-loop-n
invariant-loop-n l = (1 ≤ l.n) × (l.n ≤ length l.kinds) × ((k : ℕ) → IsPeriod l.kinds k → l.n ≤ k)
