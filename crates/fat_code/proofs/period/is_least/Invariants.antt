use Rattle.std.proofs.Common.{◌≡◌, ℕ, ◌/◌, ◌%◌, ◌<◌, ◌≤◌, length}
use Rattle.type_desc.specs.Periods.{IsPeriod}
use Rattle.fat_code.specs.Divisors.{HasDivisor}
use Rattle.fat_code.proofs.period.is_least.Given as goal

abbrev pub invariant-loop-times : goal.invariant-loop-times
invariant-loop-times l = (times : ℕ) → 2 ≤ times → times < l.times → length l.kinds % times ≡ 0 → (HasDivisor times → ⊥) → IsPeriod l.kinds (length l.kinds / times) → ⊥
