-- Primes, and lists that repeat shorter ones, as the check of shapes speaks of them.
use Rattle.std.specs.Prelude.{◌≡◌, ℕ, ◌/◌, ◌%◌, ◌<◌, ◌≤◌, Bool, true, false, List, length}
use Rattle.fsc_base.specs.declared.word.WordKind.{WordKind}
use Rattle.type_desc.specs.Periods.{IsPeriod}

-- a smaller number from 2 on divides it
pub record HasDivisor (number : ℕ) : Type 0 where
  pub divisor : ℕ
  pub low : 2 ≤ divisor
  pub high : divisor < number
  pub divides : number % divisor ≡ 0

-- a list is a shorter one, so many times over; or it is none, where the number has no divisor
abbrev pub Repeats : List WordKind → (times : ℕ) → Bool → Type 0
Repeats kinds times true = (length kinds % times ≡ 0) × IsPeriod kinds (length kinds / times)
Repeats kinds times false = length kinds % times ≡ 0 → (HasDivisor times → ⊥) → IsPeriod kinds (length kinds / times) → ⊥
