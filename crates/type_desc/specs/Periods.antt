-- Shapes: lists of kinds of words in their least period.
use Rattle.std.specs.Prelude.{◌≡◌, ℕ, zero, suc, ◌-◌, ◌%◌, ◌<◌, ◌≤◌, List, [], ◌++◌, length, take, drop}
use Rattle.fsc_base.specs.declared.word.WordKind.{WordKind}

-- a list, so many times over
abbrev pub repeated : {A : Type 0} → (times : ℕ) → List A → List A
repeated zero xs = []
repeated (suc times) xs = xs ++ repeated times xs

-- the shortest list that gives another when it is repeated a whole number of times
pub record IsLeastPeriod {A : Type 0} (whole period : List A) : Type 0 where
  pub times : ℕ
  pub gives : repeated times period ≡ whole
  pub least : (n : ℕ) (other : List A) → repeated n other ≡ whole → length period ≤ length other

-- a shape has 1 to 1,024 words, and is its own least period
pub record IsShape (kinds : List WordKind) : Type 0 where
  pub some : 0 < length kinds
  pub few : length kinds ≤ 1024
  pub least : (n : ℕ) (other : List WordKind) → repeated n other ≡ kinds → length kinds ≤ length other

-- The same seen from a length: it divides the whole, and each element equals the one so many places before it.
pub record IsPeriod {A : Type 0} (whole : List A) (n : ℕ) : Type 0 where
  pub some : 0 < n
  pub divides : length whole % n ≡ 0
  pub repeats : drop n whole ≡ take (length whole - n) whole

-- a list of kinds has one least period, and that is a shape
abbrev pub OneLeastPeriod : Type 0
OneLeastPeriod = (whole one other : List WordKind) → 0 < length whole → IsLeastPeriod whole one → IsLeastPeriod whole other → one ≡ other

abbrev pub LeastIsShape : Type 0
LeastIsShape = (whole kinds : List WordKind) → 0 < length whole → length whole ≤ 1024 → IsLeastPeriod whole kinds → IsShape kinds
