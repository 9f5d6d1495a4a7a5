-- What a shape keeps beside its kinds, so that places are found in a bounded number of steps.
use Rattle.std.specs.Prelude.{◌≡◌, ℕ, ◌+◌, ◌≤◌, List, length, slice_index}
use Rattle.fsc_base.specs.declared.word.WordKind.{WordKind}
use Rattle.type_desc.specs.Periods.{IsShape}
use Rattle.type_desc.specs.Places.{fats_before}

-- how many fat words stand before each word of the period, and in all of it
pub record IsTable (kinds : List WordKind) (fats : List ℕ) : Type 0 where
  pub size : length fats ≡ length kinds + 1
  pub each : (w : ℕ) → w ≤ length kinds → slice_index fats w ≡ fats_before kinds w

pub record IsWellFormed (words : ℕ) (kinds : List WordKind) (fats : List ℕ) : Type 0 where
  pub count : words ≡ length kinds
  pub shape : IsShape kinds
  pub table : IsTable kinds fats
