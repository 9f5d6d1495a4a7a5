-- What went wrong from a later moment on went wrong from an earlier one on.
use Rattle.std.proofs.Common.{◌≡◌, ℕ, ◌+◌, ◌^◌, ◌<◌, ◌≤◌, List, sym, ◌∙◌, subst, arith}
use Rattle.std.specs.Prelude.{IsSome}
use Rattle.fsc_outside.specs.Calls.{FileCounts, Fails, Misses}
use Rattle.fsc_outside.specs.Counts.{Rose}

pub rose_earlier : (early late after now : ℕ) → early ≤ late → after ≡ now → Rose late after → Rose early now
rose_earlier early late after now before same rose =
    λ below. let more : late < after = rose (subst (λ (n : ℕ). n + 1 < 2 ^ 64) (sym same) below) in omega (arith, same)

pub fails_earlier : (name : List ℕ) (early late : FileCounts) → late.told ≡ early.told → late.blamed ≡ early.blamed → early.faults_before ≤ late.faults_before → late.faults_after ≡ early.faults_after
    → Fails name late → Fails name early
fails_earlier name early late told blamed before after fails = (
  rose_earlier early.faults_before late.faults_before late.faults_after early.faults_after before after fails.0,
  (λ some. sym blamed ∙ fails.1 (subst IsSome (sym told) some)),
)

pub misses_earlier : (early late : FileCounts) → early.absences_before ≤ late.absences_before → late.absences_after ≡ early.absences_after → Misses late → Misses early
misses_earlier early late before after misses = rose_earlier early.absences_before late.absences_before late.absences_after early.absences_after before after misses
