-- Counts of what went wrong outside.
use Rattle.std.specs.Prelude.{ℕ, ◌+◌, ◌-◌, ◌^◌, ◌<◌, min}
use Rattle.fsc_outside.specs.declared.files.Got.{Got}
use Rattle.fsc_outside.specs.declared.files.Got.TheVariants as got
use Rattle.fsc_outside.specs.declared.files.Put.{Put}
use Rattle.fsc_outside.specs.declared.files.Put.TheVariants as put
use Rattle.fsc_outside.specs.declared.sink.Gave.{Gave}
use Rattle.fsc_outside.specs.declared.sink.Gave.TheVariants as gave
use Rattle.fsc_outside.specs.declared.source.Took.{Took}
use Rattle.fsc_outside.specs.declared.source.Took.TheVariants as took

-- A count rose in a call where it is greater after the call than before it, or stands at its last value, 2 ^ 64 - 1.
abbrev pub Rose : ℕ → ℕ → Type 0
Rose old new = new + 1 < 2 ^ 64 → old < new

-- a count that goes up by one, and stands still at 2 ^ 64 - 1
abbrev pub one_more : ℕ → ℕ
one_more n = min (n + 1) (2 ^ 64 - 1)

-- how many calls for files failed, and how many files were not there
pub record Counts : Type 0 where
  pub faults : ℕ
  pub absences : ℕ

-- the counts after an answer to a read
abbrev pub counts_after_got : Counts → Got → Counts
counts_after_got counts (got.Found bytes) = counts
counts_after_got counts got.Absent = record counts { absences = one_more counts.absences }
counts_after_got counts got.Failed = record counts { faults = one_more counts.faults }
counts_after_got counts got.NoMemory = counts

-- the counts after an answer to a write
abbrev pub counts_after_put : Counts → Put → Counts
counts_after_put counts put.Done = counts
counts_after_put counts put.Failed = record counts { faults = one_more counts.faults }
counts_after_put counts put.NoMemory = counts

-- the faults of a source after an answer
abbrev pub faults_after_took : ℕ → Took → ℕ
faults_after_took faults (took.Moved n) = faults
faults_after_took faults took.End = faults
faults_after_took faults took.Failed = one_more faults

-- the faults of a sink after an answer
abbrev pub faults_after_gave : ℕ → Gave → ℕ
faults_after_gave faults (gave.Moved n) = faults
faults_after_gave faults gave.Failed = one_more faults
faults_after_gave faults gave.NoMemory = faults
