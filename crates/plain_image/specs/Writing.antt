-- What the run of such an image does.
use Rattle.std.specs.Prelude.{◌≡◌, ◌≢◌, ℕ, ◌+◌, ◌*◌, ◌≤◌, ◌⊎◌, List, length, take}
use Rattle.rv_run.specs.declared.stop.Stop.TheVariants.{Exit, Steps}
use Rattle.rv_run.specs.ImageRun.{ImageRun}

-- The run, of at most n instructions over an input, is that of a program that writes these bytes and exits with this
-- status.
pub record Writes (bytes : List ℕ) (status n : ℕ) (input : List ℕ) (run : ImageRun) : Type 0 where
  -- it writes a front of the bytes
  pub front : run.written ≡ take (length run.written) bytes
  -- it ends only with the status and all bytes written
  pub ends : (run.stop ≡ Steps) ⊎ ((run.stop ≡ Exit status) × (run.written ≡ bytes))
  -- it ends within 64 instructions a byte and 128 more
  pub in_time : 64 * (length bytes + 2) ≤ n → run.stop ≢ Steps
  -- and each byte is written in time
  pub keeps_up : (j : ℕ) → j ≤ length bytes → 64 * (j + 1) ≤ n → j ≤ length run.written
  -- it asks the input for nothing, and leaves all of it
  pub asks : run.asked ≡ 0
  pub keeps : run.left ≡ input
