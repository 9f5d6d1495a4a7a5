-- What each state of a run has: registers, pc and bytes in their ranges, and memory as the image laid it out.
use Rattle.std.specs.Prelude.{◌≡◌, ℕ, ◌^◌, ◌<◌, ◌≤◌, List, length, All}
use Rattle.guest_mem.specs.Layout.{Extent, layout, AllApart, HoldBytes}
use Rattle.rv_run.specs.Machine.{State, value_of}

pub record IsSoundState (laid : List Extent) (s : State) : Type 0 where
  -- x0 to x31, each a word, and x0 zero
  pub registers : length s.registers ≡ 32
  pub words : All (λ value. value < 2 ^ 32) s.registers
  pub zero : value_of s 0 ≡ 0
  pub pc : s.pc < 2 ^ 32
  -- memory holds bytes, and its regions lie apart, where they were laid
  pub bytes : HoldBytes s.memory
  pub apart : AllApart s.memory
  pub layout : layout s.memory ≡ laid
  pub marks : s.marks ≤ s.count
