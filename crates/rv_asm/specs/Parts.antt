-- Numbers of 32 bits in two parts.
use Rattle.std.specs.Prelude.{◌≡◌, ℕ, ◌+◌, ◌-◌, ◌*◌, ◌/◌, ◌%◌, ◌^◌, ◌<◌, ℤ, pos, ◌-ℤ◌}
use Rattle.std.specs.Int.{w32, cast_unsigned}

-- the upper 20 bits, one more where the others count as below 0
abbrev pub high : ℕ → ℤ
high value = pos ((value + 2048) % 2 ^ 32 / 4096)

-- the other 12 bits, with their sign
abbrev pub low : ℕ → ℤ
low value = pos ((value + 2048) % 4096) -ℤ pos 2048

-- an address and both parts of the distance from there
abbrev pub arrival : (from distance : ℕ) → ℕ
arrival from distance = (from + cast_unsigned w32 (high distance) * 4096 + cast_unsigned w32 (low distance)) % 2 ^ 32

-- is the address at this distance
abbrev pub LeapsArrive : Type 0
LeapsArrive = (from to : ℕ) → from < 2 ^ 32 → to < 2 ^ 32 → arrival from ((to + 2 ^ 32 - from) % 2 ^ 32) ≡ to
