-- Lists of bytes as numbers, and lists that are changed in the middle.
use Rattle.std.specs.Prelude.{ℕ, zero, suc, ◌+◌, ◌*◌, ◌/◌, ◌%◌, List, [], ◌∷◌, ◌++◌, length, take, drop}

-- the number that bytes spell, the lowest byte first; no bytes spell 0
abbrev pub little_endian : List ℕ → ℕ
little_endian [] = 0
little_endian (byte ∷ bytes) = byte + 256 * little_endian bytes

-- the n lowest bytes of a number, the lowest first
abbrev pub little_endian_bytes : (n value : ℕ) → List ℕ
little_endian_bytes zero value = []
little_endian_bytes (suc n) value = value % 256 ∷ little_endian_bytes n (value / 256)

-- a list with these items in it from a place on
abbrev pub overwritten : {T : Type 0} → List T → (place : ℕ) → List T → List T
overwritten all place items = take place all ++ (items ++ drop (place + length items) all)
