-- Numbers as bytes, the lowest first.
use Rattle.std.proofs.Common.{◌≡◌, ℕ, zero, suc, ◌+◌, ◌*◌, ◌/◌, ◌%◌, ◌^◌, ◌<◌, List, [], ◌∷◌, length, refl, ap, arith}
use Rattle.std.specs.Int.{w16, w32, from_le_bytes, to_le_bytes}
use Rattle.std.proofs.Math.Arith.{mod-mul}
use Rattle.std.proofs.Math.Nat.{pow-suc}
use Rattle.std.proofs.lemmas.List.Elements.{All-nil, All-cons, All-head, All-tail}
use Rattle.guest_mem.specs.Guest.{little_endian, little_endian_bytes}
use Rattle.guest_mem.specs.Layout.{AreBytes}

abbrev IsByte : ℕ → Type 0
IsByte byte = byte < 256

pow_pos : (n : ℕ) → 0 < 256 ^ n
pow_pos zero = omega arith
pow_pos (suc n) = let e : 256 ^ suc n ≡ 256 ^ n * 256 = pow-suc 256 n in omega (arith, pow_pos n)

pub length-little_endian_bytes : (n value : ℕ) → length (little_endian_bytes n value) ≡ n
length-little_endian_bytes zero value = refl
length-little_endian_bytes (suc n) value = ap suc (length-little_endian_bytes n (value / 256))

pub AreBytes-little_endian_bytes : (n value : ℕ) → AreBytes (little_endian_bytes n value)
AreBytes-little_endian_bytes zero value = All-nil IsByte
AreBytes-little_endian_bytes (suc n) value =
    All-cons IsByte (value % 256) (little_endian_bytes n (value / 256)) (omega arith) (AreBytes-little_endian_bytes n (value / 256))

-- a number of as many bytes
pub little_endian-lt : (bytes : List ℕ) → AreBytes bytes → little_endian bytes < 256 ^ length bytes
little_endian-lt [] h = omega arith
little_endian-lt (byte ∷ bytes) h =
    let e : 256 ^ suc (length bytes) ≡ 256 ^ length bytes * 256 = pow-suc 256 (length bytes) in
    let first : byte < 256 = All-head IsByte byte bytes h in
    omega (arith, little_endian-lt bytes (All-tail IsByte byte bytes h))

-- a number to bytes and back, with what does not fit lost
pub little_endian-little_endian_bytes : (n value : ℕ) → little_endian (little_endian_bytes n value) ≡ value % 256 ^ n
little_endian-little_endian_bytes zero value = omega arith
little_endian-little_endian_bytes (suc n) value =
    let e : 256 ^ suc n ≡ 256 ^ n * 256 = pow-suc 256 n in
    let split = mod-mul value {m = 256 ^ n} {c = 256} (pow_pos n) (omega arith) in
    rw e (omega (arith, little_endian-little_endian_bytes n (value / 256)))

-- bytes to a number and back
pub little_endian_bytes-little_endian : (bytes : List ℕ) → AreBytes bytes → little_endian_bytes (length bytes) (little_endian bytes) ≡ bytes
little_endian_bytes-little_endian [] h = refl
little_endian_bytes-little_endian (byte ∷ bytes) h =
    let first : byte < 256 = All-head IsByte byte bytes h in
    let low : (byte + 256 * little_endian bytes) % 256 ≡ byte = omega arith in
    let rest : (byte + 256 * little_endian bytes) / 256 ≡ little_endian bytes = omega arith in
    rw (low, rest, little_endian_bytes-little_endian bytes (All-tail IsByte byte bytes h)) refl

-- the same as the methods of integers
pub little_endian-half : (low high : ℕ) → little_endian (low ∷ high ∷ []) ≡ from_le_bytes w16 (low ∷ high ∷ [])
little_endian-half low high = omega arith

pub little_endian-word : (a b c d : ℕ) → little_endian (a ∷ b ∷ c ∷ d ∷ []) ≡ from_le_bytes w32 (a ∷ b ∷ c ∷ d ∷ [])
little_endian-word a b c d = omega arith

pub little_endian_bytes-half : (value : ℕ) → little_endian_bytes 2 value ≡ to_le_bytes w16 value
little_endian_bytes-half value = refl

pub little_endian_bytes-word : (value : ℕ) → little_endian_bytes 4 value ≡ to_le_bytes w32 value
little_endian_bytes-word value =
    let third : value / 256 / 256 ≡ value / 65536 = omega arith in
    let fourth : value / 65536 / 256 ≡ value / 16777216 = omega arith in
    rw (third, fourth) refl
