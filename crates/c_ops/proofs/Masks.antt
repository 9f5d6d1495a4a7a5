-- Bits that are moved up stay below 2 ^ 32.
use Rattle.std.proofs.Common.{◌≡◌, ℕ, ◌+◌, ◌*◌, ◌^◌, ◌<◌, ◌≤◌, lit<, arith}
use Rattle.std.proofs.lemmas.Nat.{pow-add}
use Rattle.std.proofs.Math.Nat.{pow-le-pow_right, one-le-pow, mul-le-mul_right}

pub moved_fits : (bits first count : ℕ) → bits < 2 ^ count → first + count ≤ 32 → bits * 2 ^ first < 2 ^ 32
moved_fits bits first count below within =
    let whole : 2 ^ (count + first) ≡ 2 ^ count * 2 ^ first = pow-add 2 count first in
    let room : 2 ^ (count + first) ≤ 2 ^ 32 = pow-le-pow_right {n = 2} (lit< tt) {i = count + first} {j = 32} (omega arith) in
    let some : 1 ≤ 2 ^ first = one-le-pow first 2 (lit< tt) in
    let less : (bits + 1) * 2 ^ first ≤ 2 ^ count * 2 ^ first = mul-le-mul_right (2 ^ first) (omega arith) in
    omega arith
