-- The next multiple of an alignment is near.
use Rattle.std.proofs.Common.{ℕ, ◌+◌, ◌-◌, ◌*◌, ◌/◌, ◌<◌, ◌≤◌, arith}
use Rattle.std.proofs.Math.Nat.{div-mul-le_self}
use Rattle.std.proofs.lemmas.Nat.{div-add-mod', mod_below}

pub multiple_fits : (align at : ℕ) → (at + (align - 1)) / align * align ≤ at + (align - 1)
multiple_fits align at = div-mul-le_self (at + (align - 1)) align

pub multiple_above : (align at : ℕ) → 0 < align → at ≤ (at + (align - 1)) / align * align
multiple_above align at some =
    let whole = div-add-mod' (at + (align - 1)) align in
    let rest = mod_below (at + (align - 1)) align some in
    omega (arith, whole, rest)
