-- What the cells of all classes take together.
use Rattle.std.proofs.Common.{◌≡◌, ℕ, zero, suc, ◌+◌, ◌*◌, ◌^◌, ◌<◌, ◌≤◌, List, [], ◌∷◌, length, replicate, refl, sym, ap, arith}
use Rattle.std.proofs.Math.Nat.{pow-suc}
use Rattle.std.specs.Prelude.{slice_index, slice_set}
use Rattle.c_memory.specs.Storage.{bytes_of_cells}

twice : (size class : ℕ) → 2 * size * 2 ^ class ≡ size * 2 ^ suc class
twice size class = rw (pow-suc 2 class) (grind arith)

-- one more cell of a class
pub bytes_more : (counts : List ℕ) (size class : ℕ) → class < length counts
    → bytes_of_cells (slice_set counts class (slice_index counts class + 1)) size ≡ bytes_of_cells counts size + size * 2 ^ class
bytes_more [] size class h = absurd (omega arith)
bytes_more (count ∷ counts) size zero h = omega arith
bytes_more (count ∷ counts) size (suc class) h = omega (arith, bytes_more counts (2 * size) class (omega arith), twice size class)

-- the cells of one class take no more
pub bytes_at : (counts : List ℕ) (size class : ℕ) → class < length counts → slice_index counts class * (size * 2 ^ class) ≤ bytes_of_cells counts size
bytes_at [] size class h = absurd (omega arith)
bytes_at (count ∷ counts) size zero h = omega arith
bytes_at (count ∷ counts) size (suc class) h =
    let rest = bytes_at counts (2 * size) class (omega arith) in
    let same : slice_index counts class * (size * 2 ^ suc class) ≡ slice_index counts class * (2 * size * 2 ^ class) = ap (λ n. slice_index counts class * n) (sym (twice size class)) in
    omega (arith, rest, same)

pub bytes_none : (n size : ℕ) → bytes_of_cells (replicate n 0) size ≡ 0
bytes_none zero size = refl
bytes_none (suc n) size = omega (arith, bytes_none n (2 * size))
