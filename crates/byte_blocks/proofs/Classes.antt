-- Classes of cells by their places, and the bytes of all cells when one class has more of them.
use Rattle.std.proofs.Common.{Bool, Option, Some, None, nat_le, ◌≡◌, ℕ, zero, suc, ◌+◌, ◌*◌, ◌^◌, ◌<◌, List, [], ◌∷◌, length, get_or, refl, ◌∙◌, arith}
use Rattle.std.proofs.Math.ListN.{set}
use Rattle.std.proofs.Math.Nat.{pow-suc}
use Rattle.std.specs.List.{position}
use Rattle.std.specs.Option.{unwrap_or}
use Rattle.std.proofs.lemmas.List.Quantifiers.{position-Some}
use Rattle.c_memory.specs.Storage.{bytes_of_cells, cell_bytes, class_of, classes, doubling}

-- the size of a class
pub get_or-doubling : (n size class : ℕ) → class < n → get_or (doubling n size) class 0 ≡ size * 2 ^ class
get_or-doubling zero size class h = absurd (omega arith)
get_or-doubling (suc n) size zero h = omega arith
get_or-doubling (suc n) size (suc class) h =
    let e : 2 ^ suc class ≡ 2 ^ class * 2 = pow-suc 2 class in
    get_or-doubling n (2 * size) class (omega arith) ∙ (rw e (omega arith))

-- one class has another number of cells
pub bytes_of_cells-set : (counts : List ℕ) (size class count : ℕ) → class < length counts
    → bytes_of_cells (set counts class count) size + size * 2 ^ class * get_or counts class 0 ≡ bytes_of_cells counts size + size * 2 ^ class * count
bytes_of_cells-set [] size class count h = absurd (omega arith)
bytes_of_cells-set (first ∷ counts) size zero count h = omega arith
bytes_of_cells-set (first ∷ counts) size (suc class) count h =
    let e : 2 ^ suc class ≡ 2 ^ class * 2 = pow-suc 2 class in
    let rest = bytes_of_cells-set counts (2 * size) class count (omega arith) in
    rw e (omega (arith, rest))

-- one cell more
pub bytes_of_cells-one_more : (counts : List ℕ) (size class : ℕ) → class < length counts
    → bytes_of_cells (set counts class (get_or counts class 0 + 1)) size ≡ bytes_of_cells counts size + size * 2 ^ class
bytes_of_cells-one_more counts size class h =
    let e = bytes_of_cells-set counts size class (get_or counts class 0 + 1) h in
    let product : size * 2 ^ class * (get_or counts class 0 + 1) ≡ size * 2 ^ class * get_or counts class 0 + size * 2 ^ class = omega arith in
    omega arith

-- the class of a block is one
in_list : (p : ℕ → Bool) (xs : List ℕ) (at : Option ℕ) → position p xs ≡ at → 0 < length xs → unwrap_or at 0 < length xs
in_list p xs None e h = h
in_list p xs (Some place) e h = (position-Some p xs place 0 e).0

pub class_of-lt : (size : ℕ) → class_of size < 30
unfolding class_of
class_of-lt size = in_list (λ class. nat_le (cell_bytes size) class) classes _ refl (omega arith)
