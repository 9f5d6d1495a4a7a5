-- The class of a block has cells that are large enough for it.
use Rattle.std.proofs.Common.{◌≡◌, ℕ, zero, suc, ◌*◌, ◌^◌, ◌<◌, ◌≤◌, true, false, Option, Some, None, get_or, refl, ◌∙◌, arith, cond, ltb, inl, inr}
use Rattle.std.proofs.Math.Nat.{pow-suc}
use Rattle.std.specs.Prelude.{nat_le, position, unwrap_or, slice_index}
use Rattle.std.specs.List.{position_or_len}
use Rattle.std.proofs.lemmas.Bool.{cases_lt, lt-ltb, le-leb, leb-true}
use Rattle.std.proofs.lemmas.List.Sums.{fails_before_first, passes_at_first}
use Rattle.c_memory.specs.Blocks.{words_of}
use Rattle.c_memory.specs.Storage.{doubling, classes, cell_bytes, class_of}
use Rattle.cell_store.specs.Pools.{cell_size}

twice : (size class : ℕ) → 2 * size * 2 ^ class ≡ size * 2 ^ suc class
twice size class = rw (pow-suc 2 class) (grind arith)

-- sizes by place
pub doubling_at : (count size class : ℕ) → class < count → get_or (doubling count size) class 0 ≡ size * 2 ^ class
doubling_at zero size class h = absurd (omega arith)
doubling_at (suc count) size zero h = omega arith
doubling_at (suc count) size (suc class) h = doubling_at count (2 * size) class (omega arith) ∙ twice size class

pub classes_at : (class : ℕ) → class < 30 → slice_index classes class ≡ cell_size class
classes_at class h = doubling_at 30 16 class h

some_serves : (size : ℕ) → size < 2 ^ 32 → position_or_len (λ class. nat_le (cell_bytes size) class) classes < 30
some_serves size small =
    elim (cases_lt (position_or_len (λ class. nat_le (cell_bytes size) class) classes) 30) [
      | inl lt ↦ lt
      | inr le ↦ absurd
          (let no : nat_le (cell_bytes size) 8589934592 ≡ false = fails_before_first (λ class. nat_le (cell_bytes size) class) classes 29 0 (omega arith) in
          let yes : nat_le (cell_bytes size) 8589934592 ≡ true = le-leb (cell_bytes size) 8589934592 (omega arith) in
          cc)
    ]

class_place : (n : ℕ) → n < 30 → unwrap_or (cond (ltb n 30) (Some n) None) 0 ≡ n
class_place n h = rw (lt-ltb n 30 h) refl

pub class_is : (size : ℕ) → size < 2 ^ 32 → class_of size ≡ position_or_len (λ class. nat_le (cell_bytes size) class) classes
unfolding class_of
class_is size small = class_place _ (some_serves size small)

pub class_known : (size : ℕ) → size < 2 ^ 32 → class_of size < 30
class_known size small = rw (class_is size small) (some_serves size small)

pub class_large : (size : ℕ) → size < 2 ^ 32 → cell_bytes size ≤ cell_size (class_of size)
class_large size small =
    let here = position_or_len (λ class. nat_le (cell_bytes size) class) classes in
    let yes : nat_le (cell_bytes size) (slice_index classes here) ≡ true = passes_at_first (λ class. nat_le (cell_bytes size) class) classes 0 (some_serves size small) in
    let large : cell_bytes size ≤ slice_index classes here = leb-true _ _ yes in
    rw (class_is size small) (rw (← classes_at here (some_serves size small)) large)

-- what the search among the classes finds
pub class_found : (size n w v : ℕ) (found : Option ℕ) → n ≡ unwrap_or found 0 → found ≡ position (λ class. nat_le (8 * v) class) classes
    → v ≡ w → w ≡ words_of size → n ≡ class_of size
unfolding class_of
class_found size n w v found e at same words = cc

pub found_known : (size n : ℕ) → size < 2 ^ 32 → n ≡ class_of size → n < 30
found_known size n small h = rw h (class_known size small)

pub found_large : (size n : ℕ) → size < 2 ^ 32 → n ≡ class_of size → 8 * words_of size ≤ cell_size n
found_large size n small h = rw h (class_large size small)
