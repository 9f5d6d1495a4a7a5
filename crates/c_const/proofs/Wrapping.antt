-- Offsets wrap, so they may wrap before.
use Rattle.std.proofs.Common.{◌≡◌, ℕ, ◌%◌, ◌^◌, Some, refl, ap, arith}
use Rattle.c_tree.specs.Constants.{Value, Whole, Made, At, Other, place_under, pointer_behind, under}

pub placed_wrapped : (bytes : ℕ) (v : Value) → place_under (bytes % 2 ^ 32) v ≡ place_under bytes v
placed_wrapped bytes (Whole n) = refl
placed_wrapped bytes (Made n reach) = ap (λ (k : ℕ). Some (Made k (under reach))) (omega arith)
placed_wrapped bytes (At s n) = ap (λ (k : ℕ). Some (At s k)) (omega arith)

pub behind_wrapped : (bytes : ℕ) (v : Value) → pointer_behind (bytes % 2 ^ 32) v ≡ pointer_behind bytes v
behind_wrapped bytes (Whole n) = refl
behind_wrapped bytes (Made n reach) = ap (λ (k : ℕ). Some (Made k Other)) (omega arith)
behind_wrapped bytes (At s n) = ap (λ (k : ℕ). Some (At s k)) (omega arith)
