-- Lists of one name.
use Rattle.std.proofs.Common.{◌≡◌, ℕ, ◌<◌, ◌≤◌, List, [], ◌∷◌, length, get_or, sym, ap, arith}

pub one_name : (names : List (List ℕ)) (file : List ℕ) → 1 ≤ length names → length names < 2 → file ≡ get_or names 0 file → names ≡ file ∷ []
one_name [] file some few is = absurd (omega arith)
one_name (first ∷ []) file some few is = ap (λ (f : List ℕ). f ∷ []) (sym is)
one_name (first ∷ (second ∷ names)) file some few is = absurd (omega arith)
