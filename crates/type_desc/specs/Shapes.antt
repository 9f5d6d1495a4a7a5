-- Shapes by the numbers of their descriptors: a list of pairs, in the order in which they were added.
use Rattle.std.specs.Prelude.{◌≡◌, ◌≢◌, ℕ, List, [], ◌∷◌, ◌++◌, Option, Some, None, ◌==◌}
use Rattle.std.specs.Map.{lookup}
use Rattle.fsc_base.specs.declared.word.WordKind.{WordKind}

-- the shape of the first pair that has a number
abbrev pub shape_of : List (ℕ × List WordKind) → (desc : ℕ) → Option (List WordKind)
shape_of pairs desc = lookup (λ number. desc == number) pairs

-- a shape that was added is found
abbrev pub FindsAdded : Type 0
FindsAdded = (pairs : List (ℕ × List WordKind)) (desc : ℕ) (kinds : List WordKind) → shape_of pairs desc ≡ None
    → shape_of (pairs ++ (desc, kinds) ∷ []) desc ≡ Some kinds

-- another number gives what it gave
abbrev pub KeepsOthers : Type 0
KeepsOthers = (pairs : List (ℕ × List WordKind)) (desc other : ℕ) (kinds : List WordKind) → other ≢ desc
    → shape_of (pairs ++ (desc, kinds) ∷ []) other ≡ shape_of pairs other
