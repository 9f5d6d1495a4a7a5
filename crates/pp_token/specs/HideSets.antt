-- Sets of names, as lists without repeats.
use Rattle.std.specs.Prelude.{◌≡◌, ℕ, Bool, true, List, [], ◌∷◌, ◌++◌, if◌then◌else◌}
use Rattle.std.specs.List.{list_any, filter}
use Rattle.std.specs.Str.{bytes_eq}

-- whether the name is one of them
abbrev pub has : List (List ℕ) → List ℕ → Bool
has names name = list_any (λ known. bytes_eq known name) names

-- no name stands there twice
abbrev pub NoRepeats : List (List ℕ) → Type 0
NoRepeats [] = Unit {0}
NoRepeats (name ∷ names) = (has names name ≡ true → ⊥) × NoRepeats names

-- the names and one more, at the end unless it is one of them
abbrev pub with_name : List (List ℕ) → List ℕ → List (List ℕ)
with_name names name = if has names name then names else names ++ name ∷ []

-- the names and each of the others
abbrev pub with_names : List (List ℕ) → List (List ℕ) → List (List ℕ)
with_names names [] = names
with_names names (other ∷ others) = with_names (with_name names other) others

-- those of the names that are among the others too
abbrev pub common : List (List ℕ) → List (List ℕ) → List (List ℕ)
common names others = filter (λ name. has others name) names
