-- Phases 1 and 2 character by character.
use Rattle.std.specs.Prelude.{ℕ, ◌==◌, List, [], ◌∷◌, ◌++◌, drop, Option, Some, None, if◌then◌else◌}
use Rattle.pp_token.specs.Characters.{Character, first, phase_1, phase_2, line_behind, bytes_of, lines_of}

-- the first character of phase 1, and the bytes behind it
unfoldable pub first_at : List ℕ → Option (ℕ × List ℕ)
first_at [] = None
first_at (b ∷ bs) = Some ((first b bs).0, drop (first b bs).1 bs)

abbrev pub behind_line_end : Option (ℕ × List ℕ) → Option (List ℕ)
behind_line_end None = None
behind_line_end (Some found) = if found.0 == 10 then Some found.1 else None

-- the bytes behind the line end that goes with this character
unfoldable pub splice_at : ℕ → List ℕ → Option (List ℕ)
splice_at c behind = if c == 92 then behind_line_end (first_at behind) else None

-- the characters of the bytes from this line on
unfoldable pub left : ℕ → List ℕ → List Character
left line bytes = phase_2 (phase_1 0 line bytes)

-- the line where they end
unfoldable pub ends : ℕ → List ℕ → ℕ
ends line bytes = line_behind line (phase_1 0 line bytes)

-- what was made and what is left, together
abbrev pub all_bytes : List ℕ → ℕ → List ℕ → List ℕ
all_bytes made line bytes = made ++ bytes_of (left line bytes)

abbrev pub all_lines : List ℕ → ℕ → List ℕ → List ℕ
all_lines made line bytes = made ++ lines_of (left line bytes)
