-- Phases 1 and 2: from the bytes of a file to its characters (C90 5.1.1.2).
use Rattle.std.specs.Prelude.{ℕ, zero, suc, ◌+◌, ◌==◌, ◌&&◌, Bool, List, [], ◌∷◌, ◌++◌, map, Option, Some, None, if◌then◌else◌, not, nat_lt, length, slice_index, ◌-◌}

-- a character, and the physical line that its first byte stands on
pub record Character : Type 0 where
  pub byte : ℕ
  pub line : ℕ

abbrev pub bytes_of : List Character → List ℕ
bytes_of characters = map (λ c. c.byte) characters

abbrev pub lines_of : List Character → List ℕ
lines_of characters = map (λ c. c.line) characters

-- the trigraphs: what the character behind ?? makes (C90 5.2.1.1)
unfoldable pub trigraph_of : ℕ → Option ℕ
trigraph_of c = if c == 61 then Some 35 else (if c == 40 then Some 91 else (if c == 47 then Some 92 else (if c == 41 then Some 93 else (if c == 39 then Some 94 else (if c == 60 then Some 123 else (if c == 33 then Some 124 else (if c == 62 then Some 125 else (if c == 45 then Some 126 else None))))))))

-- a character of phase 1, and how many more bytes than one it takes
abbrev pub or_itself : Option ℕ → ℕ × ℕ
or_itself None = (63, 0)
or_itself (Some c) = (c, 2)

-- the first character: a trigraph, a CR LF as one line end, or a byte
unfoldable pub first : ℕ → List ℕ → ℕ × ℕ
first b [] = (b, 0)
first b (c ∷ []) = if b == 13 && c == 10 then (10, 1) else (b, 0)
first b (c ∷ d ∷ ds) = if b == 63 && c == 63 then or_itself (trigraph_of d) else (if b == 13 && c == 10 then (10, 1) else (b, 0))

-- the line behind a character
abbrev pub line_after : ℕ → ℕ → ℕ
line_after c line = if c == 10 then line + 1 else line

-- phase 1 from this line on; so many bytes, which belong to the character before, are passed over first
abbrev pub phase_1 : ℕ → ℕ → List ℕ → List Character
phase_1 skip line [] = []
phase_1 (suc skip) line (b ∷ bs) = phase_1 skip line bs
phase_1 zero line (b ∷ bs) = record { byte = (first b bs).0; line = line } ∷ phase_1 (first b bs).1 (line_after (first b bs).0 line) bs

-- phase 2: a backslash just before a line end goes with it
abbrev pub phase_2 : List Character → List Character
phase_2 [] = []
phase_2 (c ∷ []) = c ∷ []
phase_2 (c ∷ d ∷ ds) = if c.byte == 92 && d.byte == 10 then phase_2 ds else c ∷ phase_2 (d ∷ ds)

-- the line behind these characters
abbrev pub line_behind : ℕ → List Character → ℕ
line_behind line [] = line
line_behind line (c ∷ cs) = line_behind (line_after c.byte line) cs

-- the line where a text ends: the one behind its last line end
unfoldable pub end_of : List ℕ → ℕ
end_of bytes = line_behind 1 (phase_1 0 1 bytes)

-- whether a last line is there that has something and no line end
unfoldable pub is_open : List ℕ → Bool
is_open bytes = nat_lt 0 (length bytes) && not (slice_index bytes (length bytes - 1) == 10)

-- a last line that has something ends by a line end, if need be one on the line where the text ends
abbrev pub ended : ℕ → List Character → List Character
ended end characters = if is_open (bytes_of characters) then characters ++ record { byte = 10; line = end } ∷ [] else characters

-- the characters that phase 3 reads
unfoldable pub characters_of : List ℕ → List Character
characters_of bytes = ended (end_of bytes) (phase_2 (phase_1 0 1 bytes))
