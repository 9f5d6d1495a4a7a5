-- Why the reading of a unit ends: a line that is read counts more than all lines of the file that it may include.
use Rattle.std.specs.Prelude.{ℕ, ◌+◌, ◌-◌, ◌*◌, ◌^◌, List, sum_by, vec_len}
use Rattle.cpp_text.specs.declared.source.Source.{Source}

-- what is left of a file at that depth with so many tokens
unfoldable pub part : ℕ → ℕ → ℕ
part depth tokens = (1 + tokens) * (2 ^ 65) ^ (64 - depth)

-- what is left of an open file
abbrev pub part_of : Source → ℕ
part_of source = part source.depth (vec_len source.rest)

-- what is left of all open files: those that include one another, and the one that is read
abbrev pub left_of : List Source → Source → ℕ
left_of including current = sum_by part_of including + part_of current
