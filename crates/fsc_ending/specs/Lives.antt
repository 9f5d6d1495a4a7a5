-- The lines of the objects that are alive.
use Rattle.std.specs.Prelude.{ℕ, List, [], ◌++◌, codes, map, flat_map, Option, Some, None}
use Rattle.std.specs.Fmt.{decimal}
use Rattle.fsc_base.specs.declared.word.WordKind.{WordKind}
use Rattle.fsc_base.specs.declared.word.WordKind.TheVariants.{Fat, Narrow}
use Rattle.block_report.specs.declared.live.Live.{Live}
use Rattle.block_report.specs.declared.live.LiveShape.{LiveShape}
use Rattle.block_report.specs.declared.live.LiveShape.TheVariants.{Undecided, Words}
use Rattle.fsc_ending.specs.Ending.{line, marks_line}

-- `f` for a fat word, and `n` for a narrow one
abbrev pub letter_of : WordKind → ℕ
letter_of Fat = 102
letter_of Narrow = 110

-- a shape, by a letter for each of its words
abbrev pub shape_text : LiveShape → List ℕ
shape_text Undecided = codes "undecided"
shape_text (Words kinds) = map letter_of kinds

-- the line of an object
abbrev pub live_line : Live → List ℕ
live_line live = codes "block " ++ (decimal live.block ++ (codes " size " ++ (decimal live.size ++ (codes " shape " ++ line (shape_text live.shape)))))

-- the lines of objects, where they are told
abbrev pub lives_lines : Option (List Live) → List ℕ
lives_lines None = []
lives_lines (Some lives) = flat_map live_line lives

-- what stands before the line of an ending: the line of the marks, and those of the objects
abbrev pub front_of : Option ℕ → Option (List Live) → List ℕ
front_of marks lives = marks_line marks ++ lives_lines lives
