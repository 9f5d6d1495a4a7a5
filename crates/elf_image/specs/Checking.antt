-- What functions return that check rows of the table.
use Rattle.std.specs.Prelude.{◌≡◌, ℕ, List, Some, None, Result, Ok, Err}
use Rattle.std.specs.Global.{Vec}
use Rattle.fsc_base.specs.declared.image.Segment.{Segment}
use Rattle.elf_image.specs.declared.fault.ReadElfNo.{ReadElfNo}
use Rattle.elf_image.specs.declared.fault.ReadElfNo.TheVariants.{Bad, NoMemory}
use Rattle.elf_image.specs.Fields.{segments_before}
use Rattle.elf_image.specs.Faults.{Row, first_fault, segment_rows}

-- a refusal is that of the first row that holds
abbrev pub Refuses : List Row → ReadElfNo → Type 0
Refuses rows NoMemory = ⊥
Refuses rows (Bad fault offset) = first_fault rows ≡ Some (Bad fault offset)

-- what a function returns that checks these rows, and allocates nothing
abbrev pub Checks : {A : Type 0} → List Row → Result A ReadElfNo → Type 0
Checks rows (Ok _) = first_fault rows ≡ None
Checks rows (Err refusal) = Refuses rows refusal

-- the same, unless memory ran out
abbrev pub RefusesUnlessFull : List Row → ReadElfNo → Type 0
RefusesUnlessFull rows NoMemory = Unit {0}
RefusesUnlessFull rows (Bad fault offset) = first_fault rows ≡ Some (Bad fault offset)

-- what a function returns that reads the segments of the first so many program headers
abbrev pub ReadsSegments : List ℕ → ℕ → Result (Vec Segment) ReadElfNo → Type 0
ReadsSegments file count (Ok segments) = (first_fault (segment_rows file count) ≡ None) × (segments.items ≡ segments_before file count)
ReadsSegments file count (Err refusal) = RefusesUnlessFull (segment_rows file count) refusal
