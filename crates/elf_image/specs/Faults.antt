-- The table of faults, in its order.
use Rattle.std.specs.Prelude.{ℕ, zero, suc, ◌+◌, ◌*◌, ◌%◌, ◌^◌, List, [], ◌∷◌, ◌++◌, map, length, slice_index, Option, Some, None, Bool, not, nat_lt, ◌==◌, ◌&&◌, ◌||◌, if◌then◌else◌}
use Rattle.std.specs.List.{list_any, enumerate_from}
use Rattle.fsc_base.specs.declared.image.Segment.{Segment}
use Rattle.fsc_base.specs.Image.{total_size}
use Rattle.elf_image.specs.declared.fault.ElfFault.{ElfFault}
use Rattle.elf_image.specs.declared.fault.ElfFault.TheVariants.{Short, Magic, Machine, Header, Segment as OfSegment}
use Rattle.elf_image.specs.declared.fault.ReadElfNo.{ReadElfNo}
use Rattle.elf_image.specs.declared.fault.ReadElfNo.TheVariants.{Bad}
use Rattle.elf_image.specs.declared.file_header.FileHeader.{FileHeader}
use Rattle.elf_image.specs.declared.program_header.ProgramHeader.{ProgramHeader}
use Rattle.elf_image.specs.Fields.{magic, file_header_at, program_header_at, is_loaded, segments_before, place_of}

-- a fault, whether it is there, and the offset that is told with it
pub record Row : Type 0 where
  pub fault : ElfFault
  pub holds : Bool
  pub offset : ℕ

abbrev pub row : ElfFault → Bool → ℕ → Row
row fault holds offset = record { fault = fault; holds = holds; offset = offset }

-- the fault of the first row that holds
abbrev pub first_fault : List Row → Option ReadElfNo
first_fault [] = None
first_fault (first ∷ rest) = if first.holds then Some (Bad first.fault first.offset) else first_fault rest

-- the file is too short for its header, or too long
abbrev pub size_rows : List ℕ → List Row
size_rows file =
    row Short (nat_lt (length file) 52) (length file)
    ∷ row Header (nat_lt (2 ^ 31) (length file)) 0
    ∷ []

-- a byte at the front is another
abbrev pub magic_rows : List ℕ → List Row
magic_rows file = map (λ byte. row Magic (not (slice_index file byte.0 == byte.1)) byte.0) (enumerate_from 0 magic)

-- no executable, or not for RISC-V
abbrev pub machine_rows : FileHeader → List Row
machine_rows header =
    row Machine (not (header.kind == 2)) 16
    ∷ row Machine (not (header.machine == 243)) 18
    ∷ []

-- another version, not 1 to 64 program headers, program headers of another size, or past the end of the file
abbrev pub table_rows : ℕ → FileHeader → List Row
table_rows file_size header =
    row Header (not (header.version == 1)) 20
    ∷ row Header (header.count == 0 || nat_lt 64 header.count) 44
    ∷ row Header (not (header.header_size == 32)) 42
    ∷ row Header (nat_lt file_size (header.table + 32 * header.count)) 28
    ∷ []

-- more bytes in the file than in memory
abbrev pub is_overfull : ProgramHeader → Bool
is_overfull header = nat_lt header.memory_size header.file_size

-- bytes past the end of the file
abbrev pub passes_file : ℕ → ProgramHeader → Bool
passes_file file_size header = nat_lt file_size (header.offset + header.file_size)

-- memory past the last address
abbrev pub passes_memory : ProgramHeader → Bool
passes_memory header = nat_lt (2 ^ 32) (header.address + header.memory_size)

-- none of the low three flags
abbrev pub has_no_right : ProgramHeader → Bool
has_no_right header = header.flags % 8 == 0

-- one of these
abbrev pub is_unfit : ℕ → ProgramHeader → Bool
is_unfit file_size header = is_overfull header || passes_file file_size header || passes_memory header || has_no_right header

-- an address that the segment has too
abbrev pub overlaps : ProgramHeader → Segment → Bool
overlaps header segment =
    nat_lt header.address (segment.address + segment.size)
    && nat_lt segment.address (header.address + header.memory_size)

-- more memory than an image may have, together with the segments before it
abbrev pub is_too_much : List Segment → ProgramHeader → Bool
is_too_much before header = nat_lt (2 ^ 31) (total_size before + header.memory_size)

-- unfit by itself, or beside the segments before it
abbrev pub is_faulty : ℕ → List Segment → ProgramHeader → Bool
is_faulty file_size before header =
    is_unfit file_size header || list_any (overlaps header) before || is_too_much before header

-- the program header at a place is loaded, and faulty beside the segments before it
abbrev pub segment_row : List ℕ → List Segment → ℕ → Row
segment_row file before place =
    let header = program_header_at file place in
    row OfSegment (is_loaded header && is_faulty (length file) before header) place

-- a row for each of the first so many program headers
unfoldable pub segment_rows : List ℕ → ℕ → List Row
segment_rows file zero = []
segment_rows file (suc index) = segment_rows file index ++ segment_row file (segments_before file index) (place_of file index) ∷ []

-- there is no segment
abbrev pub empty_rows : List Segment → List Row
empty_rows segments = row OfSegment (length segments == 0) 52 ∷ []

-- one after the other
abbrev pub joined : List (List Row) → List Row
joined [] = []
joined (rows ∷ others) = rows ++ joined others

-- the rows of the file header
unfoldable pub file_rows : List ℕ → List Row
file_rows file =
    let header = file_header_at file in
    joined (size_rows file ∷ magic_rows file ∷ machine_rows header ∷ table_rows (length file) header ∷ [])

-- the whole table. The fault of a file is that of the first row that holds.
unfoldable pub table_of : List ℕ → List Row
table_of file =
    let count = (file_header_at file).count in
    joined (file_rows file ∷ segment_rows file count ∷ empty_rows (segments_before file count) ∷ [])
