-- What stands where in a file.
use Rattle.std.specs.Prelude.{ℕ, zero, suc, ◌+◌, ◌*◌, ◌%◌, List, [], ◌∷◌, ◌++◌, take, drop, Bool, nat_lt, ◌==◌, ◌&&◌, if◌then◌else◌}
use Rattle.byteorder.specs.Endian.{little_number}
use Rattle.fsc_base.specs.declared.image.Segment.{Segment}
use Rattle.elf_image.specs.declared.file_header.FileHeader.{FileHeader}
use Rattle.elf_image.specs.declared.program_header.ProgramHeader.{ProgramHeader}

-- the number in two bytes from a place on, the lowest first
unfoldable pub half_at : List ℕ → ℕ → ℕ
half_at file place = little_number 2 (drop place file)

-- the number in four bytes from a place on, the lowest first
unfoldable pub word_at : List ℕ → ℕ → ℕ
word_at file place = little_number 4 (drop place file)

-- what a file begins with: 7f, ELF, 32-bit, lowest byte first, version 1
abbrev pub magic : List ℕ
magic = 127 ∷ 69 ∷ 76 ∷ 70 ∷ 1 ∷ 1 ∷ 1 ∷ []

-- the header at the front of the file
abbrev pub file_header_at : List ℕ → FileHeader
file_header_at file = record {
  kind = half_at file 16;
  machine = half_at file 18;
  version = word_at file 20;
  entry = word_at file 24;
  table = word_at file 28;
  header_size = half_at file 42;
  count = half_at file 44;
}

-- the program header that begins at a place; its word 12 bytes on, the physical address, is not read
abbrev pub program_header_at : List ℕ → ℕ → ProgramHeader
program_header_at file place = record {
  kind = word_at file place;
  offset = word_at file (place + 4);
  address = word_at file (place + 8);
  file_size = word_at file (place + 16);
  memory_size = word_at file (place + 20);
  flags = word_at file (place + 24);
}

-- the segment that a program header describes
abbrev pub segment_of : List ℕ → ProgramHeader → Segment
segment_of file header = record {
  address = header.address;
  size = header.memory_size;
  flags = header.flags % 8;
  bytes = take header.file_size (drop header.offset file);
}

-- it is loaded, and takes memory
abbrev pub is_loaded : ProgramHeader → Bool
is_loaded header = header.kind == 1 && nat_lt 0 header.memory_size

-- the place of the program header of an index
abbrev pub place_of : List ℕ → ℕ → ℕ
place_of file index = (file_header_at file).table + 32 * index

-- its segment, if it is loaded
abbrev pub loaded_segment : List ℕ → ProgramHeader → List Segment
loaded_segment file header = if is_loaded header then segment_of file header ∷ [] else []

-- the segments of the first so many program headers
unfoldable pub segments_before : List ℕ → ℕ → List Segment
segments_before file zero = []
segments_before file (suc index) =
    segments_before file index ++ loaded_segment file (program_header_at file (place_of file index))
