-- Writing: the one file of an image.
use Rattle.std.specs.Prelude.{ℕ, ◌+◌, ◌-◌, ◌*◌, List, [], ◌∷◌, ◌++◌, length, replicate, ◌==◌, if◌then◌else◌}
use Rattle.std.specs.Int.{next_multiple_of}
use Rattle.std.specs.List.{flat_map}
use Rattle.byteorder.specs.Endian.{little_bytes}
use Rattle.fsc_base.specs.declared.image.Segment.{Segment}
use Rattle.fsc_base.specs.declared.image.Image.{Image}
use Rattle.elf_image.specs.declared.file_header.FileHeader.{FileHeader}
use Rattle.elf_image.specs.declared.program_header.ProgramHeader.{ProgramHeader}
use Rattle.elf_image.specs.Fields.{magic}

-- a number in two bytes, the lowest first
abbrev pub half : ℕ → List ℕ
half n = little_bytes 2 n

-- a number in four bytes, the lowest first
abbrev pub word : ℕ → List ℕ
word n = little_bytes 4 n

abbrev pub halves : List ℕ → List ℕ
halves numbers = flat_map half numbers

abbrev pub words : List ℕ → List ℕ
words numbers = flat_map word numbers

-- an executable for RISC-V whose program headers stand behind this header
abbrev pub file_header_of : ℕ → ℕ → FileHeader
file_header_of entry count = record {
  kind = 2;
  machine = 243;
  version = 1;
  entry = entry;
  table = 52;
  header_size = 32;
  count = count;
}

-- a file header, with no flags and no sections; 52 is its own size
unfoldable pub file_header : FileHeader → List ℕ
file_header header =
    magic
    ++ replicate 9 0
    ++ halves (header.kind ∷ header.machine ∷ [])
    ++ words (header.version ∷ header.entry ∷ header.table ∷ 0 ∷ 0 ∷ [])
    ++ halves (52 ∷ header.header_size ∷ header.count ∷ 0 ∷ 0 ∷ 0 ∷ [])

-- a segment that is loaded, with its bytes from an offset in the file on
abbrev pub program_header_of : ℕ → Segment → ProgramHeader
program_header_of offset segment = record {
  kind = 1;
  offset = offset;
  address = segment.address;
  file_size = length segment.bytes;
  memory_size = segment.size;
  flags = segment.flags;
}

-- a program header: the physical address is the address, and the alignment 16
unfoldable pub program_header : ProgramHeader → List ℕ
program_header header = words (header.kind ∷ header.offset ∷ header.address ∷ header.address ∷ header.file_size ∷ header.memory_size ∷ header.flags ∷ 16 ∷ [])

-- where bytes begin that stand behind `end` others: at the next multiple of 16, or at 0 where there are none
abbrev pub start_of : ℕ → List ℕ → ℕ
start_of end bytes = if length bytes == 0 then 0 else next_multiple_of end 16

-- where they end
abbrev pub end_of : ℕ → List ℕ → ℕ
end_of end bytes = if length bytes == 0 then end else next_multiple_of end 16 + length bytes

-- these bytes, with zeros before them
abbrev pub placed : ℕ → List ℕ → List ℕ
placed end bytes = if length bytes == 0 then [] else replicate (next_multiple_of end 16 - end) 0 ++ bytes

-- a program header for each segment, where the first segment's bytes stand behind `end` others
abbrev pub program_headers : ℕ → List Segment → List ℕ
program_headers end [] = []
program_headers end (segment ∷ others) =
    program_header (program_header_of (start_of end segment.bytes) segment)
    ++ program_headers (end_of end segment.bytes) others

-- the bytes of each segment, the first segment's behind `end` others
abbrev pub contents : ℕ → List Segment → List ℕ
contents end [] = []
contents end (segment ∷ others) = placed end segment.bytes ++ contents (end_of end segment.bytes) others

-- the bytes of the file header and so many program headers
abbrev pub headers_size : ℕ → ℕ
headers_size count = 52 + 32 * count

-- the file of an image
abbrev pub elf_of : Image → List ℕ
elf_of image =
    let count = length image.segments in
    file_header (file_header_of image.entry count)
    ++ program_headers (headers_size count) image.segments
    ++ contents (headers_size count) image.segments
