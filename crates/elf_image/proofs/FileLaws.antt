-- What stands where in a written file.
use Rattle.std.proofs.Common.{◌≡◌, ℕ, ◌+◌, ◌*◌, ◌^◌, ◌<◌, List, [], ◌∷◌, ◌++◌, length, drop, None, refl, sym, ap, ◌∙◌, arith}
use Rattle.std.proofs.lemmas.List.{length-append, drop-drop, drop_at}
use Rattle.byteorder.specs.Endian.{little_number}
use Rattle.byteorder.specs.Numbers.{little_number-reads_back}
use Rattle.fsc_base.specs.declared.image.Segment.{Segment}
use Rattle.elf_image.specs.declared.file_header.FileHeader.{FileHeader}
use Rattle.elf_image.specs.declared.program_header.ProgramHeader.{ProgramHeader}
use Rattle.elf_image.specs.Fields.{half_at, word_at, file_header_at, program_header_at}
use Rattle.elf_image.specs.Faults.{first_fault, magic_rows}
use Rattle.elf_image.specs.Writing.{file_header, program_header, program_header_of, start_of, end_of, program_headers, headers_size}

pub length-file_header : (header : FileHeader) → length (file_header header) ≡ 52
unfolding file_header
length-file_header header = refl

pub length-program_header : (header : ProgramHeader) → length (program_header header) ≡ 32
unfolding program_header
length-program_header header = refl

pub length-program_headers : (end : ℕ) (segments : List Segment) → length (program_headers end segments) ≡ 32 * length segments
length-program_headers end [] = refl
length-program_headers end (segment ∷ others) =
    let header = program_header_of (start_of end segment.bytes) segment in
    let one = length-program_header header in
    let more = length-program_headers (end_of end segment.bytes) others in
    omega (arith, length-append (program_header header) (program_headers (end_of end segment.bytes) others))

-- the headers of a file
pub headers_length : (header : FileHeader) (end : ℕ) (segments : List Segment) → length (file_header header ++ program_headers end segments) ≡ headers_size (length segments)
headers_length header end segments =
    omega (arith, length-append (file_header header) (program_headers end segments), length-file_header header, length-program_headers end segments)

-- behind a front, the bytes are those that follow it
drop_past : (front rest : List ℕ) (n k : ℕ) → length front ≡ n → drop (n + k) (front ++ rest) ≡ drop k rest
drop_past front rest n k len = sym (drop-drop k n (front ++ rest)) ∙ ap (λ (bytes : List ℕ). drop k bytes) (drop_at front rest n len)

-- the same for a number
word_past : (front rest : List ℕ) (n k : ℕ) → length front ≡ n → word_at (front ++ rest) (n + k) ≡ word_at rest k
unfolding word_at
word_past front rest n k len = ap (λ (bytes : List ℕ). little_number 4 bytes) (drop_past front rest n k len)

word_past_first : (front rest : List ℕ) (n : ℕ) → length front ≡ n → word_at (front ++ rest) n ≡ word_at rest 0
unfolding word_at
word_past_first front rest n len = ap (λ (bytes : List ℕ). little_number 4 bytes) (drop_at front rest n len)

-- a header with the fields of another
same_file_header : (header : FileHeader) (kind machine version entry table header_size count : ℕ) → kind ≡ header.kind → machine ≡ header.machine → version ≡ header.version → entry ≡ header.entry → table ≡ header.table → header_size ≡ header.header_size → count ≡ header.count
    → (record { kind = kind; machine = machine; version = version; entry = entry; table = table; header_size = header_size; count = count }) ≡ header
same_file_header header kind machine version entry table header_size count e1 e2 e3 e4 e5 e6 e7 = rw (e1, e2, e3, e4, e5, e6, e7) refl

same_program_header : (header : ProgramHeader) (kind offset address file_size memory_size flags : ℕ) → kind ≡ header.kind → offset ≡ header.offset → address ≡ header.address → file_size ≡ header.file_size → memory_size ≡ header.memory_size → flags ≡ header.flags
    → (record { kind = kind; offset = offset; address = address; file_size = file_size; memory_size = memory_size; flags = flags }) ≡ header
same_program_header header kind offset address file_size memory_size flags e1 e2 e3 e4 e5 e6 = rw (e1, e2, e3, e4, e5, e6) refl

-- what fits in the fields of a file header
pub record FitsFile (header : FileHeader) : Type 0 where
  pub kind : header.kind < 256 ^ 2
  pub machine : header.machine < 256 ^ 2
  pub version : header.version < 256 ^ 4
  pub entry : header.entry < 256 ^ 4
  pub table : header.table < 256 ^ 4
  pub header_size : header.header_size < 256 ^ 2
  pub count : header.count < 256 ^ 2

-- a file header that was written is read again
pub file_header_again : (header : FileHeader) (rest : List ℕ) → FitsFile header → file_header_at (file_header header ++ rest) ≡ header
unfolding file_header half_at word_at
file_header_again header rest fits =
    let kind : half_at (file_header header ++ rest) 16 ≡ header.kind = little_number-reads_back 2 header.kind [] fits.kind in
    let machine : half_at (file_header header ++ rest) 18 ≡ header.machine = little_number-reads_back 2 header.machine [] fits.machine in
    let version : word_at (file_header header ++ rest) 20 ≡ header.version = little_number-reads_back 4 header.version [] fits.version in
    let entry : word_at (file_header header ++ rest) 24 ≡ header.entry = little_number-reads_back 4 header.entry [] fits.entry in
    let table : word_at (file_header header ++ rest) 28 ≡ header.table = little_number-reads_back 4 header.table [] fits.table in
    let header_size : half_at (file_header header ++ rest) 42 ≡ header.header_size = little_number-reads_back 2 header.header_size [] fits.header_size in
    let count : half_at (file_header header ++ rest) 44 ≡ header.count = little_number-reads_back 2 header.count [] fits.count in
    same_file_header header _ _ _ _ _ _ _ kind machine version entry table header_size count

-- a file that begins with a file header has the right bytes at its front
pub magic_again : (header : FileHeader) (rest : List ℕ) → first_fault (magic_rows (file_header header ++ rest)) ≡ None
unfolding file_header
magic_again header rest = refl

-- what fits in the fields of a program header
pub record FitsProgram (header : ProgramHeader) : Type 0 where
  pub kind : header.kind < 256 ^ 4
  pub offset : header.offset < 256 ^ 4
  pub address : header.address < 256 ^ 4
  pub file_size : header.file_size < 256 ^ 4
  pub memory_size : header.memory_size < 256 ^ 4
  pub flags : header.flags < 256 ^ 4

-- a program header that was written is read again, wherever it stands
pub program_header_again : (front : List ℕ) (header : ProgramHeader) (rest : List ℕ) (place : ℕ) → length front ≡ place → FitsProgram header → program_header_at (front ++ (program_header header ++ rest)) place ≡ header
unfolding program_header word_at
program_header_again front header rest place len fits =
    let file : List ℕ = front ++ (program_header header ++ rest) in
    let kind : word_at file place ≡ header.kind = word_past_first front (program_header header ++ rest) place len ∙ little_number-reads_back 4 header.kind [] fits.kind in
    let offset : word_at file (place + 4) ≡ header.offset = word_past front (program_header header ++ rest) place 4 len ∙ little_number-reads_back 4 header.offset [] fits.offset in
    let address : word_at file (place + 8) ≡ header.address = word_past front (program_header header ++ rest) place 8 len ∙ little_number-reads_back 4 header.address [] fits.address in
    let file_size : word_at file (place + 16) ≡ header.file_size = word_past front (program_header header ++ rest) place 16 len ∙ little_number-reads_back 4 header.file_size [] fits.file_size in
    let memory_size : word_at file (place + 20) ≡ header.memory_size = word_past front (program_header header ++ rest) place 20 len ∙ little_number-reads_back 4 header.memory_size [] fits.memory_size in
    let flags : word_at file (place + 24) ≡ header.flags = word_past front (program_header header ++ rest) place 24 len ∙ little_number-reads_back 4 header.flags [] fits.flags in
    same_program_header header _ _ _ _ _ _ kind offset address file_size memory_size flags
