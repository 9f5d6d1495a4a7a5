-- The file of a sound image is read as that image.
use Rattle.std.proofs.Common.{◌≡◌, ℕ, suc, ◌+◌, ◌-◌, ◌*◌, ◌%◌, ◌^◌, ◌<◌, ◌≤◌, true, false, cond, eqb, ◌&&◌, List, [], ◌∷◌, ◌++◌, length, take, drop, replicate, All, Some, None, Result, Ok, Err, refl, sym, ap, subst, ◌∙◌, inl, inr, arith, append_assoc, add-zero, zero-add}
use Rattle.std.specs.Prelude.{IfOk}
use Rattle.std.specs.Int.{next_multiple_of}
use Rattle.std.specs.List.{list_any}
use Rattle.std.proofs.lemmas.Bool.{cases_Bool, and_left, and_right, le-ltb, lt-ltb, eqb-true, ne_eqb}
use Rattle.std.proofs.lemmas.List.{length-append, length-replicate, append-nil, nil_from_length, take_at, drop_at, get_or_at}
use Rattle.std.proofs.lemmas.List.Elements.{All-nil, All-cons, All-head, All-tail}
use Rattle.std.proofs.lemmas.List.Folds.{list_any_none}
use Rattle.std.proofs.lemmas.List.Sums.{sum_by-append, sum_by-cons}
use Rattle.fsc_base.specs.declared.image.Segment.{Segment}
use Rattle.fsc_base.specs.declared.image.Image.{Image}
use Rattle.fsc_base.specs.Image.{IsSound, IsSoundSegment, Apart, AllApart, total_size}
use Rattle.elf_image.specs.declared.fault.ElfFault.TheVariants.{Segment as OfSegment}
use Rattle.elf_image.specs.declared.fault.ReadElfNo.{ReadElfNo}
use Rattle.elf_image.specs.declared.fault.ReadElfNo.TheVariants.{Bad}
use Rattle.elf_image.specs.declared.file_header.FileHeader.{FileHeader}
use Rattle.elf_image.specs.declared.program_header.ProgramHeader.{ProgramHeader}
use Rattle.elf_image.specs.Fields.{file_header_at, program_header_at, segment_of, is_loaded, loaded_segment, place_of, segments_before}
use Rattle.elf_image.specs.Faults.{first_fault, file_rows, segment_row, segment_rows, size_rows, magic_rows, machine_rows, table_rows, joined, is_overfull, passes_file, passes_memory, has_no_right, overlaps, is_too_much, is_faulty}
use Rattle.elf_image.specs.Reading.{image_at}
use Rattle.elf_image.specs.Writing.{file_header, file_header_of, program_header, program_header_of, start_of, end_of, placed, program_headers, contents, headers_size, elf_of}
use Rattle.elf_image.proofs.FaultLaws.{after_none}
use Rattle.elf_image.proofs.ImageLaws.{IsPastSegments, image_made}
use Rattle.elf_image.proofs.FileLaws.{FitsFile, FitsProgram, length-file_header, length-program_header, headers_length, file_header_again, magic_again, program_header_again}

-- where a segment's header and bytes are in a file, behind `end` other bytes
pub record StandsAt (file : List ℕ) (index end : ℕ) (segment : Segment) : Type 0 where
  pub header : program_header_at file (52 + 32 * index) ≡ program_header_of (start_of end segment.bytes) segment
  pub bytes : take (length segment.bytes) (drop (start_of end segment.bytes) file) ≡ segment.bytes
  pub inside : start_of end segment.bytes + length segment.bytes ≤ length file

-- the same for segments in a row
abbrev Stand : List ℕ → ℕ → ℕ → List Segment → Type 0
Stand file index end [] = Unit {0}
Stand file index end (segment ∷ others) = StandsAt file index end segment × Stand file (suc index) (end_of end segment.bytes) others

-- bytes that are placed behind a front stand where they start
record IsPlaced (file front rest : List ℕ) (end : ℕ) (bytes : List ℕ) : Type 0 where
  pub bytes_are : take (length bytes) (drop (start_of end bytes) file) ≡ bytes
  pub inside : start_of end bytes + length bytes ≤ length file
  pub whole : file ≡ (front ++ placed end bytes) ++ rest
  pub end_is : length (front ++ placed end bytes) ≡ end_of end bytes

is_placed : (file front rest : List ℕ) (end : ℕ) (bytes : List ℕ) → file ≡ front ++ (placed end bytes ++ rest) → length front ≡ end → IsPlaced file front rest end bytes
is_placed file front rest end bytes whole len =
    elim (cases_Bool (eqb (length bytes) 0)) [
      | inl none ↦
          let empty : bytes ≡ [] = nil_from_length bytes (eqb-true _ _ none) in
          record {
            bytes_are = rw empty refl;
            inside = rw empty (omega arith);
            whole = whole ∙ sym (append_assoc front (placed end bytes) rest);
            end_is = rw empty (rw (append-nil front) len);
          }
      | inr some ↦
          let start = next_multiple_of end 16 in
          let zeros : List ℕ = replicate (start - end) 0 in
          let parts : file ≡ (front ++ zeros) ++ (bytes ++ rest) = (rw some at whole) ∙ ap (λ (x : List ℕ). front ++ x) (append_assoc zeros bytes rest) ∙ sym (append_assoc front zeros (bytes ++ rest)) in
          let zeros_len : length zeros ≡ start - end = length-replicate (start - end) 0 in
          let front_len : length (front ++ zeros) ≡ start = omega (arith, length-append front zeros, zeros_len) in
          let behind : drop start file ≡ bytes ++ rest = ap (λ (x : List ℕ). drop start x) parts ∙ drop_at (front ++ zeros) (bytes ++ rest) start front_len in
          let file_len : length file ≡ start + (length bytes + length rest) = omega (arith, ap length parts, length-append (front ++ zeros) (bytes ++ rest), length-append bytes rest, front_len) in
          record {
            bytes_are = rw (some, behind) (take_at bytes rest (length bytes) refl);
            inside = rw some (omega (arith, file_len));
            whole = whole ∙ sym (append_assoc front (placed end bytes) rest);
            end_is = rw some (omega (arith, length-append front (zeros ++ bytes), length-append zeros bytes, zeros_len, len));
          }
    ]

fits_program : (offset : ℕ) (segment : Segment) → IsSoundSegment segment → offset < 2 ^ 32 → segment.size < 2 ^ 32 → FitsProgram (program_header_of offset segment)
fits_program offset segment sound low low_size = record {
  kind = omega arith;
  offset = low;
  address = omega (arith, sound.not_empty, sound.in_reach);
  file_size = omega (arith, sound.roomy, sound.in_reach, sound.not_empty);
  memory_size = omega (arith, low_size);
  flags = omega (arith, sound.usable.1);
}

-- program headers behind one front, and contents behind another
stand : (file before behind front : List ℕ) (index end : ℕ) (segments : List Segment) → file ≡ before ++ (program_headers end segments ++ behind) → length before ≡ 52 + 32 * index → file ≡ front ++ contents end segments → length front ≡ end → length file ≤ 2 ^ 31 → total_size segments ≤ 2 ^ 31 → All IsSoundSegment segments → Stand file index end segments
stand file before behind front index end [] headers before_len bytes front_len short bounded sound = tt
stand file before behind front index end (segment ∷ others) headers before_len bytes front_len short bounded sound =
    let here = is_placed file front (contents (end_of end segment.bytes) others) end segment.bytes bytes front_len in
    let offset = start_of end segment.bytes in
    let header = program_header_of offset segment in
    let rest : List ℕ = program_headers (end_of end segment.bytes) others ++ behind in
    let sum = sum_by-cons (λ (s : Segment). s.size) segment others in
    let fits = fits_program offset segment (All-head IsSoundSegment segment others sound) (omega (arith, here.inside)) (omega (arith, sum)) in
    let parts : file ≡ before ++ (program_header header ++ rest) = headers ∙ ap (λ (x : List ℕ). before ++ x) (append_assoc (program_header header) (program_headers (end_of end segment.bytes) others) behind) in
    let after : file ≡ (before ++ program_header header) ++ rest = parts ∙ sym (append_assoc before (program_header header) rest) in
    let after_len : length (before ++ program_header header) ≡ 52 + 32 * suc index = omega (arith, length-append before (program_header header), length-program_header header) in (
      record {
        header = ap (λ (x : List ℕ). program_header_at x (52 + 32 * index)) parts ∙ program_header_again before header rest (52 + 32 * index) before_len fits;
        bytes = here.bytes_are;
        inside = here.inside;
      },
      stand file (before ++ program_header header) behind (front ++ placed end segment.bytes) (suc index) (end_of end segment.bytes) others after after_len here.whole here.end_is short (omega (arith, sum)) (All-tail IsSoundSegment segment others sound),
    )

-- segments that are apart are so from one that stands behind them
apart_from : (before : List Segment) (segment : Segment) (others : List Segment) → AllApart (before ++ segment ∷ others) → (header : ProgramHeader) → header.address ≡ segment.address → header.memory_size ≡ segment.size → All (λ other. overlaps header other ≡ false) before
apart_from [] segment others apart header same_address same_size = All-nil (λ (other : Segment). overlaps header other ≡ false)
apart_from (first ∷ before) segment others apart header same_address same_size =
    let found : Apart first segment = rw (← get_or_at before segment others segment (length before) refl) (apart.0 (length before) segment (omega (arith, length-append before (segment ∷ others)))) in
    let free : overlaps header first ≡ false = rw (same_address, same_size) (elim found [
      | inl e ↦ and_left _ _ (le-ltb segment.address (first.address + first.size) e)
      | inr e ↦ and_right _ _ (le-ltb first.address (segment.address + segment.size) e)
    ]) in
    All-cons (λ (other : Segment). overlaps header other ≡ false) first before free (apart_from before segment others apart.1 header same_address same_size)

-- the header of a sound segment that stands in the file has no fault
faultless : (file : List ℕ) (before : List Segment) (offset : ℕ) (segment : Segment) (others : List Segment) → IsSoundSegment segment → offset + length segment.bytes ≤ length file → AllApart (before ++ segment ∷ others) → total_size (before ++ segment ∷ others) ≤ 2 ^ 31 → is_faulty (length file) before (program_header_of offset segment) ≡ false
faultless file before offset segment others sound inside apart bounded =
    let header = program_header_of offset segment in
    let size = λ (s : Segment). s.size in
    let sum = sum_by-append size before (segment ∷ others) in
    let sum_more = sum_by-cons size segment others in
    let a : is_overfull header ≡ false = le-ltb segment.size (length segment.bytes) sound.roomy in
    let b : passes_file (length file) header ≡ false = le-ltb (length file) (offset + length segment.bytes) inside in
    let c : passes_memory header ≡ false = le-ltb (2 ^ 32) (segment.address + segment.size) sound.in_reach in
    let d : has_no_right header ≡ false = ne_eqb (segment.flags % 8) 0 (λ e. omega (arith, sound.usable.0, sound.usable.1)) in
    let e : list_any (overlaps header) before ≡ false = list_any_none (overlaps header) before (apart_from before segment others apart header refl refl) in
    let f : is_too_much before header ≡ false = le-ltb (2 ^ 31) (total_size before + segment.size) (omega (arith, sum, sum_more)) in
    rw (a, b, c, d, e, f) refl

-- a sound segment that stands in the file is read as it is
same_segment : (file : List ℕ) (offset : ℕ) (segment : Segment) → IsSoundSegment segment → take (length segment.bytes) (drop offset file) ≡ segment.bytes → segment_of file (program_header_of offset segment) ≡ segment
same_segment file offset segment sound bytes =
    let flags : segment.flags % 8 ≡ segment.flags = omega (arith, sound.usable.1) in
    rw (bytes, flags) refl

is_loaded_of : (offset : ℕ) (segment : Segment) → IsSoundSegment segment → is_loaded (program_header_of offset segment) ≡ true
is_loaded_of offset segment sound = lt-ltb 0 segment.size sound.not_empty

-- a header that is one without fault
loaded_as : (file : List ℕ) (read header : ProgramHeader) (segment : Segment) → read ≡ header → is_loaded header ≡ true → segment_of file header ≡ segment → loaded_segment file read ≡ segment ∷ []
loaded_as file read header segment same loaded is = rw (same, loaded, is) refl

not_refused : (file_size : ℕ) (before : List Segment) (read header : ProgramHeader) (fault : ReadElfNo) → read ≡ header → is_faulty file_size before header ≡ false → cond (is_loaded read && is_faulty file_size before read) (Some fault) None ≡ None
not_refused file_size before read header fault same good =
    let none : (is_loaded read && is_faulty file_size before read) ≡ false = and_right (is_loaded read) (is_faulty file_size before read) (rw same good) in
    rw none refl

-- what has been read of the first program headers, with no fault
record IsReadTo (file : List ℕ) (index : ℕ) (before : List Segment) : Type 0 where
  pub so_far : segments_before file index ≡ before
  pub clear : first_fault (segment_rows file index) ≡ None

read_on : (file : List ℕ) (index end : ℕ) (before : List Segment) (segment : Segment) (others : List Segment) → (file_header_at file).table ≡ 52 → StandsAt file index end segment → IsSoundSegment segment → AllApart (before ++ segment ∷ others) → total_size (before ++ segment ∷ others) ≤ 2 ^ 31 → IsReadTo file index before → IsReadTo file (suc index) (before ++ segment ∷ [])
unfolding segments_before segment_rows
read_on file index end before segment others table stands sound apart bounded read =
    let offset = start_of end segment.bytes in
    let header = program_header_of offset segment in
    let place : place_of file index ≡ 52 + 32 * index = ap (λ (t : ℕ). t + 32 * index) table in
    let found : program_header_at file (place_of file index) ≡ header = ap (λ (p : ℕ). program_header_at file p) place ∙ stands.header in
    let loaded = loaded_as file (program_header_at file (place_of file index)) header segment found (is_loaded_of offset segment sound) (same_segment file offset segment sound stands.bytes) in
    let good = faultless file before offset segment others sound stands.inside apart bounded in
    let clear = not_refused (length file) before (program_header_at file (place_of file index)) header (Bad OfSegment (place_of file index)) found good in
    record {
      so_far = ap (λ (segments : List Segment). segments ++ loaded_segment file (program_header_at file (place_of file index))) read.so_far ∙ ap (λ (segments : List Segment). before ++ segments) loaded;
      clear = after_none (segment_rows file index) (segment_row file (segments_before file index) (place_of file index) ∷ []) read.clear ∙ rw read.so_far clear;
    }

-- the segments that stand in a row are all read
read_all : (file : List ℕ) (index end : ℕ) (before others : List Segment) → (file_header_at file).table ≡ 52 → Stand file index end others → All IsSoundSegment others → AllApart (before ++ others) → total_size (before ++ others) ≤ 2 ^ 31 → IsReadTo file index before → IsReadTo file (index + length others) (before ++ others)
read_all file index end before [] table stands sound apart bounded read = rw (add-zero, append-nil) read
read_all file index end before (segment ∷ others) table stands sound apart bounded read =
    let one = read_on file index end before segment others table stands.0 (All-head IsSoundSegment segment others sound) apart bounded read in
    let moved : (before ++ segment ∷ []) ++ others ≡ before ++ segment ∷ others = append_assoc before (segment ∷ []) others in
    let all = read_all file (suc index) (end_of end segment.bytes) (before ++ segment ∷ []) others table stands.1 (All-tail IsSoundSegment segment others sound) (rw moved apart) (rw moved bounded) one in
    let count : suc index + length others ≡ index + suc (length others) = omega arith in
    rw (← count, ← moved) all

-- a written file, with its file header apart
elf_front : (image : Image) → elf_of image ≡ file_header (file_header_of image.entry (length image.segments)) ++ (program_headers (headers_size (length image.segments)) image.segments ++ contents (headers_size (length image.segments)) image.segments)
elf_front image =
    let count = length image.segments in
    append_assoc (file_header (file_header_of image.entry count)) (program_headers (headers_size count) image.segments) (contents (headers_size count) image.segments)

elf_header : (image : Image) → length image.segments ≤ 64 → image.entry < 2 ^ 32 → file_header_at (elf_of image) ≡ file_header_of image.entry (length image.segments)
elf_header image few entry =
    let count = length image.segments in
    let fits : FitsFile (file_header_of image.entry count) = record {
      kind = omega arith;
      machine = omega arith;
      version = omega arith;
      entry = entry;
      table = omega arith;
      header_size = omega arith;
      count = omega arith;
    } in
    ap file_header_at (elf_front image) ∙ file_header_again (file_header_of image.entry count) (program_headers (headers_size count) image.segments ++ contents (headers_size count) image.segments) fits

elf_long : (image : Image) → headers_size (length image.segments) ≤ length (elf_of image)
elf_long image =
    let count = length image.segments in
    let headers : List ℕ = file_header (file_header_of image.entry count) ++ program_headers (headers_size count) image.segments in
    omega (arith, headers_length (file_header_of image.entry count) (headers_size count) image.segments, length-append headers (contents (headers_size count) image.segments))

size_clear : (file : List ℕ) → 52 ≤ length file → length file ≤ 2 ^ 31 → first_fault (size_rows file) ≡ None
size_clear file long short = rw (le-ltb (length file) 52 long, le-ltb (2 ^ 31) (length file) short) refl

table_clear : (file_size entry count : ℕ) → 0 < count → count ≤ 64 → headers_size count ≤ file_size → first_fault (table_rows file_size (file_header_of entry count)) ≡ None
table_clear file_size entry count some few long =
    rw (ne_eqb count 0 (λ e. omega arith), le-ltb 64 count few, le-ltb file_size (headers_size count) long) refl

-- the file header of a written file has no fault
header_clear : (image : Image) → 0 < length image.segments → length image.segments ≤ 64 → image.entry < 2 ^ 32 → length (elf_of image) ≤ 2 ^ 31 → first_fault (file_rows (elf_of image)) ≡ None
unfolding file_rows
header_clear image some few entry short =
    let file = elf_of image in
    let count = length image.segments in
    let header = file_header_at file in
    let same : file_header_of image.entry count ≡ header = sym (elf_header image few entry) in
    let long = elf_long image in
    let size = size_clear file (omega (arith, long)) short in
    let magic = ap (λ (x : List ℕ). first_fault (magic_rows x)) (elf_front image) ∙ magic_again (file_header_of image.entry count) (program_headers (headers_size count) image.segments ++ contents (headers_size count) image.segments) in
    let machine = subst (λ (h : FileHeader). first_fault (machine_rows h) ≡ None) same refl in
    let table = subst (λ (h : FileHeader). first_fault (table_rows (length file) h) ≡ None) same (table_clear (length file) image.entry count some few long) in
    after_none (size_rows file) (joined (magic_rows file ∷ machine_rows header ∷ table_rows (length file) header ∷ [])) size
    ∙ after_none (magic_rows file) (joined (machine_rows header ∷ table_rows (length file) header ∷ [])) magic
    ∙ after_none (machine_rows header) (joined (table_rows (length file) header ∷ [])) machine
    ∙ after_none (table_rows (length file) header) [] table

-- the segments of a written file stand in it
elf_stands : (image : Image) → IsSound image → length (elf_of image) ≤ 2 ^ 31 → Stand (elf_of image) 0 (headers_size (length image.segments)) image.segments
elf_stands image sound short =
    let count = length image.segments in
    let header : List ℕ = file_header (file_header_of image.entry count) in
    let headers : List ℕ = program_headers (headers_size count) image.segments in
    stand (elf_of image) header (contents (headers_size count) image.segments) (header ++ headers) 0 (headers_size count) image.segments
    (elf_front image) (length-file_header (file_header_of image.entry count)) refl (headers_length (file_header_of image.entry count) (headers_size count) image.segments)
    short sound.bounded sound.each

-- what is written is read again
pub image_again : (image : Image) → IsSound image → image.entry < 2 ^ 32 → length (elf_of image) ≤ 2 ^ 31 → image_at (elf_of image) ≡ Ok image
unfolding segments_before segment_rows
image_again image sound entry short =
    let file = elf_of image in
    let count = length image.segments in
    let header = elf_header image sound.few entry in
    let nothing : IsReadTo file 0 [] = record { so_far = refl; clear = refl } in
    let table = ap (λ (h : FileHeader). h.table) header in
    let all = read_all file 0 (headers_size count) [] image.segments table (elf_stands image sound short) sound.each sound.apart sound.bounded nothing in
    let to_end : IsReadTo file count image.segments = rw zero-add at all in
    let past : IsPastSegments file (file_header_of image.entry count) image.segments = record {
      of_file = sym header;
      header_clear = header_clear image sound.some sound.few entry short;
      segments_clear = to_end.clear;
      so_far = sym to_end.so_far;
    } in
    image_made file (file_header_of image.entry count) image.segments past (rw (ne_eqb count 0 (λ e. omega (arith, sound.some))) refl)

-- the same for what a function wrote
pub written_again : {E : Type 0} → (image : Image) (result : Result (List ℕ) E) → IsSound image → IfOk result (λ file. file ≡ elf_of image) → IfOk result (λ _. image.entry < 2 ^ 32) → IfOk result (λ file. length file ≤ 2 ^ 31 → image_at file ≡ Ok image)
written_again image (Ok file) sound exact entry = λ short.
    let written_short : length (elf_of image) ≤ 2 ^ 31 = rw (← exact) short in
    ap image_at exact ∙ image_again image sound entry written_short
written_again image (Err refusal) sound exact entry = tt
