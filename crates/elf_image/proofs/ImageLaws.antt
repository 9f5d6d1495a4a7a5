-- What a file is read as, by the parts of the table.
use Rattle.std.proofs.Common.{◌≡◌, ℕ, List, [], ◌∷◌, Option, Some, None, Result, Ok, Err, ap, subst, ◌∙◌}
use Rattle.std.specs.Prelude.{IfOk}
use Rattle.fsc_base.specs.declared.image.Segment.{Segment}
use Rattle.fsc_base.specs.declared.image.Image.{Image}
use Rattle.fsc_base.specs.Image.{IsSound}
use Rattle.elf_image.specs.declared.fault.ReadElfNo.{ReadElfNo}
use Rattle.elf_image.specs.declared.fault.ReadElfNo.TheVariants.{Bad, NoMemory}
use Rattle.elf_image.specs.declared.file_header.FileHeader.{FileHeader}
use Rattle.elf_image.specs.Fields.{file_header_at, segments_before}
use Rattle.elf_image.specs.Checking.{Refuses, RefusesUnlessFull}
use Rattle.elf_image.specs.Faults.{Row, first_fault, joined, file_rows, segment_rows, empty_rows, table_of}
use Rattle.elf_image.specs.Reading.{image_at, image_of, unless, Gives}
use Rattle.elf_image.proofs.FaultLaws.{after_none, after_some}
use Rattle.elf_image.proofs.Soundness.{image_sound}

-- the parts of the table behind the file header's
abbrev others : List ℕ → List (List Row)
others file = segment_rows file (file_header_at file).count ∷ empty_rows (segments_before file (file_header_at file).count) ∷ []

-- what is known once the program headers are read
pub record IsPastSegments (file : List ℕ) (header : FileHeader) (segments : List Segment) : Type 0 where
  pub of_file : header ≡ file_header_at file
  pub header_clear : first_fault (file_rows file) ≡ None
  pub segments_clear : first_fault (segment_rows file header.count) ≡ None
  pub so_far : segments ≡ segments_before file header.count

-- what is left of the table then
past_segments : (file : List ℕ) (header : FileHeader) (segments : List Segment) → IsPastSegments file header segments → image_at file ≡ unless (first_fault (empty_rows segments)) (record { entry = header.entry; segments = segments })
unfolding image_at table_of
past_segments file header segments past =
    let of_file = past.of_file in
    let so_far = past.so_far in
    let clear = subst (λ (h : FileHeader). first_fault (segment_rows file h.count) ≡ None) of_file past.segments_clear in
    let count = (file_header_at file).count in
    let empty = empty_rows (segments_before file count) in
    rw (so_far, of_file)
    (ap (λ (fault : Option ReadElfNo). unless fault (image_of file))
    (after_none (file_rows file) (joined (others file)) past.header_clear
    ∙ after_none (segment_rows file count) (joined (empty ∷ [])) clear))

-- a fault of the file header
pub header_refused : (file : List ℕ) (refusal : ReadElfNo) → Refuses (file_rows file) refusal → Gives (Err refusal) (image_at file)
unfolding image_at table_of
header_refused file NoMemory refused = tt
header_refused file (Bad fault offset) refused =
    ap (λ (found : Option ReadElfNo). unless found (image_of file)) (after_some (file_rows file) (joined (others file)) (Bad fault offset) refused)

-- a fault of a program header
pub segments_refused : (file : List ℕ) (header : FileHeader) (refusal : ReadElfNo) → header ≡ file_header_at file → first_fault (file_rows file) ≡ None → RefusesUnlessFull (segment_rows file header.count) refusal → Gives (Err refusal) (image_at file)
unfolding image_at table_of
segments_refused file header NoMemory of_file clear refused = tt
segments_refused file header (Bad fault offset) of_file clear refused =
    let count = (file_header_at file).count in
    let empty = empty_rows (segments_before file count) in
    let found = subst (λ (h : FileHeader). first_fault (segment_rows file h.count) ≡ Some (Bad fault offset)) of_file refused in
    ap (λ (found : Option ReadElfNo). unless found (image_of file))
    (after_none (file_rows file) (joined (others file)) clear
    ∙ after_some (segment_rows file count) (joined (empty ∷ [])) (Bad fault offset) found)

-- no segment
pub empty_refused : (file : List ℕ) (header : FileHeader) (segments : List Segment) (refusal : ReadElfNo) → IsPastSegments file header segments → Refuses (empty_rows segments) refusal → Gives (Err refusal) (image_at file)
empty_refused file header segments NoMemory past refused = tt
empty_refused file header segments (Bad fault offset) past refused =
    past_segments file header segments past ∙ ap (λ (found : Option ReadElfNo). unless found (record { entry = header.entry; segments = segments })) refused

-- no fault
pub image_made : (file : List ℕ) (header : FileHeader) (segments : List Segment) → IsPastSegments file header segments → first_fault (empty_rows segments) ≡ None → image_at file ≡ Ok (record { entry = header.entry; segments = segments })
image_made file header segments past passed =
    past_segments file header segments past ∙ ap (λ (found : Option ReadElfNo). unless found (record { entry = header.entry; segments = segments })) passed

-- an image that is read is sound
pub is_found : (file : List ℕ) (result : Result Image ReadElfNo) → Gives result (image_at file) → IfOk result (λ image. IsSound image)
is_found file (Ok image) given = image_sound file image given
is_found file (Err refusal) given = tt
