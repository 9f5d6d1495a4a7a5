-- An image that is read is sound.
use Rattle.std.proofs.Common.{◌≡◌, ℕ, zero, suc, ◌+◌, ◌%◌, ◌^◌, ◌≤◌, Bool, true, false, cond, ltb, eqb, ◌&&◌, ◌||◌, List, [], ◌∷◌, ◌++◌, length, drop, All, Option, Some, None, Ok, refl, subst, inl, inr, arith}
use Rattle.std.specs.List.{list_any}
use Rattle.std.proofs.lemmas.Bool.{cases_Bool, and_cases, and_parts, or_parts, ltb-true, ltb-false, eqb-false}
use Rattle.std.proofs.lemmas.List.{length-take, length-append, append-nil}
use Rattle.std.proofs.lemmas.List.Elements.{All-nil, All-push}
use Rattle.std.proofs.lemmas.List.Sums.{sum_by_push}
use Rattle.fsc_base.specs.declared.image.Segment.{Segment}
use Rattle.fsc_base.specs.declared.image.Image.{Image}
use Rattle.fsc_base.specs.Image.{IsSound, IsSoundSegment, Apart, AllApart, total_size}
use Rattle.elf_image.specs.declared.fault.ElfFault.TheVariants.{Segment as OfSegment}
use Rattle.elf_image.specs.declared.fault.ReadElfNo.{ReadElfNo}
use Rattle.elf_image.specs.declared.fault.ReadElfNo.TheVariants.{Bad}
use Rattle.std.proofs.lemmas.Bool.Decides.{nat_tests}
use Rattle.elf_image.specs.declared.program_header.ProgramHeader.{ProgramHeader}
use Rattle.elf_image.specs.Fields.{file_header_at, program_header_at, segment_of, is_loaded, place_of, segments_before}
use Rattle.elf_image.specs.Faults.{first_fault, file_rows, segment_row, segment_rows, table_of, empty_rows, size_rows, magic_rows, machine_rows, table_rows, joined, is_overfull, passes_file, passes_memory, has_no_right, is_unfit, overlaps, is_too_much, is_faulty}
use Rattle.elf_image.specs.Reading.{image_at, image_of, unless}
use Rattle.elf_image.proofs.FaultLaws.{none_parts}

-- what the segments of a sound image keep, whatever their number
pub record IsSoundSoFar (segments : List Segment) : Type 0 where
  pub each : All IsSoundSegment segments
  pub apart : AllApart segments
  pub bounded : total_size segments ≤ 2 ^ 31

-- a program header that breaks nothing has a sound segment
pub sound_segment : (file : List ℕ) (header : ProgramHeader) → is_loaded header ≡ true → is_unfit (length file) header ≡ false → IsSoundSegment (segment_of file header)
sound_segment file header loaded fit =
    let p = or_parts (is_overfull header || passes_file (length file) header || passes_memory header) (has_no_right header) fit in
    let q = or_parts (is_overfull header || passes_file (length file) header) (passes_memory header) p.0 in
    let r = or_parts (is_overfull header) (passes_file (length file) header) q.0 in
    let takes = ltb-true 0 header.memory_size (and_parts (eqb header.kind 1) (ltb 0 header.memory_size) loaded).1 in
    let room = ltb-false header.memory_size header.file_size r.0 in
    let reach = ltb-false (2 ^ 32) (header.address + header.memory_size) q.1 in
    let right = eqb-false (header.flags % 8) 0 p.1 in
    record {
      not_empty = takes;
      roomy = omega (arith, length-take header.file_size (drop header.offset file));
      usable = (omega arith, omega arith);
      in_reach = reach;
    }

-- where a header shares no address with a segment, they are apart
apart_segments : (header : ProgramHeader) (a b : Segment) → b.address ≡ header.address → b.size ≡ header.memory_size → overlaps header a ≡ false → Apart a b
apart_segments header a b same_address same_size free =
    elim (and_cases (ltb header.address (a.address + a.size)) (ltb a.address (header.address + header.memory_size)) free) [
      | inl e ↦ inl (rw same_address (ltb-false header.address (a.address + a.size) e))
      | inr e ↦ inr (rw (same_address, same_size) (ltb-false a.address (header.address + header.memory_size) e))
    ]

-- one more segment that shares no address with the others
apart_push : (header : ProgramHeader) (segments : List Segment) (b : Segment) → b.address ≡ header.address → b.size ≡ header.memory_size → AllApart segments → list_any (overlaps header) segments ≡ false → AllApart (segments ++ b ∷ [])
apart_push header [] b same_address same_size apart free = (All-nil (Apart b), tt)
apart_push header (a ∷ rest) b same_address same_size apart free =
    let p = or_parts (overlaps header a) (list_any (overlaps header) rest) free in
    (All-push (Apart a) rest b apart.0 (apart_segments header a b same_address same_size p.0), apart_push header rest b same_address same_size apart.1 p.1)

faultless : (loaded faulty : Bool) → (loaded && faulty) ≡ false → loaded ≡ true → faulty ≡ false
faultless loaded faulty none is =
    elim (and_cases loaded faulty none) [
      | inl e ↦ absurd cc
      | inr e ↦ e
    ]

-- a program header that is loaded and not faulty adds a segment to sound ones
sound_push : (file : List ℕ) (before : List Segment) (header : ProgramHeader) → IsSoundSoFar before → is_loaded header ≡ true → is_faulty (length file) before header ≡ false → IsSoundSoFar (before ++ segment_of file header ∷ [])
sound_push file before header sound loaded good =
    let p = or_parts (is_unfit (length file) header || list_any (overlaps header) before) (is_too_much before header) good in
    let q = or_parts (is_unfit (length file) header) (list_any (overlaps header) before) p.0 in
    let most = ltb-false (2 ^ 31) (total_size before + header.memory_size) p.1 in
    let sum = sum_by_push (λ (segment : Segment). segment.size) before (segment_of file header) in
    record {
      each = All-push IsSoundSegment before (segment_of file header) sound.each (sound_segment file header loaded q.0);
      apart = apart_push header before (segment_of file header) refl refl sound.apart q.1;
      bounded = omega (arith, most, sum);
    }

-- one more program header
pub sound_step : (file : List ℕ) (before : List Segment) (header : ProgramHeader) → IsSoundSoFar before → (is_loaded header && is_faulty (length file) before header) ≡ false → IsSoundSoFar (before ++ cond (is_loaded header) (segment_of file header ∷ []) [])
sound_step file before header sound none =
    elim (cases_Bool (is_loaded header)) [
      | inl e ↦ rw e (sound_push file before header sound e (faultless (is_loaded header) (is_faulty (length file) before header) none e))
      | inr e ↦ rw (e, append-nil before) sound
    ]

holds_not : (holds : Bool) (fault : ReadElfNo) → cond holds (Some fault) None ≡ None → holds ≡ false
holds_not true fault none = absurd cc
holds_not false fault none = refl

few_more : (loaded : Bool) (before : List Segment) (segment : Segment) (n : ℕ) → length before ≤ n → length (before ++ cond loaded (segment ∷ []) []) ≤ suc n
few_more true before segment n le = omega (arith, length-append before (segment ∷ []))
few_more false before segment n le = rw (append-nil before) (omega arith)

-- the segments of program headers that have no fault
sound_before : (file : List ℕ) (count : ℕ) → first_fault (segment_rows file count) ≡ None → IsSoundSoFar (segments_before file count) × (length (segments_before file count) ≤ count)
unfolding segment_rows segments_before
sound_before file zero none = (record { each = All-nil IsSoundSegment; apart = tt; bounded = omega arith }, omega arith)
sound_before file (suc index) none =
    let place = place_of file index in
    let header = program_header_at file place in
    let p = none_parts (segment_rows file index) (segment_row file (segments_before file index) place ∷ []) none in
    let before = sound_before file index p.0 in
    let good = holds_not (is_loaded header && is_faulty (length file) (segments_before file index) header) (Bad OfSegment place) p.1 in (
      sound_step file (segments_before file index) header before.0 good,
      few_more (is_loaded header) (segments_before file index) (segment_of file header) index before.1,
    )

-- their memory
pub bounded_before : (file : List ℕ) (count : ℕ) → first_fault (segment_rows file count) ≡ None → total_size (segments_before file count) ≤ 2 ^ 31
bounded_before file count none = (sound_before file count none).0.bounded

unless_ok : (fault : Option ReadElfNo) (made image : Image) → unless fault made ≡ Ok image → (fault ≡ None) × (made ≡ image)
unless_ok None made image ok = (refl, cc)
unless_ok (Some fault) made image ok = absurd cc

count_few : (file : List ℕ) → first_fault (file_rows file) ≡ None → (file_header_at file).count ≤ 64
unfolding file_rows
count_few file none =
    let header = file_header_at file in
    let a = none_parts (size_rows file) (joined (magic_rows file ∷ machine_rows header ∷ table_rows (length file) header ∷ [])) none in
    let b = none_parts (magic_rows file) (joined (machine_rows header ∷ table_rows (length file) header ∷ [])) a.1 in
    let c = none_parts (machine_rows header) (joined (table_rows (length file) header ∷ [])) b.1 in
    let d = none_parts (table_rows (length file) header) [] c.1 in
    grind (arith, nat_tests, d.0)

pub image_sound : (file : List ℕ) (image : Image) → image_at file ≡ Ok image → IsSound image
unfolding image_at table_of
image_sound file image ok =
    let count = (file_header_at file).count in
    let segments = segments_before file count in
    let u = unless_ok (first_fault (table_of file)) (image_of file) image ok in
    let a = none_parts (file_rows file) (joined (segment_rows file count ∷ empty_rows segments ∷ [])) u.0 in
    let b = none_parts (segment_rows file count) (joined (empty_rows segments ∷ [])) a.1 in
    let c = none_parts (empty_rows segments) [] b.1 in
    let sound = sound_before file count b.0 in
    let some = eqb-false (length segments) 0 (holds_not (eqb (length segments) 0) (Bad OfSegment 52) c.0) in
    let few = count_few file a.0 in
    subst IsSound u.1 (record {
      some = omega arith;
      few = omega (arith, sound.1, few);
      each = sound.0.each;
      apart = sound.0.apart;
      bounded = sound.0.bounded;
    })
