-- Reading program headers one after the other, as a loop does.
use Rattle.std.proofs.Common.{◌≡◌, ℕ, zero, suc, ◌+◌, ◌≤◌, ◌<◌, List, [], ◌∷◌, Some, None, ◌∙◌, inl, inr, arith, add-one}
use Rattle.std.proofs.lemmas.Bool.{cases_eq}
use Rattle.fsc_base.specs.declared.image.Segment.{Segment}
use Rattle.elf_image.specs.declared.fault.ReadElfNo.{ReadElfNo}
use Rattle.elf_image.specs.declared.fault.ReadElfNo.TheVariants.{Bad, NoMemory}
use Rattle.elf_image.specs.Fields.{segments_before, place_of}
use Rattle.elf_image.specs.Checking.{Refuses, RefusesUnlessFull}
use Rattle.elf_image.specs.Faults.{first_fault, segment_row, segment_rows}
use Rattle.elf_image.proofs.FaultLaws.{after_none, after_some}

-- one more program header
pub segment_rows_more : (file : List ℕ) (index : ℕ) → first_fault (segment_rows file index) ≡ None → first_fault (segment_rows file (index + 1)) ≡ first_fault (segment_row file (segments_before file index) (place_of file index) ∷ [])
unfolding segment_rows
segment_rows_more file index none = rw add-one (after_none (segment_rows file index) (segment_row file (segments_before file index) (place_of file index) ∷ []) none)

-- the fault of the first program headers is that of all
fault_stays : (file : List ℕ) (count : ℕ) (index : ℕ) (fault : ReadElfNo) → index ≤ count → first_fault (segment_rows file index) ≡ Some fault → first_fault (segment_rows file count) ≡ Some fault
unfolding segment_rows
fault_stays file zero index fault le some = let e : index ≡ zero = omega arith in rw e at some
fault_stays file (suc count) index fault le some =
    elim (cases_eq index (suc count)) [
      | inl e ↦ rw e at some
      | inr ne ↦ after_some (segment_rows file count) (segment_row file (segments_before file count) (place_of file count) ∷ []) fault (fault_stays file count index fault (omega arith) some)
    ]

-- a faulty program header ends the reading
pub fault_ends : (file : List ℕ) (count index : ℕ) (before : List Segment) (place : ℕ) (refusal : ReadElfNo) → index < count → first_fault (segment_rows file index) ≡ None → before ≡ segments_before file index → place ≡ place_of file index → Refuses (segment_row file before place ∷ []) refusal → RefusesUnlessFull (segment_rows file count) refusal
fault_ends file count index before place NoMemory lt none same_before same_place refused = tt
fault_ends file count index before place (Bad fault offset) lt none same_before same_place refused =
    let row_fault : first_fault (segment_row file (segments_before file index) (place_of file index) ∷ []) ≡ Some (Bad fault offset) = rw (← same_before, ← same_place) refused in
    fault_stays file count (index + 1) (Bad fault offset) (omega arith) (segment_rows_more file index none ∙ row_fault)
