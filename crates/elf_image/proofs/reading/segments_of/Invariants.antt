use Rattle.std.proofs.Common.{◌≡◌, None}
use Rattle.elf_image.specs.Fields.{segments_before}
use Rattle.elf_image.specs.Faults.{first_fault, segment_rows}
use Rattle.elf_image.proofs.reading.segments_of.Given as goal

-- the program headers so far have no fault, and these are their segments
abbrev pub invariant-loop-index : goal.invariant-loop-index
invariant-loop-index l = record {
  clear : first_fault (segment_rows l.file l.index) ≡ None;
  so_far : l.segments.items ≡ segments_before l.file l.index;
}
