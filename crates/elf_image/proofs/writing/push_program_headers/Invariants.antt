use Rattle.std.proofs.Common.{◌≡◌, ◌≤◌, ◌+◌, ◌*◌, ◌-◌, ◌++◌, drop, length}
use Rattle.fsc_base.specs.Image.{total_size}
use Rattle.elf_image.specs.Writing.{headers_size, program_headers}
use Rattle.elf_image.proofs.writing.push_program_headers.Given as goal

-- what is written and the others make up the whole; and there is room for the others
abbrev pub invariant-loop-segment : goal.invariant-loop-segment
invariant-loop-segment l = record {
  whole : l.file.items ++ program_headers l.end (drop l.segment-index l.segments) ≡ l.fn.file.items ++ program_headers (headers_size (length l.segments)) l.segments;
  room : l.end + total_size (drop l.segment-index l.segments) + 15 * (length l.segments - l.segment-index) ≤ headers_size (length l.segments) + total_size l.segments + 15 * length l.segments;
}
