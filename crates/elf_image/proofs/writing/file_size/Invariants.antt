use Rattle.std.proofs.Common.{◌≡◌, ◌≤◌, ◌+◌, ◌*◌, ◌-◌, drop, length}
use Rattle.fsc_base.specs.Image.{total_size}
use Rattle.elf_image.specs.Writing.{headers_size, contents}
use Rattle.elf_image.proofs.writing.file_size.Given as goal

-- what the segments so far and the others make up; and there is room for the others
abbrev pub invariant-loop-segment : goal.invariant-loop-segment
invariant-loop-segment l = record {
  whole : l.end + length (contents l.end (drop l.segment-index l.segments)) ≡ headers_size (length l.segments) + length (contents (headers_size (length l.segments)) l.segments);
  room : l.end + total_size (drop l.segment-index l.segments) + 15 * (length l.segments - l.segment-index) ≤ headers_size (length l.segments) + total_size l.segments + 15 * length l.segments;
}
