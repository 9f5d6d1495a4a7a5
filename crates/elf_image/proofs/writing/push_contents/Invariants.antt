use Rattle.std.proofs.Common.{◌≡◌, ◌++◌, drop, length}
use Rattle.elf_image.specs.Writing.{contents}
use Rattle.elf_image.proofs.writing.push_contents.Given as goal

-- what is written and the others make up the whole
abbrev pub invariant-loop-segment : goal.invariant-loop-segment
invariant-loop-segment l = l.file.items ++ contents (length l.file.items) (drop l.segment-index l.segments) ≡ l.fn.file.items ++ contents (length l.fn.file.items) l.segments
