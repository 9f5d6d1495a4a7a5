use Rattle.std.proofs.Common.{◌≡◌, None, take}
use Rattle.elf_image.specs.Faults.{first_fault, magic_rows}
use Rattle.elf_image.proofs.file_header.check_magic.Given as goal

-- none of the bytes so far is another
abbrev pub invariant-loop-place : goal.invariant-loop-place
invariant-loop-place l = first_fault (take l.place (magic_rows l.file)) ≡ None
