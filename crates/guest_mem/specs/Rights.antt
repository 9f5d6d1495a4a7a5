-- Rights on memory.
use Rattle.std.specs.Prelude.{ℕ}
use Rattle.guest_mem.specs.declared.right.Right.{Right}
use Rattle.guest_mem.specs.declared.right.Right.TheVariants.{Execute, Write, Read}

-- what a right adds to the flags of a segment, as in ELF
abbrev pub flag_of : Right → ℕ
flag_of Execute = 1
flag_of Write = 2
flag_of Read = 4
