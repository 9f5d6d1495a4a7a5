use Rattle.std.proofs.Common.{◌≡◌, take}
use Rattle.fsc_outside.specs.Memory.{files_of}
use Rattle.fsc_outside.proofs.memory_files.table_of.Given as goal

abbrev pub invariant-loop-name : goal.invariant-loop-name
invariant-loop-name l = l.table ≡ files_of (take l.name-index l.pairs)
