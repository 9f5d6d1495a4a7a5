-- How a refused access ends a run.
use Rattle.fsc_base.specs.declared.end.End.{End}
use Rattle.fsc_base.specs.declared.end.End.TheVariants as end
use Rattle.c_memory.specs.declared.access.Outside.{Outside}
use Rattle.c_memory.specs.declared.access.WriteNo.{WriteNo}
use Rattle.c_memory.specs.declared.access.WriteNo.TheVariants as write_no
use Rattle.c_memory.specs.declared.access.CopyNo.{CopyNo}
use Rattle.c_memory.specs.declared.access.CopyNo.TheVariants as copy_no

abbrev pub outside_end : Outside → End
outside_end at = end.Access at.block at.offset at.width

abbrev pub read_only_end : Outside → End
read_only_end at = end.ReadOnly at.block at.offset at.width

abbrev pub write_end : WriteNo → End
write_end (write_no.Outside at) = outside_end at
write_end (write_no.ReadOnly at) = read_only_end at

-- what a copy leaves is never short of memory
abbrev pub copy_end : CopyNo → End
copy_end (copy_no.Outside at) = outside_end at
copy_end (copy_no.ReadOnly at) = read_only_end at
copy_end copy_no.NoMemory = end.Abort
