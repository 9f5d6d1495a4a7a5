-- The ending of a meaning that stopped so.
use Rattle.std.specs.Prelude.{ℕ}
use Rattle.fsc_base.specs.declared.end.End.{End}
use Rattle.fsc_base.specs.declared.end.End.TheVariants as end
use Rattle.c_mean.specs.declared.run.Meant.{Meant}
use Rattle.c_mean.specs.declared.run.Meant.TheVariants as meant
use Rattle.fsc_ending.specs.declared.ending.Ending.{Ending}
use Rattle.fsc_ending.specs.declared.ending.Ending.TheVariants.{Exited, Stopped, OutOfStorage, CostUsed, ReadFault, WriteFault, NotBuilt, NoMemory}
use Rattle.fsc_ending.specs.declared.ending.Form.TheVariants.{Text}
use Rattle.fsc_ending.specs.declared.ending.StopKind.TheVariants as kind
use Rattle.fsc_ending.specs.declared.ending.Storage.TheVariants as storage

-- of an end of its own; a number that the end does not name is 0
abbrev pub ending_of_end : End → Ending
ending_of_end (end.Exit status) = Exited status
ending_of_end (end.Access block offset width) = Stopped kind.Access block offset width
ending_of_end (end.ReadOnly block offset width) = Stopped kind.ReadOnly block offset width
ending_of_end (end.Call block offset) = Stopped kind.Call block offset 0
ending_of_end end.Divide = Stopped kind.Divide 0 0 0
ending_of_end end.Abort = Stopped kind.Abort 0 0 0
ending_of_end end.Blocks = OutOfStorage storage.Blocks
ending_of_end end.Depth = OutOfStorage storage.Depth

-- where it was followed up to that cost
abbrev pub ending_of_meant : Meant → (cost : ℕ) → Ending
ending_of_meant (meant.Ended e) cost = ending_of_end e
ending_of_meant meant.Cost cost = CostUsed cost
ending_of_meant meant.ReadFault cost = ReadFault
ending_of_meant meant.WriteFault cost = WriteFault
ending_of_meant meant.NoMemory cost = NoMemory
ending_of_meant meant.Misfit cost = NotBuilt Text
