-- The ends of a program's run, as an image tells them by environment call 4000.
use Rattle.std.specs.Prelude.{ℕ, Option, Some, None}
use Rattle.fsc_base.specs.declared.end.End.{End}
use Rattle.fsc_base.specs.declared.end.End.TheVariants.{Exit, Access, ReadOnly, Call, Divide, Abort, Blocks, Depth}
use Rattle.fsc_base.specs.declared.end.StopCall.{StopCall}

abbrev pub stop_call : (kind block offset width : ℕ) → StopCall
stop_call kind block offset width = record { kind = kind; block = block; offset = offset; width = width }

-- the kind of each end, and what it names; what it does not name is 0, and an exit is another call
abbrev pub stop_call_of : End → Option StopCall
stop_call_of (Exit status) = None
stop_call_of (Access block offset width) = Some (stop_call 1 block offset width)
stop_call_of (Call block offset) = Some (stop_call 2 block offset 0)
stop_call_of Divide = Some (stop_call 3 0 0 0)
stop_call_of Abort = Some (stop_call 4 0 0 0)
stop_call_of Blocks = Some (stop_call 5 0 0 0)
stop_call_of Depth = Some (stop_call 6 0 0 0)
stop_call_of (ReadOnly block offset width) = Some (stop_call 7 block offset width)
