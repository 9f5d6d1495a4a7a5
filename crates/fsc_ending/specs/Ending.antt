-- What the tool says of each ending.
use Rattle.std.specs.Prelude.{ℕ, ◌==◌, if◌then◌else◌, List, [], ◌∷◌, ◌++◌, codes, Bool, Option, Some, None}
use Rattle.std.specs.Fmt.{decimal}
use Rattle.fsc_base.specs.Rule.{code_of}
use Rattle.fsc_base.specs.declared.place.Place.{Place}
use Rattle.fsc_base.specs.declared.rule.Rule.{Rule}
use Rattle.c_link.specs.declared.fault.LinkFault.{LinkFault}
use Rattle.elf_image.specs.declared.fault.ElfFault.{ElfFault}
use Rattle.elf_image.specs.declared.fault.ElfFault.TheVariants as elf
use Rattle.fat_code.specs.declared.fault.UnitFault.{UnitFault}
use Rattle.fat_code.specs.declared.fault.UnitFault.TheVariants as unit
use Rattle.rv_run.specs.declared.stop.TrapKind.{TrapKind}
use Rattle.rv_run.specs.declared.stop.TrapKind.TheVariants as trap
use Rattle.rv_run.specs.declared.stop.Stop.{Stop}
use Rattle.rv_run.specs.declared.stop.Stop.TheVariants as stop
use Rattle.fsc_ending.specs.declared.ending.Ending.{Ending}
use Rattle.fsc_ending.specs.declared.ending.Ending.TheVariants.{Exited, Stopped, OutOfStorage, StepsUsed, CostUsed, Usage, MissingFile, FileFault, ReadFault, WriteFault, NoteFault, Rejected, LinkRefused, BadUnit, BadImage, Trap, NotBuilt, NoMemory}
use Rattle.fsc_ending.specs.declared.ending.StopKind.{StopKind}
use Rattle.fsc_ending.specs.declared.ending.StopKind.TheVariants.{Access, Call, Divide, Abort, ReadOnly}
use Rattle.fsc_ending.specs.declared.ending.Storage.{Storage}
use Rattle.fsc_ending.specs.declared.ending.Storage.TheVariants.{Blocks, Depth}

-- ---- from a run to an ending

-- the kinds of environment call 4000, from 1 to 7; a number that the ending does not name is 0
abbrev pub stopped_as : (kind block offset width : ℕ) → Ending
stopped_as kind block offset width =
    if kind == 1 then Stopped Access block offset width
    else if kind == 2 then Stopped Call block offset 0
    else if kind == 3 then Stopped Divide 0 0 0
    else if kind == 4 then Stopped Abort 0 0 0
    else if kind == 5 then OutOfStorage Blocks
    else if kind == 6 then OutOfStorage Depth
    else Stopped ReadOnly block offset width

-- the ending of a run of at most so many instructions that stopped so
abbrev pub ending_of : (steps : ℕ) → Stop → Ending
ending_of steps (stop.Exit status) = Exited status
ending_of steps (stop.StopCall kind block offset width) = stopped_as kind block offset width
ending_of steps stop.Steps = StepsUsed steps
ending_of steps (stop.Trap kind pc) = Trap kind pc
ending_of steps stop.ReadFault = ReadFault
ending_of steps stop.WriteFault = WriteFault
ending_of steps stop.NoMemory = NoMemory

-- how many marks are told, if the words ask for it: after every run that memory did not end
abbrev pub told_marks : (stats : Bool) → Stop → (marks : ℕ) → Option ℕ
told_marks stats (stop.Exit status) marks = if stats then Some marks else None
told_marks stats (stop.StopCall kind block offset width) marks = if stats then Some marks else None
told_marks stats stop.Steps marks = if stats then Some marks else None
told_marks stats (stop.Trap kind pc) marks = if stats then Some marks else None
told_marks stats stop.ReadFault marks = if stats then Some marks else None
told_marks stats stop.WriteFault marks = if stats then Some marks else None
told_marks stats stop.NoMemory marks = None

-- ---- the exit status of the program

abbrev pub status_of : Ending → ℕ
status_of (Exited status) = status
status_of (Stopped kind block offset width) = 120
status_of (OutOfStorage storage) = 121
status_of (StepsUsed n) = 122
status_of (CostUsed cost) = 115
status_of Usage = 125
status_of (MissingFile name) = 126
status_of (FileFault name) = 126
status_of ReadFault = 127
status_of WriteFault = 127
status_of NoteFault = 127
status_of (Rejected rule place name) = 123
status_of (LinkRefused fault) = 124
status_of (BadUnit name fault offset) = 119
status_of (BadImage fault offset) = 119
status_of (Trap kind pc) = 118
status_of (NotBuilt form) = 116
status_of NoMemory = 117

-- ---- notes

-- a line of notes, which ends with a line feed
abbrev pub line : List ℕ → List ℕ
line text = text ++ 10 ∷ []

-- where an access was
abbrev pub place : (block offset : ℕ) → List ℕ
place block offset = codes " block " ++ (decimal block ++ (codes " offset " ++ decimal offset))

abbrev pub extent : (block offset width : ℕ) → List ℕ
extent block offset width = place block offset ++ (codes " width " ++ decimal width)

abbrev pub stop_text : StopKind → (block offset width : ℕ) → List ℕ
stop_text Access block offset width = codes "stop access" ++ extent block offset width
stop_text Call block offset width = codes "stop call" ++ place block offset
stop_text Divide block offset width = codes "stop divide"
stop_text Abort block offset width = codes "stop abort"
stop_text ReadOnly block offset width = codes "stop readonly" ++ extent block offset width

abbrev pub storage_text : Storage → List ℕ
storage_text Blocks = codes "storage blocks"
storage_text Depth = codes "storage depth"

abbrev pub fault_name : ElfFault → List ℕ
fault_name elf.Short = codes "Short"
fault_name elf.Magic = codes "Magic"
fault_name elf.Machine = codes "Machine"
fault_name elf.Header = codes "Header"
fault_name elf.Segment = codes "Segment"

abbrev pub unit_fault_name : UnitFault → List ℕ
unit_fault_name unit.Short = codes "Short"
unit_fault_name unit.Magic = codes "Magic"
unit_fault_name unit.Version = codes "Version"
unit_fault_name unit.Tag = codes "Tag"
unit_fault_name unit.Index = codes "Index"
unit_fault_name unit.Limit = codes "Limit"
unit_fault_name unit.Height = codes "Height"
unit_fault_name unit.Trailing = codes "Trailing"

abbrev pub trap_name : TrapKind → List ℕ
trap_name trap.Misaligned = codes "Misaligned"
trap_name trap.Fetch = codes "Fetch"
trap_name trap.Load = codes "Load"
trap_name trap.Store = codes "Store"
trap_name trap.Illegal = codes "Illegal"
trap_name trap.Break = codes "Break"
trap_name trap.Call = codes "Call"

-- a text, a space and a number
abbrev pub numbered : List ℕ → ℕ → List ℕ
numbered text n = text ++ (codes " " ++ decimal n)

-- the file, the line in it, and the rule that is broken there
abbrev pub rejection : Rule → Place → (file : List ℕ) → List ℕ
rejection rule at file = file ++ (codes ":" ++ (decimal at.line ++ (codes ": " ++ code_of rule)))

-- what more is told of a fault of linking, where there is something
abbrev pub link_texts : (first second : List ℕ) → List ℕ
link_texts [] [] = []
link_texts first second = codes ": " ++ (first ++ (codes " / " ++ second))

-- the rule of linking that is broken, the name for which it is, and what more is told
abbrev pub link_line : LinkFault → List ℕ
link_line fault = codes "link " ++ (code_of fault.rule ++ (codes " " ++ (fault.name ++ link_texts fault.first fault.second)))

abbrev pub bad_unit_line : (name : List ℕ) → UnitFault → (offset : ℕ) → List ℕ
bad_unit_line name fault offset = numbered (codes "bad unit " ++ (name ++ (codes " " ++ unit_fault_name fault))) offset

-- the line on standard error, where there is one
abbrev pub note_of : Ending → List ℕ
note_of (Exited status) = []
note_of (Stopped kind block offset width) = line (stop_text kind block offset width)
note_of (OutOfStorage storage) = line (storage_text storage)
note_of (StepsUsed n) = line (numbered (codes "steps") n)
note_of (CostUsed cost) = line (numbered (codes "cost") cost)
note_of Usage = line (codes "usage")
note_of (MissingFile name) = line (codes "missing " ++ name)
note_of (FileFault name) = line (codes "fault " ++ name)
note_of ReadFault = line (codes "fault input")
note_of WriteFault = line (codes "fault output")
note_of NoteFault = []
note_of (Rejected rule at name) = line (rejection rule at name)
note_of (LinkRefused fault) = line (link_line fault)
note_of (BadUnit name fault offset) = line (bad_unit_line name fault offset)
note_of (BadImage fault offset) = line (numbered (codes "bad image " ++ fault_name fault) offset)
note_of (Trap kind pc) = line (numbered (codes "trap " ++ trap_name kind) pc)
note_of (NotBuilt form) = line (codes "not built")
note_of NoMemory = line (codes "no memory")

-- the line before it, where the words ask for the marks
abbrev pub marks_line : Option ℕ → List ℕ
marks_line None = []
marks_line (Some marks) = line (numbered (codes "methods") marks)
