-- Calls: how an activation begins, makes its blocks, ends them, and returns.
use Rattle.std.specs.Prelude.{ℕ, zero, suc, ◌+◌, ◌*◌, ◌-◌, ◌==◌, nat_le, if◌then◌else◌, List, [], ◌∷◌, ◌++◌, length, map, take, drop, reverse, replicate, Option, Some, None}
use Rattle.fsc_base.specs.declared.word.Word.{Word}
use Rattle.fsc_base.specs.declared.end.End.TheVariants as end
use Rattle.c_memory.specs.declared.kind.BlockKind.TheVariants as maker
use Rattle.c_memory.specs.Blocks.{Heap, words_of, killed}
use Rattle.c_memory.specs.Access.{offset_of}
use Rattle.c_memory.specs.Addresses.{address_of}
use Rattle.c_memory.specs.Making.{is_fitting, with_words}
use Rattle.c_memory.specs.Storage.{created}
use Rattle.c_ops.specs.Words.{plain}
use Rattle.c_ops.specs.Runs.{Action, Steps, Stops}
use Rattle.fat_code.specs.declared.program.ProgramParts.{ProgramParts}
use Rattle.fat_code.specs.declared.unit.FatEntry.{FatEntry}
use Rattle.fat_code.specs.declared.unit.FatFunction.{FatFunction}
use Rattle.fat_code.specs.States.{Making, Extra, Entry, FatFrame, FatCaller, FatState, Callee, kinds_of, function_at}
use Rattle.fat_code.specs.Operations.{popped}

-- A call, a return, an allocation and the making of a block cost 8: so much besides the cost of 1.
abbrev pub heavy : ℕ
heavy = 7

-- so many activations may be alive
abbrev pub most_activations : ℕ
most_activations = 65536

-- ---- the beginning

-- the first slots are the words that were passed, as many as there are parameters; missing ones and all other slots are 0
abbrev pub slots_of : FatFunction → (arguments : List Word) → List Word
slots_of function arguments =
    let passed = take function.parameters arguments in
    passed ++ replicate (function.slots - length passed) (plain 0)

-- the block of the words behind the parameters of a variadic function, and then the entry blocks
abbrev pub extra_making : FatFunction → (arguments : List Word) → List Making
extra_making function arguments = if function.is_variadic then Extra (drop function.parameters arguments) ∷ [] else []

abbrev pub making_of : ProgramParts → Callee → (arguments : List Word) → List Making
making_of program callee arguments =
    extra_making callee.function arguments
    ++ map (λ (entry : FatEntry). Entry entry.size (kinds_of program callee.unit entry.shape)) callee.function.entries

-- its blocks will have the next numbers
abbrev pub frame_of : ProgramParts → Callee → (arguments : List Word) → Heap → FatFrame
frame_of program callee arguments heap = record {
  unit = callee.unit;
  is_variadic = callee.function.is_variadic;
  ops = callee.function.ops;
  pc = 0;
  slots = slots_of callee.function arguments;
  first = length heap.blocks + 1;
  live = 0;
  making = making_of program callee arguments;
}

-- the activation begins, and the caller waits with the words that are left to it
abbrev pub entered : ProgramParts → Callee → (arguments words : List Word) → FatState → FatState
entered program callee arguments words s = record s {
  frame = frame_of program callee arguments s.heap;
  words = [];
  callers = record { frame = s.frame; words = words } ∷ s.callers;
}

-- the word that is called has to be the address of a function, and there has to be room for one more activation
abbrev pub enters : ProgramParts → (called : Word) → (arguments words : List Word) → FatState → Option Callee → Action FatState
enters program called arguments words s None = Stops (end.Call called.block (offset_of s.heap called))
enters program called arguments words s (Some callee) =
    if nat_le most_activations (length s.callers) then Stops end.Depth else Steps heavy (entered program callee arguments words s)

-- the function whose address a word is
abbrev pub called_by : ProgramParts → Heap → Word → Option Callee
called_by program heap word = if offset_of heap word == 0 then function_at program word.block else None

-- a call with n arguments, the last one first; the called word lies below them
abbrev pub calls : ProgramParts → (n : ℕ) → List Word → FatState → Action FatState
calls program n words s =
    popped (drop n words) (λ called rest. enters program called (reverse (take n words)) rest s (called_by program s.heap called))

-- ---- blocks

-- one more block is alive, and one less to make
abbrev pub with_block : FatState → (rest : List Making) → Heap → FatState
with_block s rest heap = record s { frame = record s.frame { live = s.frame.live + 1; making = rest }; heap = heap }

-- A block that was made, with what stands in it, costs its words besides. One that does not fit ends the run.
abbrev pub makes : (size : ℕ) → (larger : Heap) → (filled : Heap) → FatState → (rest : List Making) → Action FatState
makes size larger filled s rest = if is_fitting larger then Steps (heavy + words_of size) (with_block s rest filled) else Stops end.Blocks

abbrev pub made_for : Making → FatState → (rest : List Making) → Action FatState
made_for (Extra words) s rest =
    let larger = created s.heap (4 * length words) maker.Entry in
    makes (4 * length words) larger (with_words larger (address_of larger (length larger.blocks)) words) s rest
made_for (Entry size kinds) s rest = let larger = created s.heap size maker.Entry in makes size larger larger s rest

-- ---- the end

-- the first of the blocks that are alive ends; the operation stays
abbrev pub ends_block : FatState → FatState
ends_block s = record s {
  frame = record s.frame { first = s.frame.first + 1; live = s.frame.live - 1 };
  heap = killed s.heap s.frame.first;
}

-- the word goes to the caller; there always is one
abbrev pub gives_back : Word → FatState → List FatCaller → Action FatState
gives_back word s [] = Stops end.Abort
gives_back word s (caller ∷ callers) =
    Steps heavy (record s { frame = caller.frame; words = word ∷ caller.words; callers = callers })

-- A return ends the blocks of the activation first, in their order, each in a step; so it comes again until none is alive.
abbrev pub returns : Word → (again behind : FatState) → (live : ℕ) → Action FatState
returns word again behind zero = gives_back word behind behind.callers
returns word again behind (suc live) = Steps 0 (ends_block again)
