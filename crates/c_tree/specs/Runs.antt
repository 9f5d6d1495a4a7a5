-- Whole runs of a program: what it has written by a cost, what is left of its input, its memory, and its end.
use Rattle.std.specs.Prelude.{ℕ, List, Option}
use Rattle.fsc_base.specs.declared.end.End.{End}
use Rattle.c_memory.specs.Blocks.{Heap}
use Rattle.c_ops.specs.Runs as run
use Rattle.c_tree.specs.States.{Program, State}
use Rattle.c_tree.specs.Meaning.{action_of}

-- the run from a state on, as far as it comes at a cost
abbrev pub At : Program → State → (input : List ℕ) → (cost : ℕ) → run.At State
At p start input cost = run.run_of (action_of p) cost start input

-- the bytes that it wrote
abbrev pub Out : Program → State → (input : List ℕ) → (cost : ℕ) → List ℕ
Out p start input cost = (At p start input cost).written

-- what is left of the input
abbrev pub Left : Program → State → (input : List ℕ) → (cost : ℕ) → List ℕ
Left p start input cost = (At p start input cost).left

-- memory
abbrev pub HeapAt : Program → State → (input : List ℕ) → (cost : ℕ) → Heap
HeapAt p start input cost = (At p start input cost).state.heap

-- the end, where it has come
abbrev pub EndAt : Program → State → (input : List ℕ) → (cost : ℕ) → Option End
EndAt p start input cost = (At p start input cost).end
