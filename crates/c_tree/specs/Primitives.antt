-- What the primitives do.
use Rattle.std.specs.Prelude.{ℕ, ◌-◌, ◌%◌, ◌^◌, ◌==◌, if◌then◌else◌, List, ◌∷◌, length, Option, Some, None}
use Rattle.fsc_base.specs.declared.word.Word.{Word}
use Rattle.fsc_base.specs.declared.end.End.TheVariants as end
use Rattle.c_memory.specs.declared.kind.BlockKind.TheVariants as maker
use Rattle.c_memory.specs.Blocks.{Block, words_of, killed}
use Rattle.c_memory.specs.Addresses.{address_of}
use Rattle.c_memory.specs.Access.{offset_of}
use Rattle.c_memory.specs.Making.{is_fitting, allocated_at}
use Rattle.c_memory.specs.Storage.{created}
use Rattle.c_ops.specs.declared.primitive.Primitive.{Primitive}
use Rattle.c_ops.specs.declared.primitive.Primitive.TheVariants as primitive
use Rattle.c_ops.specs.Words.{plain}
use Rattle.c_ops.specs.Runs.{Action, Takes, Stops}
use Rattle.c_ops.specs.Runs as run
use Rattle.c_tree.specs.Rows.{Todo}
use Rattle.c_tree.specs.States.{State, steps, changes, zero_word}
use Rattle.c_tree.specs.Accesses.{copies}

-- ---- bytes

-- the low 8 bits are written, and given
abbrev pub puts : (c : Word) → Todo → List Word → State → Action State
puts c rest words s = run.Puts (c.value % 256) (record s { todo = rest; words = plain (c.value % 256) ∷ words })

-- the byte that was taken; at the end of the input it is -1
abbrev pub taken : Option ℕ → Word
taken (Some byte) = plain byte
taken None = plain (2 ^ 32 - 1)

abbrev pub takes : Todo → List Word → State → Action State
takes rest words s = Takes (λ (byte : Option ℕ). record s { todo = rest; words = taken byte ∷ words })

-- ---- allocated blocks

-- a block of so many bytes is made, at the cost of its words besides the step; one that does not fit is null
abbrev pub allocates : (size : ℕ) → Todo → List Word → State → Action State
allocates size rest words s =
    let larger = created s.heap size maker.Alloc in
    if is_fitting larger
    then changes (words_of size) s rest (address_of larger (length larger.blocks) ∷ words) larger
    else steps s rest (zero_word ∷ words)

-- a block that was allocated and whose first byte the word names is asked for; else the run ends by an access without a width
abbrev pub with_allocated : State → (at : Word) → Option Block → (Block → Action State) → Action State
with_allocated s at None act = Stops (end.Access at.block (offset_of s.heap at) 0)
with_allocated s at (Some block) act = act block

-- of null nothing happens
abbrev pub releases : (at : Word) → Todo → List Word → State → Action State
releases at rest words s =
    if at.value == 0
    then steps s rest (zero_word ∷ words)
    else with_allocated s at (allocated_at s.heap at) (λ (block : Block). changes 0 s rest (zero_word ∷ words) (killed s.heap at.block))

abbrev pub measures : (at : Word) → Todo → List Word → State → Action State
measures at rest words s =
    with_allocated s at (allocated_at s.heap at) (λ (block : Block). steps s rest (plain block.size ∷ words))

-- ---- one clause a primitive; its last argument is found first

abbrev pub performs : Primitive → Todo → List Word → State → Action State
performs primitive.Put rest (c ∷ words) s = puts c rest words s
performs primitive.Get rest words s = takes rest words s
performs primitive.Alloc rest (size ∷ words) s = allocates size.value rest words s
performs primitive.Release rest (at ∷ words) s = releases at rest words s
performs primitive.Size rest (at ∷ words) s = measures at rest words s
performs primitive.Copy rest (size ∷ (from ∷ (to ∷ words))) s = copies to from size.value rest (zero_word ∷ words) s
performs primitive.Exit rest (status ∷ words) s = Stops (end.Exit (status.value % 256))
performs primitive.Abort rest words s = Stops end.Abort
performs primitive.Extra rest words s = steps s rest (address_of s.heap s.frame.extra ∷ words)
-- never: too few words
performs _ rest words s = steps s rest words
