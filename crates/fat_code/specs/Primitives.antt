-- What the primitives do.
use Rattle.std.specs.Prelude.{ℕ, ◌+◌, ◌-◌, ◌%◌, ◌^◌, ◌==◌, if◌then◌else◌, List, ◌∷◌, length, Option, Some, None}
use Rattle.fsc_base.specs.declared.word.Word.{Word}
use Rattle.fsc_base.specs.declared.end.End.TheVariants as end
use Rattle.c_memory.specs.declared.kind.BlockKind.TheVariants as maker
use Rattle.c_memory.specs.Blocks.{Block, words_of, killed}
use Rattle.c_memory.specs.Access.{offset_of}
use Rattle.c_memory.specs.Addresses.{address_of}
use Rattle.c_memory.specs.Making.{is_fitting, allocated_at}
use Rattle.c_memory.specs.Storage.{created}
use Rattle.c_ops.specs.declared.primitive.Primitive.{Primitive}
use Rattle.c_ops.specs.declared.primitive.Primitive.TheVariants as primitive
use Rattle.c_ops.specs.Words.{plain}
use Rattle.c_ops.specs.Runs.{Action, Steps, Puts, Takes, Stops}
use Rattle.fat_code.specs.States.{FatState}
use Rattle.fat_code.specs.Operations.{popped, popped_two, goes, changes, copies}
use Rattle.fat_code.specs.Calls.{heavy}

-- ---- bytes

-- the low 8 bits are written, and given
abbrev pub puts : (byte : Word) → List Word → FatState → Action FatState
puts byte words s = Puts (byte.value % 256) (record s { words = plain (byte.value % 256) ∷ words })

-- the byte that was taken; at the end of the input it is -1
abbrev pub taken_word : Option ℕ → Word
taken_word (Some byte) = plain byte
taken_word None = plain (2 ^ 32 - 1)

abbrev pub takes : List Word → FatState → Action FatState
takes words s = Takes (λ (byte : Option ℕ). record s { words = taken_word byte ∷ words })

-- ---- allocated blocks

-- a block of so many bytes, which costs its words besides; one that does not fit is null
abbrev pub allocates : (size : ℕ) → List Word → FatState → Action FatState
allocates size words s =
    let larger = created s.heap size maker.Alloc in
    if is_fitting larger
    then Steps (heavy + words_of size) (record s { words = address_of larger (length larger.blocks) ∷ words; heap = larger })
    else Steps heavy (record s { words = plain 0 ∷ words })

-- a live block that was allocated, at its first byte, is asked for; else the run ends by an access without a width
abbrev pub with_allocated : Word → FatState → Option Block → (Block → Action FatState) → Action FatState
with_allocated at s None act = Stops (end.Access at.block (offset_of s.heap at) 0)
with_allocated at s (Some block) act = act block

-- the block ends; of null nothing does
abbrev pub releases : Word → List Word → FatState → Action FatState
releases at words s =
    if at.value == 0
    then goes s (plain 0 ∷ words)
    else with_allocated at s (allocated_at s.heap at) (λ (block : Block). changes 0 s (plain 0 ∷ words) (killed s.heap at.block))

abbrev pub measures : Word → List Word → FatState → Action FatState
measures at words s = with_allocated at s (allocated_at s.heap at) (λ (block : Block). goes s (plain block.size ∷ words))

-- ---- extra words

-- the address of the block of the extra words, which is the first of the activation's, or null
abbrev pub extra_address : FatState → Word
extra_address s = if s.frame.is_variadic then address_of s.heap s.frame.first else plain 0

-- ---- one clause a primitive; its last argument is found first

abbrev pub performs : Primitive → List Word → FatState → Action FatState
performs primitive.Put words s = popped words (λ byte rest. puts byte rest s)
performs primitive.Get words s = takes words s
performs primitive.Alloc words s = popped words (λ size rest. allocates size.value rest s)
performs primitive.Release words s = popped words (λ at rest. releases at rest s)
performs primitive.Size words s = popped words (λ at rest. measures at rest s)
performs primitive.Copy words s = popped_two words (λ size from rest. popped rest (λ to below. copies s (plain 0 ∷ below) to from size.value))
performs primitive.Exit words s = popped words (λ status rest. Stops (end.Exit (status.value % 256)))
performs primitive.Abort words s = Stops end.Abort
performs primitive.Extra words s = goes s (extra_address s ∷ words)
