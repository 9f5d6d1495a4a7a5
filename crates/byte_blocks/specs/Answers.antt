-- What the calls that change a heap answer and leave, by cases on the answer.
use Rattle.std.specs.Prelude.{◌≡◌, ℕ, length, Result, Ok, Err}
use Rattle.c_memory.specs.declared.access.CopyNo.{CopyNo}
use Rattle.c_memory.specs.declared.access.CopyNo.TheVariants as no
use Rattle.c_memory.specs.declared.access.WriteNo.{WriteNo}
use Rattle.c_memory.specs.declared.kind.BlockKind.{BlockKind}
use Rattle.c_memory.specs.Blocks.{Heap}
use Rattle.c_memory.specs.Storage.{Fits, created}
use Rattle.byte_blocks.specs.declared.make_no.MakeNo.{MakeNo}
use Rattle.byte_blocks.specs.declared.make_no.MakeNo.TheVariants as make_no

-- A block is made where it fits, under the next number, or the heap stays as it was. Want of memory is tied to nothing.
abbrev pub Makes : Heap → (size : ℕ) → BlockKind → Heap → Result ℕ MakeNo → Type 0
Makes old size kind new (Ok number) = Fits old size kind × (new ≡ created old size kind) × (number ≡ length new.blocks)
Makes old size kind new (Err make_no.Full) = ¬ Fits old size kind × (new ≡ old)
Makes old size kind new (Err make_no.NoMemory) = new ≡ old

-- A write leaves what it is to leave, or it is refused and the heap stays as it was.
abbrev pub Writes : (said : Result Heap WriteNo) → (old new : Heap) → Result (Unit {0}) WriteNo → Type 0
Writes said old new (Ok _) = said ≡ Ok new
Writes said old new (Err refusal) = (said ≡ Err refusal) × (new ≡ old)

-- The same of a copy. Want of memory is tied to nothing.
abbrev pub Copies : (said : Result Heap CopyNo) → (old new : Heap) → Result (Unit {0}) CopyNo → Type 0
Copies said old new (Ok _) = said ≡ Ok new
Copies said old new (Err (no.Outside access)) = (said ≡ Err (no.Outside access)) × (new ≡ old)
Copies said old new (Err (no.ReadOnly access)) = (said ≡ Err (no.ReadOnly access)) × (new ≡ old)
Copies said old new (Err no.NoMemory) = new ≡ old
