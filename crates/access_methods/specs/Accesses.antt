-- What accesses leave of a store that stands for a heap.
use Rattle.std.specs.Prelude.{◌≡◌, ◌≢◌, ◌⊎◌, ℕ, Result, Ok, Err}
use Rattle.c_memory.specs.declared.access.CopyNo.{CopyNo}
use Rattle.c_memory.specs.declared.access.CopyNo.TheVariants as copy_no
use Rattle.c_memory.specs.declared.access.WriteNo.{WriteNo}
use Rattle.c_memory.specs.Blocks.{Heap}
use Rattle.cell_store.specs.Layouts.{Layouts}
use Rattle.cell_store.specs.Store.{Store, IsLiveIn, header_in, Holds}

-- where the block is a live object it is decided
abbrev pub IsDecidedAt : Store → (block : ℕ) → Type 0
IsDecidedAt store block = IsLiveIn store block → (header_in store block).desc ≢ 2

-- the block is a live object and undecided
pub record IsUndecidedAt (store : Store) (block : ℕ) : Type 0 where
  pub live : IsLiveIn store block
  pub desc : (header_in store block).desc ≡ 2

-- the target's block, where it is a live object, is decided, or both blocks are undecided
abbrev pub IsCopyable : Store → (to from : ℕ) → Type 0
IsCopyable store to from = IsDecidedAt store to ⊎ (IsUndecidedAt store to × IsUndecidedAt store from)

-- a write is answered as it is said: the store then holds the heap that it leaves, or it is refused for the same reason
abbrev pub Writes : (said : Result Heap WriteNo) → Layouts → (new : Store) → Result (Unit {0}) WriteNo → Type 0
Writes (Ok heap) layouts new (Ok done) = Holds new heap layouts
Writes (Ok heap) layouts new (Err refusal) = ⊥
Writes (Err said) layouts new (Ok done) = ⊥
Writes (Err said) layouts new (Err refusal) = refusal ≡ said

-- The same for a copy, which may be refused for want of memory besides.
abbrev pub Copies : (said : Result Heap CopyNo) → Layouts → (new : Store) → Result (Unit {0}) CopyNo → Type 0
Copies said layouts new (Err copy_no.NoMemory) = Unit {0}
Copies (Ok heap) layouts new (Ok done) = Holds new heap layouts
Copies (Ok heap) layouts new (Err refusal) = ⊥
Copies (Err said) layouts new (Ok done) = ⊥
Copies (Err said) layouts new (Err refusal) = refusal ≡ said
