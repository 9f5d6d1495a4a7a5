-- The list of the objects that are alive, by their headers in the memory of a machine.
use Rattle.std.specs.Prelude.{◌≡◌, ℕ, suc, ◌-◌, ◌%◌, ◌<◌, ◌⊎◌, List, [], ◌∷◌, ◌++◌, Option, Some, None, unwrap_or}
use Rattle.fsc_base.specs.declared.word.WordKind.{WordKind}
use Rattle.rv_run.specs.Machine.{State}
use Rattle.block_header.specs.declared.Header.{Header}
use Rattle.block_report.specs.declared.live.Live.{Live}
use Rattle.block_report.specs.declared.live.LiveShape.{LiveShape}
use Rattle.block_report.specs.declared.live.LiveShape.TheVariants.{Undecided, Words}
use Rattle.block_report.specs.Memory.{word_at, header_at, ShapeAt}

-- The first word of a header tells the shape of an object that is alive, or that there is none.
pub data ShapeOf (s : State) (desc : ℕ) : Option LiveShape → Type 0 where
  -- the block is dead, or a function
  none : desc < 2 → ShapeOf s desc None
  undecided : desc ≡ 2 → ShapeOf s desc (Some Undecided)
  -- the address of its shape's descriptor, or one more where it is sealed
  decided : 2 < desc → (kinds : List WordKind) → ShapeAt s (desc - desc % 2) (Some kinds) → ShapeOf s desc (Some (Words kinds))
  -- the number is that of no descriptor
  unknown : 2 < desc → ShapeAt s (desc - desc % 2) None → ShapeOf s desc None

-- how a block is listed
abbrev pub live_of : (block size : ℕ) → LiveShape → Live
live_of block size shape = record { block = block; size = size; shape = shape }

-- a block is added behind the others, where it is an object that is alive
pub data Adds (s : State) (block : ℕ) (header : Header) (old new : List Live) : Type 0 where
  silent : ShapeOf s header.desc None → new ≡ old → Adds s block header old new
  told : (shape : LiveShape) → ShapeOf s header.desc (Some shape) → new ≡ old ++ live_of block header.size shape ∷ [] → Adds s block header old new

-- The list of the objects that are alive among the first blocks, each of which has a header.
pub data Lists (s : State) : (blocks : ℕ) → List Live → Type 0 where
  none_made : Lists s 0 []
  one_more : (blocks : ℕ) (header : Header) (old new : List Live) → Lists s blocks old → header_at s (suc blocks) ≡ Some header
      → Adds s (suc blocks) header old new → Lists s (suc blocks) new

-- how many blocks were made, by the word at an address; none where there is no word
abbrev pub made_at : State → (at : ℕ) → ℕ
made_at s at = unwrap_or (word_at s at) 0

-- The objects that are alive among all blocks that were made, or among those before the first whose header isn't there.
pub record IsReport (s : State) (at : ℕ) (lives : List Live) : Type 0 where
  pub blocks : ℕ
  pub lists : Lists s blocks lives
  pub all : (blocks ≡ made_at s at) ⊎ ((blocks < made_at s at) × (header_at s (suc blocks) ≡ None))
