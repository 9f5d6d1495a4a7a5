-- What a creation and the end of a life do to a store.
use Rattle.std.specs.Prelude.{◌≡◌, ℕ, zero, suc, ◌+◌, ◌*◌, ◌-◌, ◌/◌, ◌^◌, ◌<◌, ◌≤◌, ◌==◌, ◌⊎◌, if◌then◌else◌, false, not, List, [], ◌∷◌, ◌++◌, length, slice_set, slice_index_or}
use Rattle.block_header.specs.declared.Header.{Header}
use Rattle.block_header.specs.Headers.{header_at}
use Rattle.c_memory.specs.declared.kind.BlockKind.TheVariants as kind
use Rattle.c_memory.specs.Blocks.{Block, Heap, words_of}
use Rattle.c_memory.specs.Storage.{created, next_base, FitsIn}
use Rattle.cell_store.specs.StandsFor.{HeaderWords}
use Rattle.cell_store.specs.Store.{Store, header_in, cell_place, IsMade, IsLiveIn}

-- ---- what the headers tell

-- a header tells a block's size and base, whether it is a function, and whether it is alive
abbrev pub told_by : Header → Block
told_by header = record {
  size = header.size;
  base = header.base;
  kind = if header.desc == 1 then kind.Function else kind.Alloc;
  is_live = not (header.desc == 0);
  is_sealed = false;
  bytes = [];
  bases = [];
}

-- the first n headers
unfoldable pub told_in : (words : List ℕ) → (n : ℕ) → List Block
told_in words zero = []
told_in words (suc n) = told_in words n ++ told_by (header_at words (suc n)) ∷ []

-- a heap of what a store tells of one: of its blocks all but the bytes and bases, and the greatest numbers
abbrev pub told : Store → Heap
told store = record { blocks = told_in store.words store.made; greatest = store.greatest }

-- ---- creation

-- A creation fits a store: what is stored fits its region, and the next virtual base is within reach. What the block is to
-- be counts for nothing here.
abbrev pub StoreFits : Store → (size : ℕ) → Type 0
StoreFits store size = FitsIn (4 * length store.words) (told store) size kind.Alloc

-- a cell lies apart from the cell of a block
abbrev pub LiesApart : (cell words : ℕ) → HeaderWords → Type 0
LiesApart cell words header = (cell + 4 * words ≤ header.cell) ⊎ (header.cell + 8 * words_of header.size ≤ cell)

-- The store after a creation: its new header, whose cell lies behind all headers and apart from all cells of live objects
-- and begins with zero words. Headers and cells that were there stay.
pub record Makes (old : Store) (size desc block : ℕ) (new : Store) : Type 0 where
  pub number : block ≡ suc old.made
  pub made : new.made ≡ block
  pub small : size < 2 ^ 32
  pub region : length new.words ≡ length old.words
  pub desc_is : (header_in new block).desc ≡ desc
  pub size_is : (header_in new block).size ≡ size
  pub base_is : (header_in new block).base ≡ next_base (told old)
  pub headers : (b : ℕ) → IsMade old b → header_in new b ≡ header_in old b
  pub aligned : (header_in new block).cell ≡ 4 * ((header_in new block).cell / 4)
  pub behind : 16 * new.made ≤ (header_in new block).cell
  pub within : (header_in new block).cell + 8 * words_of size ≤ 4 * length new.words
  pub apart : (b : ℕ) → IsLiveIn old b → LiesApart (header_in new block).cell (2 * words_of size) (header_in old b)
  pub others_behind : (b : ℕ) → IsLiveIn old b → 16 * new.made ≤ (header_in old b).cell
  pub cleared : (i : ℕ) → i < 2 * words_of size → slice_index_or new.words (cell_place new block i) 0 ≡ 0
  pub cells : (b i : ℕ) → IsLiveIn old b → i < 2 * words_of (header_in old b).size →
      slice_index_or new.words (cell_place old b i) 0 ≡ slice_index_or old.words (cell_place old b i) 0
  pub greatest : new.greatest ≡ (created (told old) size kind.Alloc).greatest

-- ---- the end of a life

-- the store with descriptor 0 and no cell in a block's header
abbrev pub without_cell : Store → (block : ℕ) → Store
without_cell store block = record store { words = slice_set (slice_set store.words (4 * (block - 1)) 0) (4 * (block - 1) + 3) 0 }

-- ---- words of a new block

-- so many words from one on are zero; all others stay
pub record Clears (old : List ℕ) (from count : ℕ) (new : List ℕ) : Type 0 where
  pub length_is : length new ≡ length old
  pub zero_in : (i : ℕ) → i < count → slice_index_or new (from + i) 0 ≡ 0
  pub others : (i : ℕ) → (i < from) ⊎ (from + count ≤ i) → slice_index_or new i 0 ≡ slice_index_or old i 0

-- A block has this header and zero words in its cell. The headers of blocks before it stay, and so do all words behind its
-- header that aren't its cell's.
pub record Puts (old : List ℕ) (block : ℕ) (header : Header) (new : List ℕ) : Type 0 where
  pub length_is : length new ≡ length old
  pub header_is : header_at new block ≡ header
  pub headers : (b : ℕ) → 1 ≤ b → b < block → header_at new b ≡ header_at old b
  pub zero_in : (i : ℕ) → i < 2 * words_of header.size → slice_index_or new (header.cell / 4 + i) 0 ≡ 0
  pub others : (i : ℕ) → 4 * block ≤ i → (i < header.cell / 4) ⊎ (header.cell / 4 + 2 * words_of header.size ≤ i) →
      slice_index_or new i 0 ≡ slice_index_or old i 0
