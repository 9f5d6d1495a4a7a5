-- What the memory of a machine holds at an address: words, the headers of blocks, and the descriptors of shapes.
use Rattle.std.specs.Prelude.{◌≡◌, ℕ, zero, suc, ◌+◌, ◌*◌, ◌-◌, ◌^◌, nat_lt, nat_le, if◌then◌else◌, List, [], ◌∷◌, ◌++◌, Option, Some, None, Result, Ok, Err}
use Rattle.std.specs.Int.{w32, div_ceil, to_le_bytes}
use Rattle.fsc_base.specs.declared.word.WordKind.{WordKind}
use Rattle.guest_mem.specs.Guest.{loaded}
use Rattle.guest_mem.specs.declared.fault.Fault.{Fault}
use Rattle.rv_run.specs.Machine.{State}
use Rattle.block_header.specs.declared.Header.{Header}
use Rattle.type_desc.specs.Descriptors.{Reads}

-- ---- words

-- what was loaded, where it was not refused
abbrev pub found : Result ℕ Fault → Option ℕ
found (Ok word) = Some word
found (Err fault) = None

-- the word at an address of 32 bits, where its load is not refused
unfoldable pub word_at : State → (at : ℕ) → Option ℕ
word_at s at = if nat_lt at (2 ^ 32) then found (loaded 4 s.memory at) else None

-- bytes, and those of one more word
abbrev pub with_word : Option (List ℕ) → Option ℕ → Option (List ℕ)
with_word None word = None
with_word (Some bytes) None = None
with_word (Some bytes) (Some word) = Some (bytes ++ to_le_bytes w32 word)

-- the bytes of so many words from an address on, where each of them is there
abbrev pub bytes_at : State → (at words : ℕ) → Option (List ℕ)
bytes_at s at zero = Some []
bytes_at s at (suc n) = with_word (bytes_at s at n) (word_at s (at + 4 * n))

-- ---- headers

-- where the header of a block stands
abbrev pub header_place : (block : ℕ) → ℕ
header_place block = 0x4000_0000 + 16 * (block - 1)

-- four words that are there
abbrev pub header_of : (desc size base cell : Option ℕ) → Option Header
header_of None size base cell = None
header_of (Some desc) None base cell = None
header_of (Some desc) (Some size) None cell = None
header_of (Some desc) (Some size) (Some base) None = None
header_of (Some desc) (Some size) (Some base) (Some cell) = Some (record { desc = desc; size = size; base = base; cell = cell })

-- the header of a block, where all of it is there
unfoldable pub header_at : State → (block : ℕ) → Option Header
header_at s block = let at = header_place block in header_of (word_at s at) (word_at s (at + 4)) (word_at s (at + 8)) (word_at s (at + 12))

-- ---- descriptors

-- how many words a descriptor has that begins with this one, none where no shape has so many words
abbrev pub words_told : Option ℕ → ℕ
words_told None = 0
words_told (Some count) = if nat_le count 1024 then 1 + div_ceil count 4 else 0

-- the bytes of a descriptor are there and are that of a shape, or there is no shape
abbrev pub ReadsShape : Option (List ℕ) → Option (List WordKind) → Type 0
ReadsShape None shape = shape ≡ None
ReadsShape (Some bytes) shape = Reads bytes shape

-- the shape whose descriptor stands at an address, or none where none does
abbrev pub ShapeAt : State → (at : ℕ) → Option (List WordKind) → Type 0
ShapeAt s at shape = ReadsShape (bytes_at s at (words_told (word_at s at))) shape

-- what reading gives: the bytes of so many words
abbrev pub IsBytesAt : State → (at words : ℕ) → Option (List ℕ) → Type 0
IsBytesAt s at words bytes = bytes ≡ bytes_at s at words
