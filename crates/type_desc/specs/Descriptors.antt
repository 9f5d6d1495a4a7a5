-- Descriptors: shapes in bytes.
use Rattle.std.specs.Prelude.{◌≡◌, ℕ, ◌-◌, ◌<◌, ◌≤◌, List, ◌++◌, length, map, replicate, Option, Some, None}
use Rattle.std.specs.Borrow.{Bor}
use Rattle.std.specs.Int.{next_multiple_of}
use Rattle.byteorder.specs.Endian.{little_bytes}
use Rattle.fsc_base.specs.declared.word.WordKind.{WordKind}
use Rattle.fsc_base.specs.declared.word.WordKind.TheVariants.{Fat, Narrow}
use Rattle.type_desc.specs.Periods.{IsShape}

-- the byte of a kind
abbrev pub byte_of : WordKind → ℕ
byte_of Narrow = 0
byte_of Fat = 1

-- how many zeros bring a size to a multiple of four
abbrev pub padding_of : ℕ → ℕ
padding_of size = next_multiple_of size 4 - size

-- bytes behind their count in four bytes, the lowest first, and then zeros to a multiple of four
unfoldable pub counted : List ℕ → List ℕ
counted bytes = little_bytes 4 (length bytes) ++ (bytes ++ replicate (padding_of (length bytes)) 0)

-- the descriptor of a shape: the count of its words, one byte for each word, and zeros
abbrev pub descriptor_of : List WordKind → List ℕ
descriptor_of kinds = counted (map byte_of kinds)

-- a list stands at the front of another
abbrev pub StandsFirst : List ℕ → List ℕ → Type 0
StandsFirst front bytes = (rest : List ℕ) × (bytes ≡ front ++ rest)

-- the bytes begin with a shape's descriptor
abbrev pub Describes : List ℕ → List WordKind → Type 0
Describes bytes kinds = IsShape kinds × StandsFirst (descriptor_of kinds) bytes

-- what reading gives: the shape whose descriptor the bytes begin with, or none exactly where there is none
abbrev pub Reads : List ℕ → Option (List WordKind) → Type 0
Reads bytes (Some kinds) = Describes bytes kinds
Reads bytes None = (kinds : List WordKind) → Describes bytes kinds → ⊥

-- bytes begin with the descriptor of one shape at most
abbrev pub OneSpelling : Type 0
OneSpelling = (bytes : List ℕ) (kinds others : List WordKind) → Describes bytes kinds → Describes bytes others → kinds ≡ others

-- so what reading gives of a shape's descriptor is the shape, whatever follows
abbrev pub ReadsBack : Type 0
ReadsBack = (kinds : List WordKind) (rest : List ℕ) (found : Option (List WordKind)) → IsShape kinds → Reads (descriptor_of kinds ++ rest) found → found ≡ Some kinds

-- The parts of reading: the bytes of the kinds are found, if any with that many words stand first
abbrev pub IsCounted : List ℕ → List ℕ → Type 0
IsCounted bytes kind_bytes = (0 < length kind_bytes) × (length kind_bytes ≤ 1024) × StandsFirst (counted kind_bytes) bytes

abbrev pub FindsKindBytes : List ℕ → Option (Bor (List ℕ)) → Type 0
FindsKindBytes bytes (Some found) = IsCounted bytes found.now
FindsKindBytes bytes None = (kind_bytes : List ℕ) → IsCounted bytes kind_bytes → ⊥

-- and then the kind of a byte
abbrev pub FindsKind : ℕ → Option WordKind → Type 0
FindsKind byte (Some kind) = byte ≡ byte_of kind
FindsKind byte None = (kind : WordKind) → byte ≡ byte_of kind → ⊥

-- and so the kinds of all
abbrev pub FindsKinds : List ℕ → Option (List WordKind) → Type 0
FindsKinds bytes (Some kinds) = bytes ≡ map byte_of kinds
FindsKinds bytes None = (kinds : List WordKind) → bytes ≡ map byte_of kinds → ⊥
