-- Guest memory as words by their addresses. A word is four bytes at a multiple of 4, the lowest first.
use Rattle.std.specs.Prelude.{◌≡◌, ◌≢◌, ℕ, ◌+◌, ◌*◌, ◌-◌, ◌/◌, ◌%◌, ◌^◌, ◌<◌, List, length, All, slice_index_or, flat_map, Option, Some, Result, Ok, Err}
use Rattle.std.specs.Option.{option_map}
use Rattle.std.specs.Result.{result_ok}
use Rattle.std.specs.Int.{w32, to_le_bytes}
use Rattle.guest_mem.specs.Guest.{bytes_at, loaded}
use Rattle.guest_mem.specs.Regions.{Region}
use Rattle.guest_mem.specs.declared.fault.StoreNo.{StoreNo}
use Rattle.guest_mem.specs.declared.right.Right.TheVariants.{Read}

-- the word at an address: what a load of four bytes gives, where it is not refused
unfoldable pub word_at : List Region → (at : ℕ) → Option ℕ
word_at regions at = result_ok (loaded 4 regions at)

-- the address of the word that holds the byte at an address
abbrev pub word_place : (at : ℕ) → ℕ
word_place at = at - at % 4

-- a word in which n bytes, from the byte at a place on, are those of a value: the bytes below, these, and the bytes above
abbrev pub replaced : (place n word value : ℕ) → ℕ
replaced place n word value = word % 256 ^ place + 256 ^ place * (value % 256 ^ n + 256 ^ n * (word / 256 ^ (place + n)))

-- the word at an address is changed, where there is one, and no other word is
pub record ChangesWord (at : ℕ) (change : ℕ → ℕ) (old new : List Region) : Type 0 where
  pub there : word_at new at ≡ option_map change (word_at old at)
  pub others : (other : ℕ) → other ≢ at → word_at new other ≡ word_at old other

-- what a store does to words: it changes the one, or it is refused and leaves memory as it was
abbrev pub StoresWord : (at : ℕ) (change : ℕ → ℕ) (old new : List Region) → Result (Unit {0}) StoreNo → Type 0
StoresWord at change old new (Ok _) = ChangesWord at change old new
StoresWord at change old new (Err why) = new ≡ old

-- from an address on memory holds these words, one behind the other
abbrev pub WordsAt : List Region → (at : ℕ) → (words : List ℕ) → Type 0
WordsAt regions at words = (i : ℕ) → i < length words → word_at regions (at + 4 * i) ≡ Some (slice_index_or words i 0)

-- from an address on memory that may be read holds the bytes that these words spell
abbrev pub SpellsAt : List Region → (at : ℕ) → (words : List ℕ) → Type 0
SpellsAt regions at words = bytes_at regions Read at (4 * length words) ≡ Some (flat_map (to_le_bytes w32) words)

-- an answer is the word with this index, whichever words are spelled from an address on
abbrev pub IsNext : List Region → (at i : ℕ) → Option ℕ → Type 0
IsNext regions at i answer =
    (words : List ℕ) → All (λ word. word < 2 ^ 32) words → i < length words → SpellsAt regions at words → answer ≡ Some (slice_index_or words i 0)
