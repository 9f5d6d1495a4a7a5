-- Memory at the start of a run: all blocks are made, then the objects get their pieces, and then some are sealed.
use Rattle.std.specs.Prelude.{ℕ, zero, suc, if◌then◌else◌, List, slice_index_or, fold, zip}
use Rattle.fsc_base.specs.declared.word.Word.{Word}
use Rattle.c_memory.specs.declared.kind.BlockKind.TheVariants as maker
use Rattle.c_memory.specs.Blocks.{Heap, sealed_at}
use Rattle.c_memory.specs.Addresses.{address_of}
use Rattle.c_memory.specs.Access.{write_of}
use Rattle.c_memory.specs.Making.{unless_refused}
use Rattle.c_memory.specs.Storage.{created, no_blocks}
use Rattle.c_ops.specs.Words.{plain, sum_of}
use Rattle.c_link.specs.Views.{LinkValue, Number, Symbol, Object, LinkPiece, LinkObject, LinkView}
use Rattle.c_link.specs.Blocks.{Placed, placed_units, symbols_in}

-- ---- making

-- so many functions more
abbrev pub with_functions : (count : ℕ) → Heap → Heap
with_functions zero heap = heap
with_functions (suc count) heap = with_functions count (created heap 0 maker.Function)

-- these objects more
abbrev pub with_objects : List LinkObject → Heap → Heap
with_objects objects heap = fold (λ (heap : Heap) (object : LinkObject). created heap object.size maker.Static) heap objects

-- the blocks of units, in link order
unfoldable pub made_of : List LinkView → Heap
made_of units = fold (λ (heap : Heap) (unit : LinkView). with_objects unit.objects (with_functions unit.functions heap)) no_blocks units

-- ---- pieces

-- what the pieces of a unit may name: the blocks of its symbols and of its objects
pub record Named : Type 0 where
  pub symbols : List ℕ
  pub objects : List ℕ

-- the word that a value is
abbrev pub word_of : Heap → Named → LinkValue → Word
word_of heap named (Number value) = plain value
word_of heap named (Symbol i offset) = sum_of (address_of heap (slice_index_or named.symbols i 0)) (plain offset)
word_of heap named (Object i offset) = sum_of (address_of heap (slice_index_or named.objects i 0)) (plain offset)

-- a piece of the object with this block; it lies within, and nothing is sealed yet, so its write is not refused
abbrev pub with_piece : Named → (block : ℕ) → Heap → LinkPiece → Heap
with_piece named block heap piece =
    unless_refused heap (write_of heap (sum_of (address_of heap block) (plain piece.offset)) piece.width (word_of heap named piece.value))

-- all pieces of it, in order
abbrev pub with_pieces : Named → Heap → (ℕ × LinkObject) → Heap
with_pieces named heap object = fold (with_piece named object.0) heap object.1.pieces

abbrev pub named_in : List Placed → Placed → Named
named_in units own = record { symbols = symbols_in units own; objects = own.objects }

-- the objects of a unit, each with its block
abbrev pub with_unit : List Placed → Heap → Placed → Heap
with_unit units heap own = fold (with_pieces (named_in units own)) heap (zip own.objects own.unit.objects)

unfoldable pub filled_of : List Placed → Heap → Heap
filled_of units heap = fold (with_unit units) heap units

-- ---- seals

abbrev pub with_seal : Heap → (ℕ × LinkObject) → Heap
with_seal heap object = if object.1.is_sealed then sealed_at heap object.0 else heap

abbrev pub with_seals : Heap → Placed → Heap
with_seals heap own = fold with_seal heap (zip own.objects own.unit.objects)

-- ---- the start

unfoldable pub start_of : List LinkView → Heap
start_of units = fold with_seals (filled_of (placed_units units) (made_of units)) (placed_units units)
