-- Live objects by their numbers.
use Rattle.std.proofs.Common.{Bool, cond, not, ◌&&◌, false, ap, ◌≡◌, ℕ, Option, Some, None, refl, true}
use Rattle.std.proofs.lemmas.Bool.{and_parts}
use Rattle.c_memory.specs.declared.kind.BlockKind.{BlockKind}
use Rattle.c_memory.specs.Blocks.{Block, Heap, block_at, is_object}
use Rattle.c_memory.proofs.Places.{Stands, stands}
use Rattle.byte_blocks.specs.Asking.{kind_at, kind_in, lives, lives_in}

-- a live object that has a number
pub record LivesThere (heap : Heap) (number : ℕ) : Type 0 where
  pub block : Block
  pub stands_there : Stands heap number block
  pub found : block_at heap number ≡ Some block
  pub is_live : block.is_live ≡ true

live_one : (heap : Heap) (number : ℕ) (found : Option Block) → block_at heap number ≡ found → lives_in found ≡ true → LivesThere heap number
live_one heap number None e h = cc
live_one heap number (Some block) e h = record {
  block = block;
  stands_there = stands heap number block e;
  found = e;
  is_live = (and_parts (is_object block.kind) block.is_live h).1;
}

pub lives_there : (heap : Heap) (number : ℕ) → lives heap number ≡ true → LivesThere heap number
lives_there heap number h = live_one heap number (block_at heap number) refl h

-- what is there as an object is live
live_of_kind : (kind : BlockKind) (block : Block) (alive : Bool) → block.is_live ≡ alive → (object : Bool) → is_object block.kind ≡ object
    → cond (object && not alive) None (Some block.kind) ≡ Some kind → is_object kind ≡ true → (object && alive) ≡ true
live_of_kind kind block true a true o h object = refl
live_of_kind kind block false a true o h object = cc
live_of_kind kind block alive a false o h object = let same : block.kind ≡ kind = cc in let e = ap is_object same in cc

live_kind : (kind : BlockKind) (found : Option Block) → kind_in found ≡ Some kind → is_object kind ≡ true → lives_in found ≡ true
live_kind kind None h object = cc
live_kind kind (Some block) h object = live_of_kind kind block block.is_live refl (is_object block.kind) refl h object

pub lives-kind_at : (heap : Heap) (number : ℕ) (kind : BlockKind) → kind_at heap number ≡ Some kind → is_object kind ≡ true → lives heap number ≡ true
lives-kind_at heap number kind h object = live_kind kind (block_at heap number) h object
