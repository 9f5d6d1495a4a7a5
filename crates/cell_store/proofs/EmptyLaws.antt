-- A new store holds a heap without blocks.
use Rattle.std.proofs.Common.{◌≡◌, ℕ, zero, suc, replicate, Option, Some, None, refl}
use Rattle.c_memory.specs.Blocks.{Block, block_at}
use Rattle.c_memory.specs.Storage.{no_blocks}
use Rattle.cell_store.specs.Layouts.{Layouts}
use Rattle.cell_store.specs.Store.{Holds, Store}

none_at : (b : ℕ) (block : Block) → block_at no_blocks b ≡ Some block → ⊥
none_at zero block h = let no : ◌≡◌ {A = Option Block} None (Some block) = h in cc
none_at (suc n) block h = let no : ◌≡◌ {A = Option Block} None (Some block) = h in cc

pub holds_none : (store : Store) (layouts : Layouts) → store.made ≡ 0 → store.greatest ≡ replicate 30 0 → Holds store no_blocks layouts
holds_none store layouts made greatest = record {
  sound = record { blocks = λ b block at. absurd (none_at b block at); greatest = refl };
  stands = record {
    headers = λ b block at. absurd (none_at b block at);
    kept = λ b block at object. absurd (none_at b block at);
    inside = λ b block at object. absurd (none_at b block at);
    apart = λ b c x y at also object other differs. absurd (none_at b x at);
  };
  made = made;
  greatest = greatest;
}
