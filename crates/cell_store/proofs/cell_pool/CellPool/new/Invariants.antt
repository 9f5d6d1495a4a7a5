use Rattle.std.proofs.Common.{◌≡◌, ℕ, ◌<◌, ◌/◌, [], vec_len}
use Rattle.std.specs.Prelude.{slice_index_or}
use Rattle.cell_store.specs.Pools.{cell_size, no_list}
use Rattle.cell_store.proofs.cell_pool.CellPool.new.Given as goal

abbrev pub invariant-loop-class : goal.invariant-loop-class
invariant-loop-class l = record {
  lists : vec_len l.free ≡ l.class;
  free : (k : ℕ) → k < l.class → slice_index_or l.free.items k no_list ≡ record { cells = []; room = l.bytes / cell_size k };
}
