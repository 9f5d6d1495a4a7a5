use Rattle.std.proofs.Common.{◌≡◌, ◌≤◌, ◌++◌, length, drop}
use Rattle.std.specs.Prelude.{flat_map}
use Rattle.unit_file.proofs.spelled.read_list.Given as goal

abbrev pub invariant-loop-item : goal.invariant-loop-item
invariant-loop-item g l = record {
  bytes : drop l.initial.behind l.file ≡ flat_map (g.T.Spelled.spelled l.version) l.items.items ++ drop l.behind l.file;
  many : length l.items.items ≡ l._item;
  within : l.behind ≤ length l.file;
}
