use Rattle.std.proofs.Common.{◌≡◌, ◌+◌, ◌-◌, ◌^◌, length, take, min}
use Rattle.std.specs.Prelude.{flat_map}
use Rattle.fat_code.specs.declared.fault.Version.TheVariants.{Two}
use Rattle.unit_file.proofs.spelled.count_list.Given as goal

abbrev pub invariant-loop-item : goal.invariant-loop-item
invariant-loop-item g l = l.sum ≡ min (4 + length (flat_map (g.T.Spelled.spelled Two) (take l.item-index l.items))) (2 ^ 64 - 1)
