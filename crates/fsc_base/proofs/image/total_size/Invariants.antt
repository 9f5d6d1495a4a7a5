use Rattle.std.proofs.Common.{◌≡◌, ◌≤◌, ◌*◌, ◌^◌, take}
use Rattle.fsc_base.specs.Image.{total_size}
use Rattle.fsc_base.proofs.image.total_size.Given as goal

-- the sizes so far, each of which is below 2 ^ 32
abbrev pub invariant-loop-segment : goal.invariant-loop-segment
invariant-loop-segment l = record {
  sum : l.total ≡ total_size (take l.segment-index l.segments);
  bounded : l.total ≤ l.segment-index * 2 ^ 32;
}
