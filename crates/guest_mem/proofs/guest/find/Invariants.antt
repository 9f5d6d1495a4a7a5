use Rattle.std.proofs.Common.{◌≡◌, ℕ, ◌<◌, ◌≤◌, false, length, get_or}
use Rattle.guest_mem.specs.Regions.{Paged}
use Rattle.guest_mem.specs.Guest.{contains}
use Rattle.guest_mem.proofs.guest.find.Given as goal

-- no region from the index on has the bytes
abbrev pub invariant-loop-index : goal.invariant-loop-index
invariant-loop-index l = record {
  within : l.index ≤ length l.regions;
  none : (k : ℕ) (d : Paged) → l.index ≤ k → k < length l.regions → contains (get_or l.regions k d).region l.right l.at l.n ≡ false;
}

abbrev pub decreases-loop-index : goal.decreases-loop-index
decreases-loop-index l = l.index
