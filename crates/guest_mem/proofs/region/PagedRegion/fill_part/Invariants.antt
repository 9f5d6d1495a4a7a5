use Rattle.std.proofs.Common.{◌≡◌, ◌≤◌, ◌-◌, ℕ, List, length}
use Rattle.fsc_outside.specs.Streams.{Takes}
use Rattle.guest_mem.specs.Guest.{with_part}
use Rattle.guest_mem.specs.Layout.{AreBytes}
use Rattle.guest_mem.proofs.region.PagedRegion.fill_part.Given as goal

-- what was taken so far stands from the address on, and all else is as it was
abbrev pub invariant-loop-taken : goal.invariant-loop-taken
invariant-loop-taken g l = record {
  within : l.taken ≤ l.n;
  took : (bytes : List ℕ) × (length bytes ≡ l.taken) × (l.self.region ≡ with_part l.initial.self.region l.at bytes)
      × Takes (g.S.Source.left l.initial.input) (g.S.Source.left l.input) bytes × AreBytes bytes;
  made : l.self.made ≡ l.initial.self.made;
  counted : g.S.Source.fault_count l.initial.input ≤ g.S.Source.fault_count l.input;
  untouched : l.n ≡ 0 → l.input ≡ l.initial.input;
}

abbrev pub decreases-loop-taken : goal.decreases-loop-taken
decreases-loop-taken g l = l.n - l.taken
