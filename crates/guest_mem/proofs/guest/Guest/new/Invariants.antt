use Rattle.std.proofs.Common.{◌≡◌, map, take}
use Rattle.guest_mem.specs.Guest.{region_of}
use Rattle.guest_mem.specs.Regions.{regions_of}
use Rattle.guest_mem.proofs.guest.Guest.new.Given as goal

abbrev pub invariant-loop-segment : goal.invariant-loop-segment
invariant-loop-segment l = regions_of l.regions.items ≡ map region_of (take l.segment-index l.image.segments)
