use Rattle.std.proofs.Common.{◌≡◌, take, map, length, sym, ap, subst, ◌∙◌, arith}
use Rattle.std.proofs.lemmas.List.{take_all}
use Rattle.guest_mem.specs.Guest.{region_of}
use Rattle.guest_mem.specs.Layout.{AllApart}
use Rattle.guest_mem.proofs.Layouts.{AllApart-memory_of}
use Rattle.guest_mem.proofs.guest.Guest.new.Goals as goal

pub invariant_of-result : goal.invariant_of-result
invariant_of-result c =
    let segments = c.args.image.now.segments in
    let all : take c.loop-segment.segment-index segments ≡ segments = take_all c.loop-segment.segment-index segments (omega (arith, ap length c.as_slice-segment-items.ensures)) in
    subst AllApart (sym (c.loop-segment.invariant ∙ ap (map region_of) all)) (AllApart-memory_of c.args.image.now c.requires)
