use Rattle.std.proofs.Common.{◌≡◌, take}
use Rattle.rv_asm.specs.Items.{size_in}
use Rattle.rv_asm.specs.Places.{place_in}
use Rattle.rv_asm.specs.Code.{AddsItems}
use Rattle.rv_asm.proofs.finish.add_items.Given as goal

abbrev pub invariant-items : goal.invariant-items
invariant-items l =
    (l.at ≡ size_in (take l.item-index l.items)) × AddsItems l.fn.bytes.items l.bytes.items (place_in l.places) 0 (take l.item-index l.items)
