use Rattle.std.proofs.Common.{◌≡◌, ℕ, suc, ◌+◌, [], ◌∷◌, take, ap, subst, arith}
use Rattle.rv_asm.specs.declared.item.Item.{Item}
use Rattle.rv_asm.specs.Items.{size_of, size_in}
use Rattle.rv_asm.specs.Places.{place_in}
use Rattle.rv_asm.specs.Code.{AddsItems}
use Rattle.rv_asm.proofs.Spelling.{item_then, size_in-take, size_in-take_le}
use Rattle.rv_asm.proofs.finish.add_items.Goals as goal

pub overflow_add-at : goal.overflow_add-at
overflow_add-at c =
    let items = c.args.items.now in
    let i = c.items.item-index in
    let item = c.item-item.result in
    let same = ap (λ (x : Item). size_of x) c.item-item.is in
    omega (arith, size_in-take items i item c.items-test.true, size_in-take_le items (suc i), same, c.items.invariant.0, c.size-at.ensures.size, c.requires)

pub items-preserved : goal.items-preserved
items-preserved c =
    let items = c.args.items.now in
    let i = c.items.item-index in
    let item = c.item-item.result in
    let same = ap (λ (x : Item). size_of x) c.item-item.is in
    let next = ap (λ (n : ℕ). size_in (take n items)) (let e : i + 1 ≡ suc i = omega arith in e) in
    let P : Item → Type 0 = λ x. AddsItems c.items.bytes.items c.add_item.new.bytes.items (place_in c.args.places.now) c.items.at (x ∷ []) in (
      omega (arith, size_in-take items i item c.items-test.true, same, next, c.items.invariant.0, c.size-at.ensures.size),
      item_then c.args.bytes.now.items c.items.bytes.items c.add_item.new.bytes.items (place_in c.args.places.now) c.items.at i items item c.items-test.true
          c.items.invariant.0 c.items.invariant.1 (subst P c.item-item.is c.in_ok-add_item.ensures),
    )
