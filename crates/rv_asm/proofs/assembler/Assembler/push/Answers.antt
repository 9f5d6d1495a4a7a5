use Rattle.std.proofs.Common.{◌≡◌, List, [], ◌∷◌, ◌++◌, sym, ap, ◌∙◌, arith}
use Rattle.rv_asm.specs.declared.item.Item.{Item}
use Rattle.rv_asm.specs.Items.{size_in, place_of}
use Rattle.rv_asm.proofs.Placing.{place_of_room, size_in_append}
use Rattle.rv_asm.proofs.assembler.Assembler.push.Goals as goal

pub invariant_of-self-2 : goal.invariant_of-self-2
invariant_of-self-2 c =
    let items = c.self.inside.items in
    let item = c.args.item in
    let pushed : c.push.new.self ≡ items ++ item ∷ [] = c.in_ok-push.ensures.ok in
    let size = ap (λ (xs : List Item). size_in xs) pushed ∙ size_in_append items (item ∷ []) in
    let invariant = c.self.invariant in (
      omega (arith, size, invariant.0, c.size-size.ensures.size),
      omega (arith, invariant.1, c.if-self-size.false),
      invariant.2,
      λ label. invariant.3 label ∙ (sym (place_of_room items item label c.requires) ∙ ap (λ (xs : List Item). place_of xs label) (sym pushed)),
    )
