use Rattle.std.proofs.Common.{◌≡◌, ℕ, List, [], ◌∷◌, ◌++◌, Option, sym, ap, ◌∙◌, arith}
use Rattle.rv_asm.specs.declared.item.Item.{Item}
use Rattle.rv_asm.specs.declared.item.Item.TheVariants.{Bind}
use Rattle.rv_asm.specs.Items.{size_in, place_of}
use Rattle.rv_asm.specs.Places.{place_in}
use Rattle.rv_asm.proofs.Placing.{bound_behind, size_in_append}
use Rattle.rv_asm.proofs.assembler.Assembler.bind.Goals as goal

pub invariant_of-self-2 : goal.invariant_of-self-2
invariant_of-self-2 c =
    let items = c.self.inside.items in
    let label = c.args.label in
    let pushed : c.push.new.self ≡ items ++ Bind label ∷ [] = c.in_ok-push.ensures.ok in
    let size = ap (λ (xs : List Item). size_in xs) pushed ∙ size_in_append items (Bind label ∷ []) in
    let invariant = c.self.invariant in
    let unbound = c.is_unbound.ensures.0 c.if-not-is_unbound.false in (
      omega (arith, size, invariant.0),
      invariant.1,
      invariant.2,
      λ k.
          ap (λ (places : List (Option ℕ)). place_in places k) c.set.ensures
          ∙ (bound_behind c.self.inside.places items label k c.self.inside.size invariant.0 unbound (invariant.3 k) ∙ ap (λ (xs : List Item). place_of xs k) (sym pushed)),
    )
