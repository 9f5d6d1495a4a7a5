use Rattle.std.proofs.Common.{◌≡◌, ◌+◌, arith, ap, ◌∙◌, get_or, ℕ, length, List}
use Rattle.std.proofs.lemmas.List.{length_push}
use Rattle.type_desc.specs.Places.{fats_before}
use Rattle.type_desc.proofs.CountLaws.{fats_more, fats-le, table_more}
use Rattle.type_desc.proofs.shape.count_fats.Goals as goal

pub loop-kind-preserved : goal.loop-kind-preserved
loop-kind-preserved c =
    let kinds = c.args.kinds.now in
    let i = c.loop-kind.kind-index in
    let fats = c.loop-kind.fats.items in
    let count = c.loop-kind.count + c.fats_in-count.result in
    let more = fats_more kinds i c.loop-kind-test.true in
    let last : count ≡ fats_before kinds (i + 1) = omega (arith, more, c.fats_in-count.ensures, c.loop-kind.invariant.1) in
    let items = c.in_ok-push-2.ensures.items in (
      ap length items ∙ length_push fats count ∙ ap (λ (n : ℕ). n + 1) c.loop-kind.invariant.0,
      last,
      omega (arith, last, fats-le kinds (i + 1)),
      λ w h. ap (λ (xs : List ℕ). get_or xs w 0) items ∙ table_more kinds fats i count c.loop-kind.invariant.0 last c.loop-kind.invariant.3 w h,
    )
