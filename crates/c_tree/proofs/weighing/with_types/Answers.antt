use Rattle.std.proofs.Common.{◌≡◌, ◌<◌, length, slice_get, Some, ap, sym, ◌∙◌, arith}
use Rattle.std.specs.Option.{option_copied}
use Rattle.std.proofs.lemmas.Option.{none-some, slice_get-get_or}
use Rattle.c_types.specs.declared.node.TypeNode.TheVariants.{Void}
use Rattle.c_tree.specs.Bulk.{type_bulk}
use Rattle.c_tree.proofs.Counts.{sum_take}
use Rattle.c_tree.proofs.weighing.with_types.Goals as goal
use Rattle.c_tree.proofs.weighing.with_types.Goals.{in-Some, in-None}

pub types-preserved : goal.types-preserved
types-preserved c = elim c.match-get.branch [
  | in-Some w ↦
      let here : slice_get c.args.types.now c.types.index ≡ Some w.in-Some.node.now = sym c.get.ensures ∙ ap option_copied w.in-Some.is in
      grind (arith, w.bulk-is, w.with_type-bulk.ensures, c.types.invariant, sum_take type_bulk c.args.types.now c.types.index w.in-Some.node.now here)
  | in-None w ↦
      let inside : c.types.index < length c.args.types.now = omega (arith, c.types-test.true, c.len-index-end.ensures) in
      absurd (none-some _ (sym (ap option_copied w.in-None.is) ∙ (c.get.ensures ∙ slice_get-get_or c.args.types.now c.types.index Void inside)))
]
