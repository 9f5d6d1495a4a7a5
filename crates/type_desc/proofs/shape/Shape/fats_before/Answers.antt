use Rattle.std.proofs.Common.{arith, ap, ◌∙◌}
use Rattle.type_desc.specs.Places.{fats_before}
use Rattle.type_desc.proofs.CountLaws.{table_split, table_part, fats-le}
use Rattle.type_desc.proofs.shape.Shape.fats_before.Goals as goal

-- what the table gives
pub returns-clause-count : goal.returns-clause-count
returns-clause-count c =
    table_split c.self.inside.words c.self.inside.kinds c.self.inside.fats.items c.args.w c.index.result.now c.index-2.result.now c.self.invariant c.index.ensures c.index-2.ensures
    ∙ ap (λ k. fats_before k c.args.w) c.self.view_is

pub returns-clause-within : goal.returns-clause-within
returns-clause-within c = omega (arith, returns-clause-count c, fats-le c.args.self.now c.args.w)

pub overflow_add-result : goal.overflow_add-result
overflow_add-result c =
    omega (
      arith,
      table_split c.self.inside.words c.self.inside.kinds c.self.inside.fats.items c.args.w c.index.result.now c.index-2.result.now c.self.invariant c.index.ensures c.index-2.ensures,
      fats-le c.self.inside.kinds c.args.w,
    )

pub overflow_mul-in_periods : goal.overflow_mul-in_periods
overflow_mul-in_periods c =
    omega (arith, table_part c.self.inside.words c.self.inside.kinds c.self.inside.fats.items c.args.w c.index.result.now c.self.invariant c.index.ensures)
