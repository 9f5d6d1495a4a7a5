use Rattle.std.proofs.Common.{take, sym, subst, List}
use Rattle.std.proofs.lemmas.Result.{IfOk-weaker}
use Rattle.fsc_base.specs.declared.word.WordKind.{WordKind}
use Rattle.type_desc.specs.Periods.{IsLeastPeriod}
use Rattle.type_desc.proofs.PeriodLaws.{least_from_period, least_is_shape}
use Rattle.type_desc.proofs.shape.Shape.of.Goals as goal

pub from_least-requires : goal.from_least-requires
from_least-requires c =
    let kinds = c.args.kinds.now in
    let n = c.least_period-period.result in
    let found = c.least_period-period.ensures in
    least_is_shape kinds (take n kinds) c.requires.some c.requires.few
    (least_from_period kinds n c.requires.some found.within found.period found.least)

pub returns : goal.returns
returns c =
    let kinds = c.args.kinds.now in
    let n = c.least_period-period.result in
    let found = c.least_period-period.ensures in
    let least = least_from_period kinds n c.requires.some found.within found.period found.least in
    IfOk-weaker c.from_least.result _ (λ shape. IsLeastPeriod kinds shape)
    (λ shape same. subst (λ (part : List WordKind). IsLeastPeriod kinds part) (sym same) least) c.from_least.ensures
