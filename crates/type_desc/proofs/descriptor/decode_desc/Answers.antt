use Rattle.std.proofs.Common.{sym, subst, length, List, ◌<◌, ◌≤◌}
use Rattle.fsc_base.specs.declared.word.WordKind.{WordKind}
use Rattle.type_desc.specs.Periods.{IsShape, IsPeriod}
use Rattle.type_desc.proofs.DescriptorLaws.{no_kinds, no_shape, is_shape}
use Rattle.type_desc.proofs.descriptor.decode_desc.Goals as goal

pub returns-in_default-2 : goal.returns-in_default-2
returns-in_default-2 c =
    no_kinds c.args.bytes.now c.in-Some.spelled.now c.in-Some.ensures (rw c.in_default-2.is at c.in_ok-kinds.ensures)

pub returns-then-least_period-as_slice : goal.returns-then-least_period-as_slice
returns-then-least_period-as_slice c =
    let kinds = c.in-Some-2.kinds in
    let period : IsPeriod kinds c.least_period.result =
    subst (λ (ks : List WordKind). IsPeriod ks c.least_period.result) c.as_slice.ensures c.least_period.ensures.period in
    let shorter : c.least_period.result < length kinds =
    subst (λ (ks : List WordKind). c.least_period.result < length ks) c.as_slice-2.ensures c.if-least_period-as_slice.true in
    no_shape c.args.bytes.now c.in-Some.spelled.now kinds c.least_period.result c.in-Some.ensures (rw c.in-Some-2.is at c.in_ok-kinds.ensures) period shorter

pub from_least-requires : goal.from_least-requires
from_least-requires c =
    let kinds = c.in-Some-2.kinds in
    let longer : length kinds ≤ c.least_period.result =
    subst (λ (ks : List WordKind). length ks ≤ c.least_period.result) c.as_slice-2.ensures c.if-least_period-as_slice.false in
    let shape : IsShape kinds =
    is_shape c.args.bytes.now c.in-Some.spelled.now kinds c.least_period.result c.in-Some.ensures (rw c.in-Some-2.is at c.in_ok-kinds.ensures)
    (λ k period. c.least_period.ensures.least k (subst (λ (ks : List WordKind). IsPeriod ks k) (sym c.as_slice.ensures) period)) longer in
    subst IsShape (sym c.as_slice-3.ensures) shape
