use Rattle.type_desc.proofs.PeriodLaws.{one_least_period, least_is_shape}
use Rattle.type_desc.proofs.laws.shapes_are_least.Goals as goal

pub returns : goal.returns
returns c = record { one = one_least_period; shape = least_is_shape }
