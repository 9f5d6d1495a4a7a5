use Rattle.access_methods.proofs.Accessing.{layouts_are}
use Rattle.access_methods.proofs.Descs.{are_addresses, stands_for_shape}
use Rattle.access_methods.proofs.laws.numbers_stand_for_layouts.Goals as goal

pub returns : goal.returns
returns c = record { layouts = layouts_are; addresses = are_addresses; shapes = stands_for_shape }
