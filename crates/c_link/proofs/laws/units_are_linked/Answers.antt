use Rattle.std.proofs.Common.{refl}
use Rattle.c_memory.specs.Access.{within, write_of}
use Rattle.c_memory.specs.Blocks.{sealed_at}
use Rattle.c_memory.specs.Storage.{class_of, created, live_in, next_base}
use Rattle.c_link.specs.Start.{made_of, filled_of, start_of}
use Rattle.c_link.proofs.laws.units_are_linked.Goals as goal

pub returns : goal.returns
unfolding within write_of sealed_at class_of created live_in next_base made_of filled_of start_of
returns c = record { program = refl; added = refl }
