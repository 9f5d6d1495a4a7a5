use Rattle.std.proofs.Common.{refl}
use Rattle.fsc_core.specs.declared.refusal.CoreNo.TheVariants as core
use Rattle.fsc_commands.specs.Writing.{units_refused}
use Rattle.fsc_commands.proofs.Outcomes.{link_earlier}
use Rattle.fsc_commands.proofs.linking.units.Goals as goal

pub returns-then-is_err-clause-refused : goal.returns-then-is_err-clause-refused
returns-then-is_err-clause-refused g c = units_refused core.NoMemory refl tt

pub returns-in-Err-clause-refused : goal.returns-in-Err-clause-refused
returns-in-Err-clause-refused g c =
    link_earlier c.in-Err.ending c.args.names.now _ _ c.files.invariant.0 refl c.files.invariant.1 refl c.files.invariant.2 refl c.in-Err.ensures.refused
