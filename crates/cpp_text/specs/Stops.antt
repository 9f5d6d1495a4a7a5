-- A refusal by what was read already, as a stop.
use Rattle.fsc_base.specs.declared.place.Refused.{Refused}
use Rattle.fsc_base.specs.declared.place.Refused.TheVariants as refusals
use Rattle.cpp_text.specs.declared.refusal.Stop.{Stop}
use Rattle.cpp_text.specs.declared.refusal.Stop.TheVariants as stops

abbrev pub stop_of : Refused → Stop
stop_of (refusals.Broken broken) = stops.Broken broken
stop_of refusals.NoMemory = stops.NoMemory
