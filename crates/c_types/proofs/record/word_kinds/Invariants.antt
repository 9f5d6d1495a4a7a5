use Rattle.std.proofs.Common.{◌≡◌}
use Rattle.c_types.specs.Layouts.{kinds_before}
use Rattle.c_types.specs.Parts.{places_in}
use Rattle.c_types.proofs.record.word_kinds.Given as goal

abbrev pub invariant-loop-w : goal.invariant-loop-w
invariant-loop-w l = l.kinds.items ≡ kinds_before (places_in l.places) l.w
