use Rattle.c_types.proofs.Collecting.{Collected}
use Rattle.c_types.specs.Layouts.{layout_of}
use Rattle.c_types.proofs.laid.LaidNodes.parts.Given as goal

abbrev pub invariant-loop-field : goal.invariant-loop-field
invariant-loop-field l = Collected (layout_of l.self) l.fields l.field-index l.parts.items
