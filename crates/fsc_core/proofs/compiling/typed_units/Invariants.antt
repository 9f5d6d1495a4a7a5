use Rattle.std.proofs.Common.{◌≡◌, ◌≤◌}
use Rattle.fsc_core.proofs.compiling.typed_units.Given as goal

abbrev pub invariant-files : goal.invariant-files
invariant-files g l =
    (g.F.Files.contents l.files ≡ g.F.Files.contents l.initial.files)
    × (g.F.Files.fault_count l.initial.files ≤ g.F.Files.fault_count l.files)
    × (g.F.Files.absence_count l.initial.files ≤ g.F.Files.absence_count l.files)
