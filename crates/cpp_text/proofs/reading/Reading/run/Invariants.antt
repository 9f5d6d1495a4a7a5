use Rattle.std.proofs.Common.{◌≡◌, ◌≤◌}
use Rattle.cpp_text.specs.Progress.{left_of}
use Rattle.cpp_text.proofs.reading.Reading.run.Given as goal

abbrev pub invariant-lines : goal.invariant-lines
invariant-lines g l =
    (g.F.Files.contents l.files ≡ g.F.Files.contents l.initial.files)
    × (g.F.Files.fault_count l.initial.files ≤ g.F.Files.fault_count l.files)
    × (g.F.Files.absence_count l.initial.files ≤ g.F.Files.absence_count l.files)

abbrev pub decreases-lines : goal.decreases-lines
decreases-lines g l = left_of l.self.including.items l.self.current
