use Rattle.std.proofs.Common.{◌≡◌, [], replicate}
use Rattle.guest_mem.proofs.directory.Directory.new.Given as goal

abbrev pub invariant-loop : goal.invariant-loop
invariant-loop l = l.tables.items ≡ replicate l.counter []
