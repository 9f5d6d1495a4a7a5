use Rattle.std.proofs.Common.{◌≡◌, [], replicate}
use Rattle.guest_mem.proofs.page.Table.of_unmade.Given as goal

abbrev pub invariant-loop : goal.invariant-loop
invariant-loop l = l.pages.items ≡ replicate l.counter []
