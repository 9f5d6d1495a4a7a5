use Rattle.std.proofs.Common.{sym, subst}
use Rattle.guest_mem.specs.Pages.{blanks, IsDirectory}
use Rattle.guest_mem.proofs.Pages.{IsDirectory-blanks}
use Rattle.guest_mem.proofs.directory.Directory.new.Goals as goal

pub invariant_of-result : goal.invariant_of-result
unfolding blanks
invariant_of-result c = subst IsDirectory (sym c.loop.invariant) (IsDirectory-blanks c.loop.counter)
