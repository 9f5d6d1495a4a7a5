use Rattle.std.proofs.Common.{◌≡◌, ℕ, ◌/◌, ◌<◌, ◌≤◌}
use Rattle.std.specs.Prelude.{IsTrue}
use Rattle.guest_mem.specs.Pages.{Keeps, is_made}
use Rattle.guest_mem.proofs.directory.Directory.make_all.Given as goal

abbrev pub invariant-loop-page : goal.invariant-loop-page
invariant-loop-page l = record {
  kept : Keeps l.initial.self l.self;
  made : (place : ℕ) → l.place ≤ place → place / 4096 < l.page → IsTrue (is_made l.self place);
}
