use Rattle.std.proofs.Common.{ℕ, ◌≡◌, ◌%◌, ◌^◌, subst, arith}
use Rattle.guest_mem.specs.Guest.{stored}
use Rattle.guest_mem.specs.Regions.{regions_of}
use Rattle.word_memory.specs.Words.{ChangesWord}
use Rattle.word_memory.proofs.Stored.{changes_word, stores_word}
use Rattle.word_memory.proofs.access.store_word.Goals as goal

pub returns-clause-changes : goal.returns-clause-changes
returns-clause-changes c apart =
    let old = regions_of c.args.memory.now in
    let new = regions_of c.store32.new.self in
    let whole : c.args.value % 2 ^ 32 ≡ c.args.value = omega (arith, c.ranges.value.fits) in
    stores_word c.args.at (λ word. c.args.value) (stored 4 old c.args.at c.args.value) old new c.store32.result c.store32.ensures.stores
    (λ done. subst (λ (v : ℕ). ChangesWord c.args.at (λ word. v) old new) whole (changes_word old new c.args.at c.args.value apart done))
