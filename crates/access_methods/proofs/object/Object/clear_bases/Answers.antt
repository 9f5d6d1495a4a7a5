use Rattle.std.proofs.Common.{◌≡◌, ℕ, ◌+◌, ◌-◌, ◌/◌, ◌<◌, ◌≤◌, length, replicate, sym, subst, arith}
use Rattle.std.proofs.lemmas.List.{length-replicate, get_or-replicate}
use Rattle.c_memory.specs.Access.{touched}
use Rattle.c_memory.specs.Blocks.{words_of}
use Rattle.access_methods.specs.Forms.{layout_in}
use Rattle.access_methods.specs.Objects.{Turns, with_base_at}
use Rattle.access_methods.proofs.Filling.{BasesSoFar, bases_start, bases_step}
use Rattle.access_methods.proofs.object.Object.clear_bases.Goals as goal

pub loop-w-init : goal.loop-w-init
loop-w-init c =
    let none : 0 ≡ c.args.offset / 4 - c.args.offset / 4 = omega arith in
    subst (λ (k : ℕ). BasesSoFar c.args.store.now c.args.store.now c.args.self.now (c.args.offset / 4) k (replicate (touched c.args.offset c.args.n) 0)) none
    (bases_start c.args.store.now c.args.self.now (c.args.offset / 4) (replicate (touched c.args.offset c.args.n) 0) c.requires.stands)

pub loop-w-preserved : goal.loop-w-preserved
loop-w-preserved c =
    let first : ℕ = c.args.offset / 4 in
    let k : ℕ = c.loop-w.w - c.args.offset / 4 in
    let count : ℕ = touched c.args.offset c.args.n in
    let here : first + k ≡ c.loop-w.w = omega arith in
    let more : k + 1 ≡ c.loop-w.w + 1 - c.args.offset / 4 = omega arith in
    let below : k < count = omega arith in
    let room : first + length {A = ℕ} (replicate count 0) ≤ words_of c.args.self.now.size = omega (arith, length-replicate {A = ℕ} count 0) in
    subst (λ (n : ℕ). BasesSoFar c.args.store.now c.set_base.new.store c.args.self.now (c.args.offset / 4) n (replicate (touched c.args.offset c.args.n) 0)) more
    (bases_step c.args.store.now c.loop-w.store c.set_base.new.store c.args.self.now first k 0 (replicate count 0)
    c.requires.stands room c.loop-w.invariant c.set_base.ensures.stands (omega (arith, length-replicate {A = ℕ} count 0)) (sym (get_or-replicate count k 0 0 below))
    (subst (λ (n : ℕ). Turns c.loop-w.store c.set_base.new.store c.args.self.now.block (layout_in c.args.self.now.layout) (with_base_at n 0)) (sym here) c.set_base.ensures.turns))
