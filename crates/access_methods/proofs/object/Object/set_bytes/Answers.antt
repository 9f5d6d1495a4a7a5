use Rattle.std.proofs.Common.{ℕ, ◌+◌, ◌≤◌, List, length, take, subst}
use Rattle.std.proofs.lemmas.List.{take_rest}
use Rattle.access_methods.specs.Forms.{layout_in}
use Rattle.access_methods.specs.Objects.{Turns, with_bytes_at}
use Rattle.access_methods.proofs.Filling.{bytes_start, bytes_step}
use Rattle.access_methods.proofs.object.Object.set_bytes.Goals as goal

pub loop-done-init : goal.loop-done-init
loop-done-init c = bytes_start c.args.store.now c.args.self.now c.args.offset c.args.bytes.now c.requires.stands

pub loop-done-preserved : goal.loop-done-preserved
loop-done-preserved c =
    let r : ℕ = c.set_next-done.result in
    let at : ℕ = c.args.offset + c.loop-done.done in
    let rest = take_rest c.args.bytes.now c.loop-done.done in
    bytes_step c.args.store.now c.loop-done.store c.set_next-done.new.store c.args.self.now c.args.offset c.loop-done.done r c.args.bytes.now
    c.requires.stands c.requires.within c.loop-done.invariant c.set_next-done.ensures.stands
    (subst (λ (ys : List ℕ). r ≤ length ys) rest c.set_next-done.ensures.few)
    (subst (λ (ys : List ℕ). Turns c.loop-done.store c.set_next-done.new.store c.args.self.now.block (layout_in c.args.self.now.layout) (with_bytes_at at (take r ys)))
    rest c.set_next-done.ensures.turns)
