use Rattle.std.proofs.Common.{◌≡◌, ◌%◌, List, ℕ, eqb, cond, map, subst}
use Rattle.fat_code.specs.Bare.{followed}
use Rattle.fat_code.proofs.Stripping.{next_coming}
use Rattle.fat_code.proofs.bare.Stripped.next.Goals as goal

pub returns : goal.returns
returns c =
    let me = c.args.self in
    let made_done = subst (λ (xs : List ℕ). c.in_ok-done.done.items ≡ cond (eqb (c.args.left % 2) 1) (map (followed xs) me.done.items) me.done.items)
    c.as_slice.ensures.value c.in_ok-done.ensures in
    let first_step = subst (λ (xs : List ℕ). c.in_ok-step.step.items ≡ map (followed xs) c.as_slice-2.result.now) c.as_slice-3.ensures.value c.in_ok-step.ensures in
    let made_step = subst (λ (xs : List ℕ). c.in_ok-step.step.items ≡ map (followed me.step.items) xs) c.as_slice-2.ensures.value first_step in
    next_coming c.args.nodes.now me (record { done = c.in_ok-done.done; step = c.in_ok-step.step }) c.args.left c.requires.coming made_done made_step
