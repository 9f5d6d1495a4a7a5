use Rattle.std.proofs.Common.{◌≡◌, ℕ, position, eqb, is_some, sym, ap, subst, ◌∙◌, arith}
use Rattle.std.proofs.lemmas.Bool.Decides.{nat_tests}
use Rattle.guest_mem.specs.Regions.{regions_of}
use Rattle.guest_mem.specs.Guest.{covers}
use Rattle.guest_mem.proofs.Places.{bytes_at-nothing}
use Rattle.guest_mem.proofs.Ready.{serving, covers_found}
use Rattle.guest_mem.proofs.guest.Guest.covers.Goals as goal

pub returns-then-n-eq0 : goal.returns-then-n-eq0
returns-then-n-eq0 c =
    let none : c.args.n ≡ 0 = grind (arith, nat_tests) in
    subst (λ (m : ℕ). eqb m 0 ≡ covers (regions_of c.args.self.now) c.args.right c.args.at m) (sym none)
    (sym (ap is_some (bytes_at-nothing (regions_of c.args.self.now) c.args.right c.args.at)))

pub returns-else-n-eq0 : goal.returns-else-n-eq0
returns-else-n-eq0 c =
    c.is_some.ensures
    ∙ covers_found c.args.self.now c.args.right c.args.at c.args.n c.place_of.result (grind (arith, nat_tests))
    (sym (c.place_of.ensures ∙ ap (position (serving c.args.right c.args.at c.args.n)) (c.deref.ensures.value ∙ c.self.view_is)))
