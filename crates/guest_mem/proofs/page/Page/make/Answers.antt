use Rattle.std.proofs.Common.{◌≡◌, ℕ, List, length, sym, ap, ◌∙◌, subst, arith}
use Rattle.std.proofs.lemmas.Bool.Decides.{nat_tests}
use Rattle.guest_mem.specs.Pages.{zeros, KeepsPage}
use Rattle.guest_mem.proofs.Pages.{length-zeros, new_page}
use Rattle.guest_mem.proofs.page.Page.make.Goals as goal

pub returns-in_ok-self-inside-clause-made : goal.returns-in_ok-self-inside-clause-made
returns-in_ok-self-inside-clause-made c = omega (arith, ap length (c.drop.view_is ∙ c.in_ok-self-inside.ensures), length-zeros 4096)

pub returns-in_ok-self-inside-clause-kept : goal.returns-in_ok-self-inside-clause-kept
returns-in_ok-self-inside-clause-kept c =
    let none : length c.args.self.now ≡ 0 = grind (arith, nat_tests) in
    subst (λ (page : List ℕ). KeepsPage c.args.self.now page) (sym (c.drop.view_is ∙ c.in_ok-self-inside.ensures)) (new_page c.args.self.now none)
