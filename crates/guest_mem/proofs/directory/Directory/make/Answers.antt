use Rattle.std.proofs.Common.{◌≡◌, ℕ, ◌<◌, List, length, sym, ap, ◌∙◌, subst, arith}
use Rattle.std.proofs.lemmas.Bool.Decides.{nat_tests}
use Rattle.guest_mem.proofs.Pages.{is_made-some, some-is_made}
use Rattle.guest_mem.proofs.directory.Directory.make.Goals as goal

pub returns-then-is_empty-clause-ready : goal.returns-then-is_empty-clause-ready
returns-then-is_empty-clause-ready c was =
    let none : length c.page.result.now ≡ 0 = grind (arith, nat_tests) in
    absurd (omega (arith, is_made-some c.args.self.now c.args.place was, ap length c.page.ensures.page))

pub returns-else-is_empty-clause-made : goal.returns-else-is_empty-clause-made
returns-else-is_empty-clause-made c =
    let some : 0 < length c.page.result.now = grind (arith, nat_tests) in
    some-is_made c.args.self.now c.args.place (omega (arith, ap length c.page.ensures.page))
