use Rattle.std.proofs.Common.{◌≡◌, ℕ, [], List, length, get_or, inr, sym, ap, ◌∙◌, subst, arith}
use Rattle.std.proofs.lemmas.List.{get_or_past}
use Rattle.std.proofs.lemmas.Bool.Decides.{nat_tests}
use Rattle.guest_mem.proofs.Pages.{length-blanks, get_or-blanks}
use Rattle.guest_mem.specs.Pages.{blanks, IsTable}
use Rattle.guest_mem.proofs.page.Table.make_table.Goals as goal

long : (pages : List (List ℕ)) → pages ≡ blanks 1024 → length pages ≡ 1024
long pages is = ap length is ∙ length-blanks ℕ 1024

pub returns-in_ok-self-inside-clause-made : goal.returns-in_ok-self-inside-clause-made
returns-in_ok-self-inside-clause-made c = long _ (c.drop.view_is ∙ c.in_ok-self-inside.ensures)

pub returns-in_ok-self-inside-clause-same : goal.returns-in_ok-self-inside-clause-same
returns-in_ok-self-inside-clause-same c k =
    let none : length c.args.self.now ≡ 0 = grind (arith, nat_tests) in
    ap (λ (pages : List (List ℕ)). get_or pages k []) (c.drop.view_is ∙ c.in_ok-self-inside.ensures) ∙ get_or-blanks ℕ 1024 k ∙ sym (get_or_past c.args.self.now k [] (omega arith))

pub returns-in_ok-self-inside-clause-whole : goal.returns-in_ok-self-inside-clause-whole
returns-in_ok-self-inside-clause-whole c = inr (long _ (c.drop.view_is ∙ c.in_ok-self-inside.ensures))
