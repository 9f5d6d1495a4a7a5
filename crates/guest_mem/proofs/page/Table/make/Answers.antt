use Rattle.std.proofs.Common.{◌≡◌, ℕ, ◌<◌, [], List, length, get_or, set, sym, ap, ◌∙◌, subst, arith, Result, Ok, Err}
use Rattle.std.specs.Prelude.{IfOk}
use Rattle.guest_mem.proofs.Pages.{page_of_table, page_of_table-made}
use Rattle.guest_mem.specs.Pages.{IsTable}
use Rattle.guest_mem.proofs.page.Table.make.Goals as goal

made : {E : Type 0} (mid : List (List ℕ)) (index : ℕ) (page : List ℕ) (result : Result (Unit {0}) E) → index < length mid → IfOk result (λ _. 0 < length page)
    → IfOk result (λ _. 0 < length (get_or (set mid index page) index []))
made mid index page (Ok x) inside some = page_of_table-made mid index page inside some
made mid index page (Err e) inside some = some

pub returns-clause-made : goal.returns-clause-made
returns-clause-made c =
    let long : length c.self.inside.pages.items ≡ 1024 = ap length c.self.view_is ∙ c.in_ok-make_table.ensures.made in
    made c.self.inside.pages.items c.args.index c.make.new.self c.make.result (omega (arith, c.requires.index)) c.make.ensures.made

pub returns-clause-kept : goal.returns-clause-kept
returns-clause-kept c =
    let long : length c.self.inside.pages.items ≡ 1024 = ap length c.self.view_is ∙ c.in_ok-make_table.ensures.made in
    page_of_table c.args.self.now c.self.inside.pages.items c.args.index c.index_mut.result.now c.make.new.self
    (λ (k : ℕ). ap (λ (pages : List (List ℕ)). get_or pages k []) c.self.view_is ∙ c.make_table.ensures.same k)
    (subst IsTable (sym c.self.view_is) c.make_table.ensures.whole) (omega (arith, c.requires.index)) c.index_mut.ensures.value c.make.ensures.kept
