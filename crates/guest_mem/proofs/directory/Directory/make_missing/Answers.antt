use Rattle.std.proofs.Common.{◌≡◌, ℕ, ◌/◌, ◌%◌, ◌<◌, [], List, length, get_or, set, Result, Ok, Err, sym, ap, ◌∙◌, subst, arith}
use Rattle.std.specs.Prelude.{IfOk, IsTrue}
use Rattle.guest_mem.specs.Pages.{is_made, Keeps}
use Rattle.guest_mem.proofs.Pages.{keeps, table_kept, made_there, IsDirectory-kept}
use Rattle.guest_mem.proofs.directory.Directory.make_missing.Goals as goal

pub invariant_of-self : goal.invariant_of-self
invariant_of-self c =
    let inside : c.args.place / 4194304 < length c.self.inside.tables.items = subst (λ (ts : List (List (List ℕ))). c.args.place / 4194304 < length ts) (sym c.self.view_is) c.requires in
    IsDirectory-kept c.self.inside.tables.items (c.args.place / 4194304) c.make.new.self inside
    (table_kept c.self.inside.tables.items (c.args.place / 4194304) c.index_mut.result.now c.make.new.self inside c.index_mut.ensures.value c.make.ensures.kept) c.self.invariant

pub returns-clause-kept : goal.returns-clause-kept
returns-clause-kept c =
    let inside : c.args.place / 4194304 < length c.self.inside.tables.items = subst (λ (ts : List (List (List ℕ))). c.args.place / 4194304 < length ts) (sym c.self.view_is) c.requires in
    subst (λ (ts : List (List (List ℕ))). Keeps ts (set c.self.inside.tables.items (c.args.place / 4194304) c.make.new.self)) c.self.view_is
    (keeps c.self.inside.tables.items (c.args.place / 4194304) c.make.new.self inside
    (table_kept c.self.inside.tables.items (c.args.place / 4194304) c.index_mut.result.now c.make.new.self inside c.index_mut.ensures.value c.make.ensures.kept))

made : {E : Type 0} (tables : List (List (List ℕ))) (place : ℕ) (table : List (List ℕ)) (result : Result (Unit {0}) E) → place / 4194304 < length tables
    → IfOk result (λ _. 0 < length (get_or table (place / 4096 % 1024) [])) → IfOk result (λ _. IsTrue (is_made (set tables (place / 4194304) table) place))
made tables place table (Ok x) inside some = made_there tables place table inside some
made tables place table (Err e) inside some = some

pub returns-clause-made : goal.returns-clause-made
returns-clause-made c =
    let inside : c.args.place / 4194304 < length c.self.inside.tables.items = subst (λ (ts : List (List (List ℕ))). c.args.place / 4194304 < length ts) (sym c.self.view_is) c.requires in
    made c.self.inside.tables.items c.args.place c.make.new.self c.make.result inside c.make.ensures.made
