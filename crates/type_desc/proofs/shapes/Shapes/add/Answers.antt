use Rattle.std.proofs.Common.{◌≡◌, ℕ, List, [], ◌∷◌, ◌++◌, None, nat_eq, ap, ◌∙◌}
use Rattle.fsc_base.specs.declared.word.WordKind.{WordKind}
use Rattle.indexmap.proofs.CallerLemmas.{insert_entry-new}
use Rattle.type_desc.specs.Shapes.{shape_of}
use Rattle.type_desc.proofs.shapes.Shapes.add.Goals as goal

pub returns-clause-added : goal.returns-clause-added
returns-clause-added c =
    let none : shape_of c.self.inside.pairs.entries c.args.desc ≡ None = ap (λ (pairs : List (ℕ × List WordKind)). shape_of pairs c.args.desc) c.self.view_is ∙ c.requires.absent in
    c.in_ok-insert.ensures.entries
    ∙ insert_entry-new nat_eq c.self.inside.pairs c.args.desc c.args.shape none
    ∙ ap (λ (pairs : List (ℕ × List WordKind)). pairs ++ (c.args.desc, c.args.shape) ∷ []) c.self.view_is
