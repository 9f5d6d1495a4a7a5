use Rattle.std.proofs.Common.{◌≡◌, ℕ, ◌++◌, drop, subst, sym, ap, ◌∙◌}
use Rattle.std.proofs.lemmas.List.{append-nil}
use Rattle.unit_file.specs.Spelling.{number, spelled_node}
use Rattle.unit_file.proofs.types.TypeNodeSpelled.read.Goals as goal

pub returns-in-0 : goal.returns-in-0
unfolding spelled_node
returns-in-0 c =
    let file = c.args.file.now in
    record {
      bytes = subst (λ (tag : ℕ). drop c.args.at file ≡ number tag ++ drop c.in_ok-tag.tag.behind file) c.in-0.is c.in_ok-tag.ensures.read.bytes
          ∙ ap (λ (xs : _). xs ++ drop c.in_ok-tag.tag.behind file) (sym (append-nil (number 0)));
      within = c.in_ok-tag.ensures.read.within;
    }
