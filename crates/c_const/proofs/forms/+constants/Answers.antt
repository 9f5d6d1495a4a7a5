use Rattle.std.proofs.Common.{ap, ◌∙◌}
use Rattle.c_tree.specs.declared.expression.TExpr.{TExpr}
use Rattle.c_tree.specs.Constants.{constant_of}
use Rattle.c_const.specs.Told.{told_of}
use Rattle.c_const.proofs.Choosing.{chosen_row}
use Rattle.c_const.proofs.forms.+constants.Goals as goal

pub value_of-returns-in-Choose : goal.value_of-returns-in-Choose
value_of-returns-in-Choose t c =
    let types = c.args.types.now in
    let first = c.live_on_set-in-Choose.result in
    let second = c.live_on_zero-in-Choose.result in
    chosen_row types c.args.e.now c.in-Choose.test c.in-Choose.a c.in-Choose.b c.args.is_live first second
    (told_of c.value_of-test.result) (told_of c.value_of-left-in-Choose.result) (told_of c.value_of-right.result) (told_of c.chosen.result)
    c.in-Choose.is
    (c.value_of-test.ensures ∙ ap (λ (x : TExpr). (constant_of types x).value c.args.is_live) c.get-in-Choose.ensures)
    c.live_on_set-in-Choose.ensures c.live_on_zero-in-Choose.ensures
    (c.value_of-left-in-Choose.ensures ∙ ap (λ (x : TExpr). (constant_of types x).value first) c.get-in-Choose-2.ensures)
    (c.value_of-right.ensures ∙ ap (λ (x : TExpr). (constant_of types x).value second) c.get-in-Choose-3.ensures)
    c.chosen.ensures
