use Rattle.std.proofs.Common.{◌≡◌, ◌++◌, ◌∷◌, [], false, refl, sym, ◌∙◌}
use Rattle.pp_token.specs.HideSets.{has}
use Rattle.pp_token.proofs.HideSetLaws.{NoRepeats-push, NoRepeats-same}
use Rattle.pp_token.proofs.hide_set.HideSet.insert.Goals as goal

pub invariant_of-self-2 : goal.invariant_of-self-2
invariant_of-self-2 c =
    let pushed : c.push.new.self.items ≡ c.self.inside.names.items ++ c.args.name.now ∷ [] = rw (c.in_ok-push.ensures.ok, c.in_ok-name.ensures) refl in
    let new : has c.self.inside.names.items c.args.name.now ≡ false = rw c.self.view_is (sym c.contains.ensures.tested ∙ c.if-contains.false) in
    NoRepeats-same c.push.new.self.items (c.self.inside.names.items ++ c.args.name.now ∷ []) pushed (NoRepeats-push c.self.inside.names.items c.args.name.now new c.self.invariant)
