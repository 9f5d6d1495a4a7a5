use Rattle.std.proofs.Common.{◌≡◌, sym, arith}
use Rattle.std.proofs.lemmas.Grind.{common_steps}
use Rattle.pp_token.specs.HideSets.{has, common}
use Rattle.pp_token.proofs.HideSetLaws.{NoRepeats-filter, NoRepeats-same}
use Rattle.pp_token.proofs.hide_set.HideSet.common.Goals as goal

pub invariant_of-result : goal.invariant_of-result
invariant_of-result c =
    let all : c.loop-name.names.items ≡ common c.args.self.now c.args.others.now = grind (arith, common_steps) in
    NoRepeats-same c.loop-name.names.items (common c.args.self.now c.args.others.now) all (NoRepeats-filter (λ name. has c.args.others.now name) c.args.self.now
    (NoRepeats-same c.args.self.now c.as_slice-name-items.result.now (sym c.as_slice-name-items.ensures.names) c.as_slice-name-items.ensures.once))
