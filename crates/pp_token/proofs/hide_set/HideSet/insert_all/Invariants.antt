use Rattle.std.proofs.Common.{◌≡◌, drop}
use Rattle.pp_token.specs.HideSets.{with_names}
use Rattle.pp_token.proofs.hide_set.HideSet.insert_all.Given as goal

abbrev pub invariant-loop-other : goal.invariant-loop-other
invariant-loop-other l = with_names l.self (drop l.other-index l.others) ≡ with_names l.initial.self l.others
