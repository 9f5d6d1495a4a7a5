use Rattle.std.proofs.Common.{◌≡◌, take}
use Rattle.pp_token.specs.HideSets.{common}
use Rattle.pp_token.proofs.hide_set.HideSet.common.Given as goal

abbrev pub invariant-loop-name : goal.invariant-loop-name
invariant-loop-name l = l.names.items ≡ common (take l.name-index l.self) l.others
