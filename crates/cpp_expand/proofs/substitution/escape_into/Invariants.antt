use Rattle.std.proofs.Common.{◌≡◌, ◌++◌, drop}
use Rattle.cpp_expand.specs.Operators.{escaped}
use Rattle.cpp_expand.proofs.substitution.escape_into.Given as goal

abbrev pub invariant-loop-c : goal.invariant-loop-c
invariant-loop-c l = l.string.items ++ escaped (drop l.c-index l.text) ≡ l.initial.string.items ++ escaped l.text
