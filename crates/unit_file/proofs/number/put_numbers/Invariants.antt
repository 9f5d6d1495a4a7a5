use Rattle.std.proofs.Common.{◌≡◌, ◌++◌, take}
use Rattle.unit_file.specs.Spelling.{numbers}
use Rattle.unit_file.proofs.number.put_numbers.Given as goal

abbrev pub invariant-loop-number : goal.invariant-loop-number
invariant-loop-number l = l.out.items ≡ l.fn.out.items ++ numbers (take l.number-index l.all)
