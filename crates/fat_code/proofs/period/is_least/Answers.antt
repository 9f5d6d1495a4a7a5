use Rattle.std.proofs.Common.{Bool, ◌/◌, length, sym, subst, arith}
use Rattle.fat_code.specs.Divisors.{Repeats}
use Rattle.fat_code.proofs.Bits.{is_not_least, is_least_one, half_less}
use Rattle.fat_code.proofs.period.is_least.Goals as goal

pub returns-then-is_repeated : goal.returns-then-is_repeated
returns-then-is_repeated c =
    let kinds = c.args.kinds.now in
    let times = c.loop-times.times in
    let is = subst (λ (b : Bool). Repeats kinds times b) c.if-is_repeated.true c.is_repeated.ensures in
    sym (is_not_least kinds (length kinds / times) is.1 (half_less (length kinds) times (omega arith) (omega arith)))

pub returns : goal.returns
returns c = sym (is_least_one c.args.kinds.now c.requires (λ times low high. c.loop-times.invariant times low (omega arith)))
