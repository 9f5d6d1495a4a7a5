use Rattle.std.proofs.Common.{◌≡◌, ◌+◌, length}
use Rattle.pp_token.specs.Scanning as scanning
use Rattle.pp_token.proofs.spelling.number_rest.Given as goal

abbrev pub invariant-loop-rest : goal.invariant-loop-rest
invariant-loop-rest l = record {
  counted : l.length + length l.rest ≡ length l.text;
  read : scanning.number_rest l.previous l.text ≡ l.length + scanning.number_rest l.last l.rest;
}

abbrev pub decreases-loop-rest : goal.decreases-loop-rest
decreases-loop-rest l = length l.rest
