use Rattle.std.proofs.Common.{◌≡◌, ◌+◌, false, length}
use Rattle.pp_token.specs.Scanning as scanning
use Rattle.pp_token.proofs.piece.header_rest.Given as goal

abbrev pub invariant-loop-rest : goal.invariant-loop-rest
invariant-loop-rest l = record {
  counted : l.length + length l.rest ≡ length l.text;
  read : scanning.header_rest l.close false l.text ≡ scanning.further l.length (scanning.header_rest l.close l.some l.rest);
}

abbrev pub decreases-loop-rest : goal.decreases-loop-rest
decreases-loop-rest l = length l.rest
