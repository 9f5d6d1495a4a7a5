use Rattle.std.proofs.Common.{◌≡◌, ◌+◌, false, length}
use Rattle.pp_token.specs.Scanning as scanning
use Rattle.pp_token.proofs.piece.comment_rest.Given as goal

abbrev pub invariant-loop-rest : goal.invariant-loop-rest
invariant-loop-rest l = record {
  counted : l.length + length l.rest ≡ length l.text;
  read : scanning.comment_rest false l.text ≡ scanning.further l.length (scanning.comment_rest l.starred l.rest);
}

abbrev pub decreases-loop-rest : goal.decreases-loop-rest
decreases-loop-rest l = length l.rest
