use Rattle.std.proofs.Common.{◌≡◌, ◌≤◌, ◌+◌, [], length}
use Rattle.pp_token.specs.CharacterLoop.{ends, all_bytes, all_lines}
use Rattle.pp_token.proofs.characters.Characters.new.Given as goal

abbrev pub invariant-loop-rest : goal.invariant-loop-rest
invariant-loop-rest l = record {
  bytes : all_bytes l.characters.bytes.items l.characters.end l.rest ≡ all_bytes [] 1 l.bytes;
  lines : all_lines l.characters.lines.items l.characters.end l.rest ≡ all_lines [] 1 l.bytes;
  ends : ends l.characters.end l.rest ≡ ends 1 l.bytes;
  room : l.characters.end + length l.rest ≤ 1 + length l.bytes;
}

abbrev pub decreases-loop-rest : goal.decreases-loop-rest
decreases-loop-rest l = length l.rest
