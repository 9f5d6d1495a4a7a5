use Rattle.std.proofs.Common.{◌≡◌, ◌+◌, vec_len}
use Rattle.cpp_text.proofs.source.next_line.Given as goal

abbrev pub invariant-loop-token : goal.invariant-loop-token
invariant-loop-token l = vec_len l.line + vec_len l.rest ≡ vec_len l.initial.rest

abbrev pub decreases-loop-token : goal.decreases-loop-token
decreases-loop-token l = vec_len l.rest
