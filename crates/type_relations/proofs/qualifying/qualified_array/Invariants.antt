use Rattle.std.proofs.Common.{vec_len}
use Rattle.type_relations.proofs.qualifying.qualified_array.Given as goal

abbrev pub decreases-loop-count : goal.decreases-loop-count
decreases-loop-count l = vec_len l.counts
