use Rattle.std.proofs.Common.{refl, lit<}
use Rattle.std.specs.Fmt.{digits}
use Rattle.c_link.specs.Broken.{defined_twice, undefined, no_main, many_nodes}
use Rattle.c_link.proofs.laws.faults_are_told.Goals as goal

pub returns-clause-empty : goal.returns-clause-empty
returns-clause-empty c = no_main refl

pub returns-clause-undefined : goal.returns-clause-undefined
returns-clause-undefined c = undefined (0, refl) refl

pub returns-clause-twice : goal.returns-clause-twice
unfolding digits
returns-clause-twice c = defined_twice (0, 1, lit< tt, refl, refl) (refl, refl) refl refl

pub returns-clause-nodes : goal.returns-clause-nodes
unfolding digits
returns-clause-nodes c = many_nodes (lit< tt)
