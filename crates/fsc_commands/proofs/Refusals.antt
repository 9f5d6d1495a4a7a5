-- What refuses units refuses the files that gave them.
use Rattle.std.proofs.Common.{ℕ, List, Result, Ok, Err}
use Rattle.std.specs.Prelude.{IfErr}
use Rattle.fsc_outside.specs.Calls.{FileCounts}
use Rattle.fsc_core.specs.declared.refusal.CoreNo.{CoreNo}
use Rattle.fsc_core.specs.Refusing.{RefusesUnits, RefusesFiles}
use Rattle.fsc_core.proofs.Earlier.{units_files}

pub units_answer : {A : Type 0} (answer : Result A CoreNo) (names : List (List ℕ)) (counts : FileCounts) → IfErr answer RefusesUnits → IfErr answer (λ no. RefusesFiles no names counts)
units_answer (Ok made) names counts why = why
units_answer (Err refusal) names counts why = units_files refusal names counts why
