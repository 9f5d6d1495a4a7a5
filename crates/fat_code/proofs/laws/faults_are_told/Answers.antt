use Rattle.std.proofs.Common.{refl}
use Rattle.c_types.specs.Nodes.{unqualified}
use Rattle.fat_code.specs.TypeRows.{type_rows}
use Rattle.fat_code.specs.UnitRows.{rows_of_shapes, rows_of_symbols, rows_of_objects}
use Rattle.fat_code.specs.OpRows.{op_rows}
use Rattle.fat_code.specs.FunctionRows.{rows_of_functions}
use Rattle.fat_code.specs.Faults.{table_of, fault_of}
use Rattle.fat_code.proofs.laws.faults_are_told.Goals as goal

pub returns-clause-sound : goal.returns-clause-sound
unfolding unqualified type_rows rows_of_shapes rows_of_symbols rows_of_objects op_rows rows_of_functions table_of fault_of
returns-clause-sound c = (refl, refl, refl)

pub returns-clause-types : goal.returns-clause-types
unfolding unqualified type_rows rows_of_shapes rows_of_symbols rows_of_objects op_rows rows_of_functions table_of fault_of
returns-clause-types c = refl

pub returns-clause-heads : goal.returns-clause-heads
unfolding unqualified type_rows rows_of_shapes rows_of_symbols rows_of_objects op_rows rows_of_functions table_of fault_of
returns-clause-heads c = refl

pub returns-clause-ops : goal.returns-clause-ops
unfolding unqualified type_rows rows_of_shapes rows_of_symbols rows_of_objects op_rows rows_of_functions table_of fault_of
returns-clause-ops c = refl

pub returns-clause-objects : goal.returns-clause-objects
unfolding unqualified type_rows rows_of_shapes rows_of_symbols rows_of_objects op_rows rows_of_functions table_of fault_of
returns-clause-objects c = refl
