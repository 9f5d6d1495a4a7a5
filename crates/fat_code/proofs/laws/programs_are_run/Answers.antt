use Rattle.std.proofs.Common.{refl}
use Rattle.c_memory.specs.Access.{within, read_of, write_of}
use Rattle.c_memory.specs.Blocks.{killed}
use Rattle.c_memory.specs.Copying.{copy_of}
use Rattle.c_memory.specs.Storage.{class_of, live_in, created, stored_of, next_base}
use Rattle.c_ops.specs.Operators.{binary_of, unary_of}
use Rattle.c_ops.specs.Runs.{run_by}
use Rattle.c_shapes.specs.Away.{watched_access}
use Rattle.c_link.specs.Start.{made_of, filled_of, start_of}
use Rattle.fat_code.specs.Views.{fat_view}
use Rattle.fat_code.specs.States.{function_at}
use Rattle.fat_code.specs.Machine.{does, fat_action, watched_op, fat_watched, FatRun}
use Rattle.fat_code.proofs.laws.programs_are_run.Goals as goal

pub returns-clause-seven : goal.returns-clause-seven
unfolding within read_of write_of killed copy_of class_of live_in created stored_of next_base binary_of unary_of run_by watched_access made_of filled_of start_of fat_view function_at does fat_action watched_op fat_watched FatRun
returns-clause-seven c = (refl, refl)

pub returns-clause-sum : goal.returns-clause-sum
unfolding within read_of write_of killed copy_of class_of live_in created stored_of next_base binary_of unary_of run_by watched_access made_of filled_of start_of fat_view function_at does fat_action watched_op fat_watched FatRun
returns-clause-sum c = refl

pub returns-clause-behind : goal.returns-clause-behind
unfolding within read_of write_of killed copy_of class_of live_in created stored_of next_base binary_of unary_of run_by watched_access made_of filled_of start_of fat_view function_at does fat_action watched_op fat_watched FatRun
returns-clause-behind c = (refl, refl)

pub returns-clause-echo : goal.returns-clause-echo
unfolding within read_of write_of killed copy_of class_of live_in created stored_of next_base binary_of unary_of run_by watched_access made_of filled_of start_of fat_view function_at does fat_action watched_op fat_watched FatRun
returns-clause-echo c = (refl, refl)

pub returns-clause-allocated : goal.returns-clause-allocated
unfolding within read_of write_of killed copy_of class_of live_in created stored_of next_base binary_of unary_of run_by watched_access made_of filled_of start_of fat_view function_at does fat_action watched_op fat_watched FatRun
returns-clause-allocated c = (refl, refl)

pub returns-clause-ends : goal.returns-clause-ends
unfolding within read_of write_of killed copy_of class_of live_in created stored_of next_base binary_of unary_of run_by watched_access made_of filled_of start_of fat_view function_at does fat_action watched_op fat_watched FatRun
returns-clause-ends c = (refl, refl, refl, refl)
