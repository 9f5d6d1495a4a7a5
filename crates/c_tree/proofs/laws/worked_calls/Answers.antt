use Rattle.std.proofs.Common.{ap}
use Rattle.c_memory.specs.Access.{within, read_of, write_of, clear_of}
use Rattle.c_memory.specs.Blocks.{killed, sealed_at}
use Rattle.c_memory.specs.Copying.{copy_of}
use Rattle.c_memory.specs.Storage.{class_of, created, live_in, next_base, stored_of}
use Rattle.c_ops.specs.Operators.{operated, turned}
use Rattle.c_ops.specs.Runs.{run_by}
use Rattle.c_types.specs.Nodes.{unqualified}
use Rattle.c_types.specs.Layouts.{layout_by}
use Rattle.c_link.specs.Start.{made_of, filled_of}
use Rattle.c_link.specs.Start as link
use Rattle.c_shapes.specs.Away.{watched_access}
use Rattle.c_tree.specs.Meaning.{does, action_of}
use Rattle.c_tree.specs.Programs.{program_of, start_of}
use Rattle.c_tree.specs.Views.{is_const, typed_view}
use Rattle.c_tree.specs.Watching.{watched_row, start_watch}
use Rattle.c_tree.specs.Samples.{end_by}
use Rattle.c_tree.specs.WorkedCalls.{structs, variadic}
use Rattle.c_tree.proofs.Codes.{structs_codes, variadic_codes}
use Rattle.c_tree.proofs.laws.worked_calls.Goals as goal

pub returns-clause-structs_rows : goal.returns-clause-structs_rows
returns-clause-structs_rows c = structs_codes

pub returns-clause-structs_end : goal.returns-clause-structs_end
unfolding within read_of write_of clear_of killed sealed_at copy_of class_of created live_in next_base stored_of operated turned run_by unqualified layout_by made_of filled_of link.start_of does action_of program_of start_of is_const typed_view watched_access watched_row start_watch
returns-clause-structs_end c = ap (end_by structs 83) structs_codes

pub returns-clause-structs_go_on : goal.returns-clause-structs_go_on
unfolding within read_of write_of clear_of killed sealed_at copy_of class_of created live_in next_base stored_of operated turned run_by unqualified layout_by made_of filled_of link.start_of does action_of program_of start_of is_const typed_view watched_access watched_row start_watch
returns-clause-structs_go_on c = ap (end_by structs 82) structs_codes

pub returns-clause-variadic_rows : goal.returns-clause-variadic_rows
returns-clause-variadic_rows c = variadic_codes

pub returns-clause-variadic_ends : goal.returns-clause-variadic_ends
unfolding within read_of write_of clear_of killed sealed_at copy_of class_of created live_in next_base stored_of operated turned run_by unqualified layout_by made_of filled_of link.start_of does action_of program_of start_of is_const typed_view watched_access watched_row start_watch
returns-clause-variadic_ends c = ap (end_by variadic 92) variadic_codes

pub returns-clause-variadic_goes_on : goal.returns-clause-variadic_goes_on
unfolding within read_of write_of clear_of killed sealed_at copy_of class_of created live_in next_base stored_of operated turned run_by unqualified layout_by made_of filled_of link.start_of does action_of program_of start_of is_const typed_view watched_access watched_row start_watch
returns-clause-variadic_goes_on c = ap (end_by variadic 91) variadic_codes
