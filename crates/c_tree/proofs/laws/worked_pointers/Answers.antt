use Rattle.std.proofs.Common.{ap}
use Rattle.c_memory.specs.Access.{within, read_of, write_of, clear_of}
use Rattle.c_memory.specs.Blocks.{killed, sealed_at}
use Rattle.c_memory.specs.Copying.{copy_of}
use Rattle.c_memory.specs.Storage.{class_of, created, live_in, next_base, stored_of}
use Rattle.c_ops.specs.Operators.{operated, turned}
use Rattle.c_ops.specs.Runs.{run_by}
use Rattle.c_types.specs.Nodes.{unqualified}
use Rattle.c_types.specs.Layouts.{layout_by}
use Rattle.c_link.specs.Start.{made_of, filled_of}
use Rattle.c_link.specs.Start as link
use Rattle.c_shapes.specs.Away.{watched_access}
use Rattle.c_tree.specs.Meaning.{does, action_of}
use Rattle.c_tree.specs.Programs.{program_of, start_of}
use Rattle.c_tree.specs.Views.{is_const, typed_view}
use Rattle.c_tree.specs.Watching.{watched_row, start_watch}
use Rattle.c_tree.specs.Samples.{end_by, watch_by}
use Rattle.c_tree.specs.WorkedPointers.{numbers, bytes}
use Rattle.c_tree.proofs.PointerCodes.{numbers_codes, bytes_codes}
use Rattle.c_tree.proofs.laws.worked_pointers.Goals as goal

pub returns-clause-numbers_rows : goal.returns-clause-numbers_rows
returns-clause-numbers_rows c = numbers_codes

pub returns-clause-numbers_end : goal.returns-clause-numbers_end
unfolding within read_of write_of clear_of killed sealed_at copy_of class_of created live_in next_base stored_of operated turned run_by unqualified layout_by made_of filled_of link.start_of does action_of program_of start_of is_const typed_view watched_access watched_row start_watch
returns-clause-numbers_end c = ap (end_by numbers 37) numbers_codes

pub returns-clause-numbers_go_on : goal.returns-clause-numbers_go_on
unfolding within read_of write_of clear_of killed sealed_at copy_of class_of created live_in next_base stored_of operated turned run_by unqualified layout_by made_of filled_of link.start_of does action_of program_of start_of is_const typed_view watched_access watched_row start_watch
returns-clause-numbers_go_on c = ap (end_by numbers 36) numbers_codes

pub returns-clause-numbers_watch : goal.returns-clause-numbers_watch
unfolding within read_of write_of clear_of killed sealed_at copy_of class_of created live_in next_base stored_of operated turned run_by unqualified layout_by made_of filled_of link.start_of does action_of program_of start_of is_const typed_view watched_access watched_row start_watch
returns-clause-numbers_watch c = ap (watch_by numbers 37) numbers_codes

pub returns-clause-bytes_rows : goal.returns-clause-bytes_rows
returns-clause-bytes_rows c = bytes_codes

pub returns-clause-bytes_end : goal.returns-clause-bytes_end
unfolding within read_of write_of clear_of killed sealed_at copy_of class_of created live_in next_base stored_of operated turned run_by unqualified layout_by made_of filled_of link.start_of does action_of program_of start_of is_const typed_view watched_access watched_row start_watch
returns-clause-bytes_end c = ap (end_by bytes 130) bytes_codes

pub returns-clause-bytes_go_on : goal.returns-clause-bytes_go_on
unfolding within read_of write_of clear_of killed sealed_at copy_of class_of created live_in next_base stored_of operated turned run_by unqualified layout_by made_of filled_of link.start_of does action_of program_of start_of is_const typed_view watched_access watched_row start_watch
returns-clause-bytes_go_on c = ap (end_by bytes 129) bytes_codes

pub returns-clause-bytes_watch : goal.returns-clause-bytes_watch
unfolding within read_of write_of clear_of killed sealed_at copy_of class_of created live_in next_base stored_of operated turned run_by unqualified layout_by made_of filled_of link.start_of does action_of program_of start_of is_const typed_view watched_access watched_row start_watch
returns-clause-bytes_watch c = ap (watch_by bytes 130) bytes_codes
