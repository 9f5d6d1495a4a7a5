use Rattle.std.proofs.Common.{ap}
use Rattle.c_memory.specs.Access.{within, read_of, write_of, clear_of}
use Rattle.c_memory.specs.Blocks.{killed, sealed_at}
use Rattle.c_memory.specs.Copying.{copy_of}
use Rattle.c_memory.specs.Storage.{class_of, created, live_in, next_base, stored_of}
use Rattle.c_ops.specs.Operators.{operated, turned}
use Rattle.c_ops.specs.Runs.{run_by}
use Rattle.c_types.specs.Nodes.{unqualified}
use Rattle.c_types.specs.Layouts.{layout_by}
use Rattle.c_link.specs.Start.{made_of, filled_of}
use Rattle.c_link.specs.Start as link
use Rattle.c_shapes.specs.Away.{watched_access}
use Rattle.c_tree.specs.Meaning.{does, action_of}
use Rattle.c_tree.specs.Programs.{program_of, start_of}
use Rattle.c_tree.specs.Views.{is_const, typed_view}
use Rattle.c_tree.specs.Watching.{watched_row, start_watch}
use Rattle.c_tree.specs.Samples.{end_by, watch_by}
use Rattle.c_tree.specs.Worked.{seven, past_end}
use Rattle.c_tree.proofs.Codes.{seven_codes, past_end_codes}
use Rattle.c_tree.proofs.laws.worked_programs.Goals as goal

pub returns-clause-seven_rows : goal.returns-clause-seven_rows
returns-clause-seven_rows c = seven_codes

pub returns-clause-seven_ends : goal.returns-clause-seven_ends
unfolding within read_of write_of clear_of killed sealed_at copy_of class_of created live_in next_base stored_of operated turned run_by unqualified layout_by made_of filled_of link.start_of does action_of program_of start_of is_const typed_view watched_access watched_row start_watch
returns-clause-seven_ends c = ap (end_by seven 4) seven_codes

pub returns-clause-seven_goes_on : goal.returns-clause-seven_goes_on
unfolding within read_of write_of clear_of killed sealed_at copy_of class_of created live_in next_base stored_of operated turned run_by unqualified layout_by made_of filled_of link.start_of does action_of program_of start_of is_const typed_view watched_access watched_row start_watch
returns-clause-seven_goes_on c = ap (end_by seven 3) seven_codes

pub returns-clause-past_end_rows : goal.returns-clause-past_end_rows
returns-clause-past_end_rows c = past_end_codes

pub returns-clause-past_end_ends : goal.returns-clause-past_end_ends
unfolding within read_of write_of clear_of killed sealed_at copy_of class_of created live_in next_base stored_of operated turned run_by unqualified layout_by made_of filled_of link.start_of does action_of program_of start_of is_const typed_view watched_access watched_row start_watch
returns-clause-past_end_ends c = ap (end_by past_end 11) past_end_codes

pub returns-clause-past_end_goes_on : goal.returns-clause-past_end_goes_on
unfolding within read_of write_of clear_of killed sealed_at copy_of class_of created live_in next_base stored_of operated turned run_by unqualified layout_by made_of filled_of link.start_of does action_of program_of start_of is_const typed_view watched_access watched_row start_watch
returns-clause-past_end_goes_on c = ap (end_by past_end 10) past_end_codes

pub returns-clause-past_end_watch : goal.returns-clause-past_end_watch
unfolding within read_of write_of clear_of killed sealed_at copy_of class_of created live_in next_base stored_of operated turned run_by unqualified layout_by made_of filled_of link.start_of does action_of program_of start_of is_const typed_view watched_access watched_row start_watch
returns-clause-past_end_watch c = ap (watch_by past_end 11) past_end_codes
