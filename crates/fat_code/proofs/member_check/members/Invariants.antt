use Rattle.fat_code.specs.Walking.{HasWalked}
use Rattle.fat_code.specs.Lengths.{member_bytes}
use Rattle.fat_code.specs.TypeRows.{member_rows}
use Rattle.fat_code.proofs.member_check.members.Given as goal

abbrev pub invariant-loop-index : goal.invariant-loop-index
invariant-loop-index l = HasWalked (member_rows l.version l.nodes l.is_union l.fields) (member_bytes l.version) l.fields l.start l.index l.at
