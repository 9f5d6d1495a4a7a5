use Rattle.std.proofs.Common.{◌≡◌, List, ◌++◌, subst, ◌∷◌, []}
use Rattle.std.specs.Prelude.{OnOk}
use Rattle.fat_code.specs.declared.op.Op.{Op}
use Rattle.fat_code.specs.declared.unit.FatEntry.{FatEntry}
use Rattle.unit_file.specs.Spelling.{numbers, list_of, spelled_entry, spelled_op}
use Rattle.unit_file.specs.Tags.{flag_tag}
use Rattle.unit_file.proofs.Bytes.{three_put}
use Rattle.unit_file.proofs.parts.FatFunctionSpelled.put.Goals as goal

pub returns : goal.returns
returns c =
    let me = c.args.self.now in
    let head = c.in_ok-put_numbers.ensures in
    let entries = subst (λ (xs : List FatEntry). c.put_list.new.out.items ≡ c.put_numbers.new.out.items ++ list_of spelled_entry xs) c.as_slice.ensures c.in_ok-put_list.ensures in
    let ops = subst (λ (xs : List Op). OnOk c.put_list-2.result (c.put_list-2.new.out.items ≡ c.put_list.new.out.items ++ list_of spelled_op xs)) c.as_slice-2.ensures c.put_list-2.ensures in
    three_put c.put_list-2.result c.args.out.now.items c.put_numbers.new.out.items c.put_list.new.out.items c.put_list-2.new.out.items
    (numbers (me.parameters ∷ me.slots ∷ flag_tag me.is_variadic ∷ [])) (list_of spelled_entry me.entries) (list_of spelled_op me.ops) (rw c.number_of_flag.ensures at head) entries ops
