use Rattle.std.proofs.Common.{◌≡◌, List, ◌++◌, subst}
use Rattle.std.specs.Prelude.{OnOk}
use Rattle.fat_code.specs.declared.unit.FatFunction.{FatFunction}
use Rattle.fat_code.specs.declared.unit.FatObject.{FatObject}
use Rattle.fat_code.specs.declared.unit.FatSymbol.{FatSymbol}
use Rattle.unit_file.specs.Spelling.{list_of, spelled_symbol, spelled_function, spelled_object}
use Rattle.unit_file.proofs.Bytes.{three_put}
use Rattle.unit_file.proofs.unit.put_back.Goals as goal

pub returns : goal.returns
returns c =
    let me = c.args.parts.now in
    let symbols = subst (λ (xs : List FatSymbol). c.put_list.new.out.items ≡ c.args.out.now.items ++ list_of spelled_symbol xs) c.as_slice.ensures c.in_ok-put_list.ensures in
    let functions = subst (λ (xs : List FatFunction). c.put_list-2.new.out.items ≡ c.put_list.new.out.items ++ list_of spelled_function xs) c.as_slice-2.ensures c.in_ok-put_list-2.ensures in
    let objects = subst (λ (xs : List FatObject). OnOk c.put_list-3.result (c.put_list-3.new.out.items ≡ c.put_list-2.new.out.items ++ list_of spelled_object xs)) c.as_slice-3.ensures c.put_list-3.ensures in
    three_put c.put_list-3.result c.args.out.now.items c.put_list.new.out.items c.put_list-2.new.out.items c.put_list-3.new.out.items
    (list_of spelled_symbol me.symbols) (list_of spelled_function me.functions) (list_of spelled_object me.objects) symbols functions objects
