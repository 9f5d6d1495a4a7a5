use Rattle.std.proofs.Common.{◌≡◌, ◌+◌, List, length, min, subst}
use Rattle.std.specs.Prelude.{flat_map}
use Rattle.std.proofs.lemmas.List.{take_all}
use Rattle.fat_code.specs.declared.fault.Version.TheVariants.{Two}
use Rattle.unit_file.proofs.Bytes.{length-list_of}
use Rattle.unit_file.proofs.spelled.count_list.Goals as goal

pub returns : goal.returns
returns g c =
    let spelled = g.T.Spelled.spelled Two in
    let items = c.args.items.now in
    let all = take_all c.loop-item.item-index items c.loop-item-test.false in
    let sum = subst (λ (xs : List _). c.loop-item.sum ≡ min (4 + length (flat_map spelled xs)) 18446744073709551615) all c.loop-item.invariant in
    rw (length-list_of spelled items) sum
