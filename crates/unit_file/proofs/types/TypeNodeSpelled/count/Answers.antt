use Rattle.std.proofs.Common.{◌≡◌, List, ℕ, ◌+◌, length, min, subst, arith}
use Rattle.c_types.specs.declared.node.TypeNode.TheVariants.{Function}
use Rattle.fat_code.specs.declared.fault.Version.TheVariants.{Two}
use Rattle.unit_file.specs.Spelling.{number, list_of, spelled_node}
use Rattle.unit_file.specs.Tags.{flag_tag}
use Rattle.unit_file.proofs.Bytes.{length-function}
use Rattle.unit_file.proofs.types.TypeNodeSpelled.count.Goals as goal

pub returns-in-Function : goal.returns-in-Function
unfolding spelled_node
returns-in-Function c =
    let is = c.in-Function in
    let count = subst (λ (xs : List ℕ). c.count_list.result ≡ min (length (list_of number xs)) 18446744073709551615) c.as_slice.ensures c.count_list.ensures in
    let whole = length-function 4 is.returns (flag_tag is.is_known) (flag_tag is.is_variadic) is.parameters in
    let sum = c.saturating_add.ensures in
    let there : length (spelled_node Two (Function is.returns is.is_known is.parameters is.is_variadic)) ≡ length (list_of number is.parameters) + 16 = whole in
    rw is.is (omega arith)
