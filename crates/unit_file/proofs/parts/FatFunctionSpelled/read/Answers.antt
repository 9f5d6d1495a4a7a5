use Rattle.std.proofs.Common.{drop}
use Rattle.unit_file.specs.Spelling.{list_of, spelled_entry, spelled_op}
use Rattle.unit_file.specs.Tails.{spelled_head}
use Rattle.unit_file.proofs.Bytes.{three_parts}
use Rattle.unit_file.proofs.parts.FatFunctionSpelled.read.Goals as goal

pub returns : goal.returns
returns c =
    let file = c.args.file.now in
    let row = three_parts (drop c.args.at file) (drop c.in_ok-head.head.behind file) (drop c.in_ok-entries.entries.behind file) (drop c.in_ok-ops.ops.behind file)
    (spelled_head c.in_ok-head.head.value) (list_of spelled_entry c.in_ok-entries.entries.value.items) (list_of spelled_op c.in_ok-ops.ops.value.items)
    c.in_ok-head.ensures.bytes c.in_ok-entries.ensures.bytes c.in_ok-ops.ensures.bytes in
    record {
      bytes = rw (c.function.ensures.value, c.function.ensures.behind) row;
      within = rw c.function.ensures.behind c.in_ok-ops.ensures.within;
    }
