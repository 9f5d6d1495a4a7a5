use Rattle.std.proofs.Common.{drop}
use Rattle.unit_file.specs.Spelling.{list_of, spelled_symbol, spelled_function, spelled_object}
use Rattle.unit_file.proofs.Bytes.{three_parts}
use Rattle.unit_file.proofs.unit.read_back.Goals as goal

pub returns : goal.returns
returns c =
    let file = c.args.file.now in
    let row = three_parts (drop c.args.at file) (drop c.in_ok-symbols.symbols.behind file) (drop c.in_ok-functions.functions.behind file) (drop c.in_ok-objects.objects.behind file)
    (list_of spelled_symbol c.in_ok-symbols.symbols.value.items) (list_of spelled_function c.in_ok-functions.functions.value.items) (list_of spelled_object c.in_ok-objects.objects.value.items)
    c.in_ok-symbols.ensures.bytes c.in_ok-functions.ensures.bytes c.in_ok-objects.ensures.bytes in
    record {
      bytes = rw (c.back_of.ensures.value, c.back_of.ensures.behind) row;
      within = rw c.back_of.ensures.behind c.in_ok-objects.ensures.within;
    }
