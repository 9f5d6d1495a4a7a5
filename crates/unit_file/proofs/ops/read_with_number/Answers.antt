use Rattle.unit_file.proofs.Tagged.{with_tag}
use Rattle.unit_file.proofs.ops.read_with_number.Goals as goal

pub returns : goal.returns
returns c = with_tag c.args.file.now c.args.tag_at c.args.tag c.args.at c.in_ok-number.number.value c.in_ok-number.number.behind c.with_number.result c.tagged.result
    c.requires c.in_ok-number.ensures.read c.with_number.ensures.found c.with_number.ensures.none c.tagged.ensures
