use Rattle.std.proofs.Common.{drop}
use Rattle.unit_file.specs.Spelling.{number, spelled_op}
use Rattle.unit_file.specs.Tags.{flag_tag, width_tag}
use Rattle.unit_file.proofs.Bytes.{four_parts}
use Rattle.unit_file.proofs.ops.read_load.Goals as goal

pub returns : goal.returns
unfolding spelled_op
returns c = record {
  bytes = four_parts (number 10) (drop c.args.at c.args.file.now) (drop c.in_ok-width.width.behind c.args.file.now) (drop c.in_ok-is_signed.is_signed.behind c.args.file.now)
      (drop c.in_ok-shape.shape.behind c.args.file.now) (drop c.in_ok-member.member.behind c.args.file.now)
      (number (width_tag c.in_ok-width.width.value)) (number (flag_tag c.in_ok-is_signed.is_signed.value)) (number c.in_ok-shape.shape.value) (number c.in_ok-member.member.value)
      c.in_ok-width.ensures.bytes c.in_ok-is_signed.ensures.bytes c.in_ok-shape.ensures.read.bytes c.in_ok-member.ensures.read.bytes;
  within = c.in_ok-member.ensures.read.within;
}
