use Rattle.std.proofs.Common.{length, ap, refl, ◌∙◌, arith}
use Rattle.plain_image.specs.Code.{image_of}
use Rattle.plain_image.proofs.Program.{length-spelled_code}
use Rattle.plain_image.proofs.assembled.Goals as goal

pub overflow_cast-code : goal.overflow_cast-code
overflow_cast-code c =
    omega (arith, ap length (c.as_slice.ensures ∙ c.from_vec-code.ensures ∙ c.in_ok-code.ensures), length-spelled_code c.args.bytes.now c.args.status)

pub returns : goal.returns
unfolding image_of
returns c =
    rw (c.from_vec-2.ensures, c.in_ok-vec.ensures.items, c.from_vec.ensures, c.new.ensures.items, c.as_slice.ensures, c.from_vec-code.ensures, c.in_ok-code.ensures) refl
