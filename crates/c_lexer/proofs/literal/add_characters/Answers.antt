use Rattle.std.proofs.Common.{arith}
use Rattle.c_lexer.proofs.CharacterLaws.{adds_one}
use Rattle.c_lexer.proofs.literal.add_characters.Goals as goal

pub loop-rest-preserved : goal.loop-rest-preserved
loop-rest-preserved c =
    rw c.in_ok-push.ensures.items (adds_one c.args.bytes.now.items c.loop-rest.bytes.items c.args.text.now c.loop-rest.rest.now c.in-Ok.read.0 c.in-Ok.read.1.now c.loop-rest.invariant (omega arith) c.in-Ok.ensures.read.0 c.in-Ok.ensures.read.1)
