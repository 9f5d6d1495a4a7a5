use Rattle.std.proofs.Common.{arith}
use Rattle.plain_image.proofs.Program.{image_writes, image_sound}
use Rattle.plain_image.proofs.image.Goals as goal

pub returns-clause-sound : goal.returns-clause-sound
returns-clause-sound c = rw c.in_ok-image.ensures (image_sound c.args.bytes.now c.args.status c.requires)

pub returns-clause-writes : goal.returns-clause-writes
returns-clause-writes c =
    rw c.in_ok-image.ensures (image_writes c.args.bytes.now c.args.status c.requires (λ i. omega (arith, c.type_inv.bytes i)) (omega arith))
