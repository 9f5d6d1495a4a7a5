use Rattle.std.proofs.Common.{refl}
use Rattle.access_methods.specs.Forms.{layout_in}
use Rattle.access_methods.proofs.Filling.{first_byte}
use Rattle.access_methods.proofs.object.Object.set_next.Goals as goal

pub returns-in-len1-up-clause-turns : goal.returns-in-len1-up-clause-turns
returns-in-len1-up-clause-turns c =
    first_byte c.args.store.now c.set_byte.new.store c.args.self.now.block (layout_in c.args.self.now.layout) c.args.offset _ c.args.self.now.size c.args.bytes.now
    c.requires.stands.size c.requires.within c.requires.some refl c.set_byte.ensures.turns
