use Rattle.std.proofs.Common.{arith}
use Rattle.access_methods.proofs.Writing.{base_set}
use Rattle.access_methods.proofs.object.Object.set_base.Goals as goal

pub returns-clause-turns : goal.returns-clause-turns
returns-clause-turns c =
    base_set c.args.store.now c.set_word.new.self c.args.self.now c.total.result c.base_at.result c.args.w c.args.base c.requires.stands c.requires.within
    (omega arith) c.total.ensures.count c.base_at.ensures.place c.set_word.ensures.store
