use Rattle.std.proofs.Common.{refl}
use Rattle.access_methods.proofs.Filling.{bases_start, bases_step}
use Rattle.access_methods.proofs.object.Object.set_bases.Goals as goal

pub loop-k-init : goal.loop-k-init
loop-k-init c = bases_start c.args.store.now c.args.self.now c.args.w c.args.bases.now c.requires.stands

pub loop-k-preserved : goal.loop-k-preserved
loop-k-preserved c =
    bases_step c.args.store.now c.loop-k.store c.set_base.new.store c.args.self.now c.args.w c.loop-k.k _ c.args.bases.now
    c.requires.stands c.requires.within c.loop-k.invariant c.set_base.ensures.stands c.loop-k-test.true refl c.set_base.ensures.turns
