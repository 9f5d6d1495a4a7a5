use Rattle.std.proofs.lemmas.Result.{IfOk-weaker}
use Rattle.c_memory.specs.Blocks.{Block}
use Rattle.access_methods.specs.declared.taken.Taken.{Taken}
use Rattle.access_methods.specs.Copied.{AreTaken, AreZeros, KeepsAt}
use Rattle.access_methods.specs.Shaped.{layouts_of}
use Rattle.access_methods.proofs.CopyLaws.{zeros_taken}
use Rattle.access_methods.proofs.taken.take_from.Goals as goal

pub returns-in-Undecided-clause-taken : goal.returns-in-Undecided-clause-taken
returns-in-Undecided-clause-taken c =
    IfOk-weaker c.zeros.result (λ (taken : Taken). AreZeros taken c.args.to c.args.n)
    (λ (taken : Taken). (x : Block) → KeepsAt c.args.store.now (layouts_of c.args.shapes.now) c.args.source.now x → AreTaken taken c.args.to c.args.source.now.offset c.args.n x)
    (λ taken are. zeros_taken c.args.store.now c.args.shapes.now c.args.source.now taken c.args.to c.args.n c.requires.within c.in-Undecided.ensures are)
    c.zeros.ensures.zero
