use Rattle.std.proofs.Common.{sym, ◌∙◌, arith}
use Rattle.access_methods.specs.Shaped.{layouts_of, shaped}
use Rattle.access_methods.proofs.Accessing.{layouts_are}
use Rattle.access_methods.proofs.Descs.{stands_for_shape}
use Rattle.lazy_type.proofs.decide.Goals as goal

pub returns-then-header-eq-UNDECIDED-clause-meaning : goal.returns-then-header-eq-UNDECIDED-clause-meaning
returns-then-header-eq-UNDECIDED-clause-meaning c = λ shapes kinds heap found holds.
    c.set_desc.ensures.heaps heap (layouts_of shapes) (shaped kinds) holds (layouts_are shapes)
    (sym c.header.ensures.desc ∙ c.if-header-eq-UNDECIDED.true) (stands_for_shape shapes c.args.desc kinds c.requires.multiple found) (let high = c.requires.address in omega arith)
