use Rattle.std.proofs.Common.{ℕ, Err, List, sym, subst}
use Rattle.c_memory.specs.declared.access.Outside.{Outside}
use Rattle.c_memory.specs.declared.access.CopyNo.TheVariants as no
use Rattle.c_memory.specs.Copying.{copy_of}
use Rattle.access_methods.specs.declared.object.Object.{Object}
use Rattle.access_methods.specs.Accesses.{Copies}
use Rattle.access_methods.specs.Forms.{layout_in}
use Rattle.access_methods.specs.Objects.{Turns, with_both}
use Rattle.access_methods.specs.Shaped.{layouts_of}
use Rattle.access_methods.proofs.CopyLaws.{copy_nothing, copy_no_source, copy_no_target, copy_open, copy_sealed, copy_undecided}
use Rattle.access_methods.proofs.copying.copy.Goals as goal

pub returns-then-n-eq0-clause-copies : goal.returns-then-n-eq0-clause-copies
returns-then-n-eq0-clause-copies c = λ heap holds.
    copy_nothing c.args.store.now heap (layouts_of c.args.shapes.now) c.args.to c.args.from c.args.n c.if-n-eq0.true holds

pub returns-in-Err-clause-copies : goal.returns-in-Err-clause-copies
returns-in-Err-clause-copies c = λ heap holds.
    copy_no_source c.args.store.now c.args.store.now heap (layouts_of c.args.shapes.now) c.args.to c.args.from c.args.n c.in-Err.outside c.if-n-eq0.false c.in-Err.ensures holds

pub returns-in-Err-locate-clause-copies : goal.returns-in-Err-locate-clause-copies
returns-in-Err-locate-clause-copies c = λ heap holds.
    copy_no_target c.args.store.now c.args.store.now heap (layouts_of c.args.shapes.now) c.args.to c.args.from c.args.n c.in-Ok.spot c.in-Err-locate.outside c.if-n-eq0.false
    c.in-Ok.ensures c.in-Err-locate.ensures holds

pub returns-in_ok-taken-in-Open-clause-copies : goal.returns-in_ok-taken-in-Open-clause-copies
returns-in_ok-taken-in-Open-clause-copies c = λ heap holds.
    let at : ℕ = c.in-Ok-locate.spot.offset in
    copy_open c.args.store.now c.put.new.store heap c.args.shapes.now c.args.to c.args.from c.args.n c.in-Ok.spot c.in-Ok-locate.spot c.in-Open.layout c.in_ok-taken-in-Open.taken
    c.if-n-eq0.false c.in-Ok.ensures c.in-Ok-locate.ensures c.in-Open.ensures c.in_ok-taken-in-Open.ensures.taken
    (subst (λ (bases : List ℕ). Turns c.args.store.now c.put.new.store c.in-Ok-locate.spot.block (layout_in c.in-Open.layout) (with_both at c.in_ok-taken-in-Open.taken.bytes.items bases))
    c.as_slice-in-Open.ensures.value
    (subst (λ (bytes : List ℕ). Turns c.args.store.now c.put.new.store c.in-Ok-locate.spot.block (layout_in c.in-Open.layout) (with_both at bytes c.as_slice-in-Open.result.now))
    c.as_slice.ensures.value
    (subst (λ (o : Object). Turns c.args.store.now c.put.new.store o.block (layout_in o.layout) (with_both at c.as_slice.result.now c.as_slice-in-Open.result.now))
    c.object.ensures c.put.ensures)))
    holds

pub returns-in-Sealed-clause-copies : goal.returns-in-Sealed-clause-copies
returns-in-Sealed-clause-copies c = λ heap holds.
    subst (λ (e : Outside). Copies (copy_of heap c.args.to c.args.from c.args.n) (layouts_of c.args.shapes.now) c.args.store.now (Err (no.ReadOnly e))) (sym c.refused.ensures)
    (copy_sealed c.args.store.now c.args.store.now heap c.args.shapes.now c.args.to c.args.from c.args.n c.in-Ok.spot c.in-Ok-locate.spot c.in-Sealed.field-0 c.if-n-eq0.false
    c.in-Ok.ensures c.in-Ok-locate.ensures c.in-Sealed.ensures holds)

pub returns-in-Undecided-clause-copies : goal.returns-in-Undecided-clause-copies
returns-in-Undecided-clause-copies c = λ heap holds.
    copy_undecided c.args.store.now heap c.args.shapes.now c.args.to c.args.from c.args.n c.in-Ok.spot c.in-Ok-locate.spot c.if-n-eq0.false
    c.in-Ok.ensures c.in-Ok-locate.ensures c.in-Undecided.ensures c.requires.decided holds
