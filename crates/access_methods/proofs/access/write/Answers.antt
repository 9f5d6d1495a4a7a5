use Rattle.std.proofs.Common.{◌≡◌, ℕ, Err, sym, ap, ◌∙◌, subst}
use Rattle.c_memory.specs.declared.access.Outside.{Outside}
use Rattle.c_memory.specs.declared.access.WriteNo.TheVariants as no
use Rattle.c_memory.specs.Access.{bytes_of, with_word, write_of}
use Rattle.c_memory.specs.Blocks.{Block}
use Rattle.access_methods.specs.declared.object.Object.{Object}
use Rattle.access_methods.specs.Accesses.{Writes}
use Rattle.access_methods.specs.Forms.{layout_in}
use Rattle.access_methods.specs.Objects.{Turns}
use Rattle.access_methods.specs.Shaped.{layouts_of}
use Rattle.access_methods.specs.Spots.{IsSpot, Locates}
use Rattle.access_methods.proofs.Accessing.{write_open, write_sealed, write_nowhere, not_undecided}
use Rattle.access_methods.proofs.access.write.Goals as goal

pub returns-in-Err-clause-writes : goal.returns-in-Err-clause-writes
returns-in-Err-clause-writes c = λ heap holds.
    write_nowhere c.args.store.now c.args.store.now heap c.args.shapes.now c.args.at c.args.width c.args.what c.in-Err.outside
    (subst (λ (n : ℕ). Locates c.args.store.now c.args.at n (Err c.in-Err.outside)) c.byte_count-n.ensures c.in-Err.ensures) holds

pub returns-in-Open-clause-writes : goal.returns-in-Open-clause-writes
returns-in-Open-clause-writes c = λ heap holds.
    write_open c.args.store.now c.write.new.store heap c.args.shapes.now c.args.at c.args.width c.args.what c.in-Ok.spot c.in-Open.layout
    (subst (λ (n : ℕ). IsSpot c.args.store.now c.args.at n c.in-Ok.spot) c.byte_count-n.ensures c.in-Ok.ensures) c.in-Open.ensures
    (subst (λ (o : Object). Turns c.args.store.now c.write.new.store o.block (layout_in o.layout) (λ (x : Block). with_word x c.in-Ok.spot.offset (bytes_of c.args.width) c.args.what)) c.object.ensures c.write.ensures)
    holds

pub returns-in-Sealed-clause-writes : goal.returns-in-Sealed-clause-writes
returns-in-Sealed-clause-writes c = λ heap holds.
    let refusal : c.refused.result ≡ record { block = c.in-Ok.spot.block; offset = c.in-Ok.spot.offset; width = bytes_of c.args.width } =
    c.refused.ensures ∙ ap (λ (n : ℕ). record { block = c.in-Ok.spot.block; offset = c.in-Ok.spot.offset; width = n }) c.byte_count-n.ensures in
    subst (λ (e : Outside). Writes (write_of heap c.args.at c.args.width c.args.what) (layouts_of c.args.shapes.now) c.args.store.now (Err (no.ReadOnly e))) (sym refusal)
    (write_sealed c.args.store.now c.args.store.now heap c.args.shapes.now c.args.at c.args.width c.args.what c.in-Ok.spot c.in-Sealed.field-0
    (subst (λ (n : ℕ). IsSpot c.args.store.now c.args.at n c.in-Ok.spot) c.byte_count-n.ensures c.in-Ok.ensures) c.in-Sealed.ensures holds)

pub returns-in-Undecided-clause-writes : goal.returns-in-Undecided-clause-writes
returns-in-Undecided-clause-writes c = λ heap holds.
    absurd (not_undecided c.args.store.now heap c.args.shapes.now c.args.at c.byte_count-n.result c.in-Ok.spot c.in-Ok.ensures c.in-Undecided.ensures c.requires.decided holds)
