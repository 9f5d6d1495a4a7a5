use Rattle.std.proofs.Common.{◌≡◌, ℕ, Err, subst}
use Rattle.std.proofs.lemmas.Result.{err_from_is_err_and}
use Rattle.c_memory.specs.Access.{bytes_of, word_in}
use Rattle.c_memory.specs.Blocks.{Block}
use Rattle.access_methods.specs.declared.object.Object.{Object}
use Rattle.access_methods.specs.Cells.{Lays}
use Rattle.access_methods.specs.Spots.{IsSpot, Locates}
use Rattle.access_methods.proofs.Accessing.{read_open, read_sealed, read_undecided, read_nowhere}
use Rattle.access_methods.proofs.access.read.Goals as goal

pub returns-in_err-spot : goal.returns-in_err-spot
returns-in_err-spot c = λ heap holds.
    let p = err_from_is_err_and c.from_residual.result c.from_residual.ensures.1 in
    rw (p.1, p.2)
    (read_nowhere c.args.store.now heap c.args.shapes.now c.args.at c.args.width c.in_err-spot.field-0.0
    (subst (λ (n : ℕ). Locates c.args.store.now c.args.at n (Err c.in_err-spot.field-0.0)) c.byte_count.ensures c.in_err-spot.ensures) holds)

pub returns-in-Undecided : goal.returns-in-Undecided
returns-in-Undecided c = λ heap holds.
    read_undecided c.args.store.now heap c.args.shapes.now c.args.at c.args.width c.in_ok-spot.spot
    (subst (λ (n : ℕ). IsSpot c.args.store.now c.args.at n c.in_ok-spot.spot) c.byte_count.ensures c.in_ok-spot.ensures) c.in-Undecided.ensures holds

pub returns-in-Open : goal.returns-in-Open
returns-in-Open c = λ heap holds.
    read_open c.args.store.now heap c.args.shapes.now c.args.at c.args.width c.in_ok-spot.spot c.in-Open.layout c.read.result
    (subst (λ (n : ℕ). IsSpot c.args.store.now c.args.at n c.in_ok-spot.spot) c.byte_count.ensures c.in_ok-spot.ensures) c.in-Open.ensures
    (subst (λ (o : Object). (x : Block) → Lays c.args.store.now o x → c.read.result ≡ word_in x c.in_ok-spot.spot.offset (bytes_of c.args.width)) c.object.ensures c.read.ensures)
    holds

pub returns-in-Sealed : goal.returns-in-Sealed
returns-in-Sealed c = λ heap holds.
    read_sealed c.args.store.now heap c.args.shapes.now c.args.at c.args.width c.in_ok-spot.spot c.in-Sealed.layout c.read-in-Sealed.result
    (subst (λ (n : ℕ). IsSpot c.args.store.now c.args.at n c.in_ok-spot.spot) c.byte_count.ensures c.in_ok-spot.ensures) c.in-Sealed.ensures
    (subst (λ (o : Object). (x : Block) → Lays c.args.store.now o x → c.read-in-Sealed.result ≡ word_in x c.in_ok-spot.spot.offset (bytes_of c.args.width)) c.object-in-Sealed.ensures c.read-in-Sealed.ensures)
    holds
