use Rattle.std.proofs.Common.{◌≡◌, ℕ, ◌-◌, ◌/◌, Some, List, take, drop, ne_eqb, sym, subst, ap, ◌∙◌, arith}
use Rattle.c_memory.specs.Access.{distance, touched, within}
use Rattle.c_memory.specs.Blocks.{Block, Heap}
use Rattle.c_memory.specs.Bytes.{overwritten}
use Rattle.c_memory.specs.Copying.{copy_of, with_copy}
use Rattle.byte_blocks.specs.Counts.{heap_of}
use Rattle.c_memory.proofs.Accesses.{around, copied_there}
use Rattle.c_memory.proofs.CopiedBases.{length-copied_bases}
use Rattle.byte_blocks.proofs.Counting.{Counts-set}
use Rattle.c_memory.proofs.Places.{stands, read_there}
use Rattle.byte_blocks.proofs.heap.Heap.copy.Goals as goal

pub piece-requires-clause-within : goal.piece-requires-clause-within
piece-requires-clause-within c =
    let there = around c.args.self.now c.args.from c.args.n c.in-Some.source.now c.in-Some.ensures.block in
    rw c.distance-2.ensures there.fits

pub piece-requires-clause-target : goal.piece-requires-clause-target
piece-requires-clause-target c = rw c.distance.ensures c.in-Some-within.ensures.reach

pub overflow_sub-to : goal.overflow_sub-to
overflow_sub-to c =
    let there = around c.args.self.now c.args.to c.args.n c.in-Some-within.target.now c.in-Some-within.ensures.block in
    (stands c.args.self.now c.args.to.block c.in-Some-within.target.now there.found).above

pub index_mut-requires : goal.index_mut-requires
index_mut-requires c =
    let heap = heap_of c.self.inside.blocks.items c.self.inside.tally in
    let found = subst (λ (h : Heap). within h c.args.to c.args.n ≡ Some c.in-Some-within.target.now) (sym c.self.view_is) c.in-Some-within.ensures.block in
    let there = around heap c.args.to c.args.n c.in-Some-within.target.now found in
    omega (arith, (stands heap c.args.to.block c.in-Some-within.target.now there.found).within)

pub put_piece-requires-clause-within : goal.put_piece-requires-clause-within
put_piece-requires-clause-within c =
    let heap = heap_of c.self.inside.blocks.items c.self.inside.tally in
    let found = subst (λ (h : Heap). within h c.args.to c.args.n ≡ Some c.in-Some-within.target.now) (sym c.self.view_is) c.in-Some-within.ensures.block in
    let there = around heap c.args.to c.args.n c.in-Some-within.target.now found in
    let stand = stands heap c.args.to.block c.in-Some-within.target.now there.found in
    let read = read_there heap c.args.to.block c.in-Some-within.target.now c.index_mut.result.now stand c.index_mut.ensures.value in
    rw (read, c.distance.ensures, c.in_ok-piece.ensures.length) there.fits

pub put_piece-requires-clause-words : goal.put_piece-requires-clause-words
put_piece-requires-clause-words c =
    rw (c.in_ok-piece.ensures.bases, c.in_ok-piece.ensures.length)
    (length-copied_bases (touched c.distance.result c.args.n) c.in-Some.source.now.bases c.distance.result c.distance-2.result c.args.n (c.distance.result / 4))

pub invariant_of-self : goal.invariant_of-self
invariant_of-self c =
    let heap = heap_of c.self.inside.blocks.items c.self.inside.tally in
    let found = subst (λ (h : Heap). within h c.args.to c.args.n ≡ Some c.in-Some-within.target.now) (sym c.self.view_is) c.in-Some-within.ensures.block in
    let there = around heap c.args.to c.args.n c.in-Some-within.target.now found in
    let stand = stands heap c.args.to.block c.in-Some-within.target.now there.found in
    let read = read_there heap c.args.to.block c.in-Some-within.target.now c.index_mut.result.now stand c.index_mut.ensures.value in (
      Counts-set heap.blocks c.self.inside.tally (c.args.to.block - 1) c.in-Some-within.target.now c.put_piece.new.self stand.within (stand.is_there c.in-Some-within.target.now)
          (ap (λ (b : Block). b.size) c.put_piece.ensures ∙ ap (λ (b : Block). b.size) read)
          (ap (λ (b : Block). b.is_live) c.put_piece.ensures ∙ ap (λ (b : Block). b.is_live) read)
          c.self.invariant.0,
      c.self.invariant.1,
    )

pub returns : goal.returns
unfolding copy_of
returns c =
    let heap = heap_of c.self.inside.blocks.items c.self.inside.tally in
    let source = c.in-Some.source.now in
    let target = c.in-Some-within.target.now in
    let from_there = subst (λ (h : Heap). within h c.args.from c.args.n ≡ Some source) (sym c.self.view_is) c.in-Some.ensures.block in
    let to_there = subst (λ (h : Heap). within h c.args.to c.args.n ≡ Some target) (sym c.self.view_is) c.in-Some-within.ensures.block in
    let there = around heap c.args.to c.args.n target to_there in
    let stand = stands heap c.args.to.block target there.found in
    let read = read_there heap c.args.to.block target c.index_mut.result.now stand c.index_mut.ensures.value in
    let changed : c.put_piece.new.self ≡ with_copy target source c.distance.result c.distance-2.result c.args.n =
    c.put_piece.ensures
    ∙ ap (λ (b : Block). record b { bytes = overwritten b.bytes c.distance.result c.in_ok-piece.piece.bytes.items; bases = overwritten b.bases (c.distance.result / 4) c.in_ok-piece.piece.bases.items }) read
    ∙ ap (λ (l : List ℕ). record target { bytes = overwritten target.bytes c.distance.result l; bases = overwritten target.bases (c.distance.result / 4) c.in_ok-piece.piece.bases.items }) c.in_ok-piece.ensures.bytes
    ∙ ap (λ (l : List ℕ). record target { bytes = overwritten target.bytes c.distance.result (take c.args.n (drop c.distance-2.result source.bytes)); bases = overwritten target.bases (c.distance.result / 4) l }) c.in_ok-piece.ensures.bases in
    let placed = changed
    ∙ ap (λ (o : ℕ). with_copy target source o c.distance-2.result c.args.n) c.distance.ensures
    ∙ ap (λ (o : ℕ). with_copy target source (distance c.args.to.value target.base) o c.args.n) c.distance-2.ensures in
    rw (← c.self.view_is, ne_eqb c.args.n 0 c.if-n-eq0.false)
    (copied_there heap c.args.to c.args.from c.args.n source target c.put_piece.new.self from_there to_there (sym c.if-is_sealed.ensures) placed)
