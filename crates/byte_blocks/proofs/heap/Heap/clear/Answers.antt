use Rattle.std.proofs.Common.{replicate, ◌≡◌, ◌-◌, Some, sym, subst, ap, ◌∙◌, arith}
use Rattle.c_memory.specs.Access.{distance, within, with_bytes, clear_of}
use Rattle.c_memory.specs.Blocks.{Block, Heap}
use Rattle.byte_blocks.specs.Counts.{heap_of}
use Rattle.c_memory.proofs.Accesses.{around, written_there}
use Rattle.byte_blocks.proofs.Counting.{Counts-set}
use Rattle.c_memory.proofs.Places.{stands, read_there}
use Rattle.byte_blocks.proofs.heap.Heap.clear.Goals as goal

pub overflow_sub-at : goal.overflow_sub-at
overflow_sub-at c =
    let there = around c.args.self.now c.args.at c.args.n c.in-Some.object.now c.in-Some.ensures.block in
    (stands c.args.self.now c.args.at.block c.in-Some.object.now there.found).above

pub index_mut-requires : goal.index_mut-requires
index_mut-requires c =
    let heap = heap_of c.self.inside.blocks.items c.self.inside.tally in
    let found = subst (λ (h : Heap). within h c.args.at c.args.n ≡ Some c.in-Some.object.now) (sym c.self.view_is) c.in-Some.ensures.block in
    let there = around heap c.args.at c.args.n c.in-Some.object.now found in
    omega (arith, (stands heap c.args.at.block c.in-Some.object.now there.found).within)

pub put_zeros-requires : goal.put_zeros-requires
put_zeros-requires c =
    let heap = heap_of c.self.inside.blocks.items c.self.inside.tally in
    let found = subst (λ (h : Heap). within h c.args.at c.args.n ≡ Some c.in-Some.object.now) (sym c.self.view_is) c.in-Some.ensures.block in
    let there = around heap c.args.at c.args.n c.in-Some.object.now found in
    let stand = stands heap c.args.at.block c.in-Some.object.now there.found in
    let read = read_there heap c.args.at.block c.in-Some.object.now c.index_mut.result.now stand c.index_mut.ensures.value in
    rw (read, c.distance-offset.ensures) there.fits

pub invariant_of-self : goal.invariant_of-self
invariant_of-self c =
    let heap = heap_of c.self.inside.blocks.items c.self.inside.tally in
    let found = subst (λ (h : Heap). within h c.args.at c.args.n ≡ Some c.in-Some.object.now) (sym c.self.view_is) c.in-Some.ensures.block in
    let there = around heap c.args.at c.args.n c.in-Some.object.now found in
    let stand = stands heap c.args.at.block c.in-Some.object.now there.found in
    let read = read_there heap c.args.at.block c.in-Some.object.now c.index_mut.result.now stand c.index_mut.ensures.value in
    let new = c.put_zeros.ensures ∙ ap (λ (b : Block). with_bytes b c.distance-offset.result (replicate c.args.n 0)) read in (
      Counts-set heap.blocks c.self.inside.tally (c.args.at.block - 1) c.in-Some.object.now c.put_zeros.new.self stand.within (stand.is_there c.in-Some.object.now)
          (ap (λ (b : Block). b.size) new)
          (ap (λ (b : Block). b.is_live) new)
          c.self.invariant.0,
      c.self.invariant.1,
    )

pub returns : goal.returns
unfolding clear_of
returns c =
    let heap = heap_of c.self.inside.blocks.items c.self.inside.tally in
    let found = subst (λ (h : Heap). within h c.args.at c.args.n ≡ Some c.in-Some.object.now) (sym c.self.view_is) c.in-Some.ensures.block in
    let there = around heap c.args.at c.args.n c.in-Some.object.now found in
    let stand = stands heap c.args.at.block c.in-Some.object.now there.found in
    let read = read_there heap c.args.at.block c.in-Some.object.now c.index_mut.result.now stand c.index_mut.ensures.value in
    let new = c.put_zeros.ensures ∙ ap (λ (b : Block). with_bytes b c.distance-offset.result (replicate c.args.n 0)) read in
    let at_base = c.distance-offset.ensures in
    let change = λ (b : Block). with_bytes b (distance c.args.at.value b.base) (replicate c.args.n 0) in
    rw (← c.self.view_is)
    (written_there heap c.args.at c.args.n change c.in-Some.object.now c.put_zeros.new.self found (sym c.if-is_sealed.ensures)
    (new ∙ ap (λ (o : _). with_bytes c.in-Some.object.now o (replicate c.args.n 0)) at_base))
