use Rattle.std.proofs.Common.{◌≡◌, ◌-◌, true, sym, subst, ap, ◌∙◌, arith}
use Rattle.c_memory.specs.Blocks.{Block, Heap, sealed, sealed_at}
use Rattle.byte_blocks.specs.Asking.{lives}
use Rattle.byte_blocks.specs.Counts.{heap_of}
use Rattle.byte_blocks.proofs.Counting.{Counts-set}
use Rattle.byte_blocks.proofs.Living.{lives_there}
use Rattle.c_memory.proofs.Places.{read_there, changed_there}
use Rattle.byte_blocks.proofs.heap.Heap.seal.Goals as goal

pub index_mut-requires : goal.index_mut-requires
index_mut-requires c =
    let heap = heap_of c.self.inside.blocks.items c.self.inside.tally in
    let there = lives_there heap c.args.block (subst (λ (h : Heap). lives h c.args.block ≡ true) (sym c.self.view_is) c.requires) in
    omega (arith, there.stands_there.within)

pub invariant_of-self : goal.invariant_of-self
invariant_of-self c =
    let heap = heap_of c.self.inside.blocks.items c.self.inside.tally in
    let there = lives_there heap c.args.block (subst (λ (h : Heap). lives h c.args.block ≡ true) (sym c.self.view_is) c.requires) in
    let read = read_there heap c.args.block there.block c.index_mut.result.now there.stands_there c.index_mut.ensures.value in
    let new = c.seal.ensures ∙ ap sealed read in (
      Counts-set
          heap.blocks
          c.self.inside.tally
          (c.args.block - 1)
          there.block
          c.seal.new.self
          there.stands_there.within
          (there.stands_there.is_there there.block)
          (ap (λ (b : Block). b.size) new)
          (ap (λ (b : Block). b.is_live) new)
          c.self.invariant.0,
      c.self.invariant.1,
    )

pub returns : goal.returns
unfolding sealed_at
returns c =
    let heap = heap_of c.self.inside.blocks.items c.self.inside.tally in
    let there = lives_there heap c.args.block (subst (λ (h : Heap). lives h c.args.block ≡ true) (sym c.self.view_is) c.requires) in
    let read = read_there heap c.args.block there.block c.index_mut.result.now there.stands_there c.index_mut.ensures.value in
    let new = c.seal.ensures ∙ ap sealed read in
    rw (← c.self.view_is) (changed_there heap c.args.block there.block c.seal.new.self sealed there.found new)
