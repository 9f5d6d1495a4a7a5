use Rattle.std.proofs.Common.{◌≡◌, ◌-◌, true, sym, subst, ap, ◌∙◌, arith}
use Rattle.c_memory.specs.Blocks.{Block, Heap, ended, killed}
use Rattle.byte_blocks.specs.Asking.{lives}
use Rattle.byte_blocks.specs.Counts.{heap_of}
use Rattle.byte_blocks.proofs.Classes.{class_of-lt}
use Rattle.byte_blocks.proofs.Counting.{Counts-ended, live_above}
use Rattle.byte_blocks.proofs.Living.{lives_there}
use Rattle.c_memory.proofs.Places.{read_there, changed_there}
use Rattle.byte_blocks.proofs.heap.Heap.kill.Goals as goal

pub index-requires : goal.index-requires
index-requires c =
    let heap = heap_of c.self.inside.blocks.items c.self.inside.tally in
    let there = lives_there heap c.args.block (subst (λ (h : Heap). lives h c.args.block ≡ true) (sym c.self.view_is) c.requires) in
    omega (arith, there.stands_there.within)

pub end_block-requires : goal.end_block-requires
end_block-requires c =
    let heap = heap_of c.self.inside.blocks.items c.self.inside.tally in
    let there = lives_there heap c.args.block (subst (λ (h : Heap). lives h c.args.block ≡ true) (sym c.self.view_is) c.requires) in
    let read = read_there heap c.args.block there.block c.index.result.now there.stands_there c.index.ensures in
    let size = c.size.ensures ∙ ap (λ (b : Block). b.size) read in
    rw size
    (live_above heap.blocks c.self.inside.tally (c.args.block - 1) there.block there.stands_there.within (there.stands_there.is_there there.block) there.is_live (class_of-lt there.block.size) c.self.invariant.0)

pub index_mut-requires : goal.index_mut-requires
index_mut-requires c =
    let heap = heap_of c.self.inside.blocks.items c.self.inside.tally in
    let there = lives_there heap c.args.block (subst (λ (h : Heap). lives h c.args.block ≡ true) (sym c.self.view_is) c.requires) in
    omega (arith, there.stands_there.within)

pub invariant_of-self : goal.invariant_of-self
invariant_of-self c =
    let heap = heap_of c.self.inside.blocks.items c.self.inside.tally in
    let there = lives_there heap c.args.block (subst (λ (h : Heap). lives h c.args.block ≡ true) (sym c.self.view_is) c.requires) in
    let read = read_there heap c.args.block there.block c.index.result.now there.stands_there c.index.ensures in
    let size = c.size.ensures ∙ ap (λ (b : Block). b.size) read in
    let old = read_there heap c.args.block there.block c.index_mut.result.now there.stands_there c.index_mut.ensures.value in
    let new = c.end.ensures ∙ ap ended old in
    rw (new, c.end_block.ensures, size) (
      Counts-ended heap.blocks c.self.inside.tally (c.args.block - 1) there.block there.stands_there.within (there.stands_there.is_there there.block) there.is_live (omega arith) (class_of-lt there.block.size) c.self.invariant.0,
      record { storage = c.self.invariant.1.storage; bases = c.self.invariant.1.bases },
    )

pub returns : goal.returns
unfolding killed
returns c =
    let heap = heap_of c.self.inside.blocks.items c.self.inside.tally in
    let there = lives_there heap c.args.block (subst (λ (h : Heap). lives h c.args.block ≡ true) (sym c.self.view_is) c.requires) in
    let old = read_there heap c.args.block there.block c.index_mut.result.now there.stands_there c.index_mut.ensures.value in
    let new = c.end.ensures ∙ ap ended old in
    rw (← c.self.view_is, c.end_block.ensures) (changed_there heap c.args.block there.block c.end.new.self ended there.found new)
