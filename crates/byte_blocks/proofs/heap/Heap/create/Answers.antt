use Rattle.std.proofs.Common.{◌≡◌, ◌++◌, ◌∷◌, [], List, length, sym, subst, ap, refl, ◌∙◌, arith}
use Rattle.std.proofs.lemmas.Bool.{both_ways}
use Rattle.std.proofs.lemmas.List.{length_push}
use Rattle.c_memory.specs.Blocks.{Block, Heap}
use Rattle.c_memory.specs.Storage.{Fits, class_of, new_block}
use Rattle.byte_blocks.proofs.Classes.{class_of-lt}
use Rattle.byte_blocks.proofs.Creating.{IsNext, few_blocks, few_live, fits, limits, next_is}
use Rattle.byte_blocks.proofs.heap.Heap.create.Goals as goal

pub with_block-tally-requires-clause-few : goal.with_block-tally-requires-clause-few
with_block-tally-requires-clause-few c =
    few_live c.self.inside.blocks.items c.self.inside.tally (class_of c.args.size) (class_of-lt c.args.size) c.self.invariant.0 c.self.invariant.1

pub returns-then-not-is_within_limits : goal.returns-then-not-is_within_limits
returns-then-not-is_within_limits c =
    let blocks = c.self.inside.blocks.items in
    let tally = c.self.inside.tally in
    let next : IsNext blocks tally c.with_block-tally.result c.args.size c.args.kind = record {
      now_counts = c.self.invariant.0;
      then_counts = c.with_block-tally.ensures.counts blocks c.args.kind c.self.invariant.0;
      then_greatest = c.with_block-tally.ensures.greatest blocks c.self.invariant.0;
    } in (
      (λ fit.
          let there = subst (λ (h : Heap). Fits h c.args.size c.args.kind) (sym c.self.view_is) fit in
          both_ways c.is_within_limits.result c.if-not-is_within_limits.true (c.is_within_limits.ensures.1 (limits blocks tally c.with_block-tally.result c.args.size c.args.kind next there))),
      refl,
    )

pub overflow_cast-result : goal.overflow_cast-result
overflow_cast-result c =
    let few = few_blocks c.self.inside.blocks.items c.self.inside.tally c.self.invariant.0 c.self.invariant.1 in
    let items = ap (λ (l : List Block). length l) c.in_ok-push.ensures.items in
    let more = length_push c.self.inside.blocks.items c.in_ok-block.block in
    omega arith

pub returns : goal.returns
returns c =
    let blocks = c.self.inside.blocks.items in
    let tally = c.self.inside.tally in
    let next : IsNext blocks tally c.with_block-tally.result c.args.size c.args.kind = record {
      now_counts = c.self.invariant.0;
      then_counts = c.with_block-tally.ensures.counts blocks c.args.kind c.self.invariant.0;
      then_greatest = c.with_block-tally.ensures.greatest blocks c.self.invariant.0;
    } in
    let within = c.is_within_limits.ensures.0 c.if-not-is_within_limits.false in
    let pushed : c.push.new.self.items ≡ blocks ++ new_block tally.next_base c.args.size c.args.kind ∷ [] =
    c.in_ok-push.ensures.items ∙ ap (λ (b : Block). blocks ++ b ∷ []) c.in_ok-block.ensures in (
      subst (λ (h : Heap). Fits h c.args.size c.args.kind) c.self.view_is (fits blocks tally c.with_block-tally.result c.args.size c.args.kind next within),
      rw (← c.self.view_is, pushed) (next_is blocks tally c.with_block-tally.result c.args.size c.args.kind next),
      omega arith,
    )
