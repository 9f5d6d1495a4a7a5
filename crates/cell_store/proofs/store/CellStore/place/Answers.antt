use Rattle.std.proofs.Common.{◌≡◌, ◌∙◌, ap, length, sym, arith}
use Rattle.std.proofs.lemmas.List.{with_items_is}
use Rattle.std.specs.Vec.{with_items}
use Rattle.cell_store.proofs.Fitting.{count_left, room_left}
use Rattle.cell_store.proofs.Made.{cell_behind, cell_within, kept_made, store_made}
use Rattle.cell_store.proofs.store.CellStore.place.Goals as goal

pub take-cell-requires-clause-room : goal.take-cell-requires-clause-room
take-cell-requires-clause-room c none =
    omega (
      arith,
      room_left c.self.inside.words.items c.self.inside.made c.self.inside.pool c.self.inside.next_base c.self.invariant c.args.self.now c.self.view_is
          c.args.size c.ranges.size.fits c.requires.fits c.class_of.result c.class_of.ensures.class none,
    )

pub take-cell-requires-clause-count : goal.take-cell-requires-clause-count
take-cell-requires-clause-count c none =
    count_left c.self.inside.words.items c.self.inside.made c.self.inside.pool c.self.inside.next_base c.self.invariant c.args.self.now c.self.view_is
    c.args.size c.ranges.size.fits c.requires.fits c.class_of.result c.class_of.ensures.class

pub put_block-requires-clause-behind : goal.put_block-requires-clause-behind
put_block-requires-clause-behind c =
    cell_behind c.self.inside.words.items c.self.inside.made c.self.inside.pool c.self.inside.next_base c.self.invariant c.args.self.now c.self.view_is
    c.args.size c.ranges.size.fits c.requires.fits c.class_of.result c.take-cell.result c.take-cell.new.self c.class_of.ensures.class c.take-cell.ensures

pub put_block-requires-clause-within : goal.put_block-requires-clause-within
put_block-requires-clause-within c =
    cell_within c.self.inside.words.items c.self.inside.made c.self.inside.pool c.self.inside.next_base c.self.invariant c.args.self.now c.self.view_is
    c.args.size c.ranges.size.fits c.requires.fits c.class_of.result c.take-cell.result c.take-cell.new.self c.class_of.ensures.class c.take-cell.ensures
    (length c.as_mut_slice.result.now) (ap length c.as_mut_slice.ensures.value)

-- the words are those that were written
whole : (c : goal.After-self-3-1) → (with_items c.self.inside.words c.put_block.new.words).items ≡ c.put_block.new.words
whole c =
    with_items_is c.self.inside.words c.put_block.new.words
    (c.put_block.ensures.length_is ∙ ap length c.as_mut_slice.ensures.value ∙ sym c.self.inside.words.ok.0)

pub invariant_of-self : goal.invariant_of-self
invariant_of-self c =
    rw (whole c) (kept_made c.self.inside.words.items c.self.inside.made c.self.inside.pool c.self.inside.next_base c.self.invariant c.args.self.now c.self.view_is
    c.args.size c.ranges.size.fits c.requires.fits c.class_of.result c.take-cell.result c.take-cell.new.self c.class_of.ensures.class c.take-cell.ensures
    c.args.desc c.span.result c.as_mut_slice.result.now c.put_block.new.words c.as_mut_slice.ensures.value c.span.ensures c.put_block.ensures c.requires.some)

pub returns : goal.returns
returns c =
    rw (whole c) (store_made c.self.inside.words.items c.self.inside.made c.self.inside.pool c.self.inside.next_base c.self.invariant c.args.self.now c.self.view_is
    c.args.size c.ranges.size.fits c.requires.fits c.class_of.result c.take-cell.result c.take-cell.new.self c.class_of.ensures.class c.take-cell.ensures
    c.args.desc c.span.result c.as_mut_slice.result.now c.put_block.new.words c.as_mut_slice.ensures.value c.span.ensures c.put_block.ensures)
