-- What follows from what a store keeps, and where it is kept along.
use Rattle.std.proofs.Common.{◌≡◌, ℕ, ◌+◌, ◌*◌, ◌/◌, ◌≤◌, List, length, sym, ap, ◌∙◌, arith, subst}
use Rattle.block_header.specs.declared.Header.{Header}
use Rattle.block_header.specs.Headers.{header_at}
use Rattle.c_memory.specs.Blocks.{words_of}
use Rattle.c_memory.specs.Storage.{class_of, live_in, next_base}
use Rattle.cell_store.specs.Pools.{Pool, cell_size}
use Rattle.cell_store.specs.Making.{told_in}
use Rattle.cell_store.specs.Kept.{Apart, HasCell, IsCell, Kept, cell_size_in, free_cell}
use Rattle.cell_store.proofs.Classes.{class_large}

module _ (words : List ℕ) (made : ℕ) (pool : Pool) (base : ℕ) (kept : Kept words made pool base) where
  pub headers_room : 4 * made ≤ length words
  headers_room = omega (arith, kept.front, kept.back)

  module _ (b : ℕ) (has : HasCell words made b) where
    pub cell_front : 4 * made ≤ (header_at words b).cell / 4
    cell_front = let is = kept.cells b has in omega (arith, is.above, kept.front)

    pub cell_back : (header_at words b).cell / 4 + 2 * words_of (header_at words b).size ≤ length words
    cell_back =
        let is = kept.cells b has in
        let large = class_large (header_at words b).size (kept.sizes b has) in
        omega (arith, is.aligned, is.within, large)

-- a block with the same header has a cell too
pub has_cell_as : (words new : List ℕ) (made b : ℕ) → header_at new b ≡ header_at words b → HasCell new made b → HasCell words made b
has_cell_as words new made b same has =
    record { positive = has.positive; known = has.known; used = subst (λ (h : Header). 1 ≤ h.desc) same has.used }

-- sizes stay, and so do the cells of blocks that have one
pub record GoesAlong (words new : List ℕ) (made : ℕ) : Type 0 where
  pub length_is : length new ≡ length words
  pub had : (b : ℕ) → HasCell new made b → HasCell words made b
  pub size_is : (b : ℕ) → HasCell new made b → (header_at new b).size ≡ (header_at words b).size
  pub cell_is : (b : ℕ) → HasCell new made b → (header_at new b).cell ≡ (header_at words b).cell

pub cell_size_along : (words new : List ℕ) (b : ℕ) → (header_at new b).size ≡ (header_at words b).size → cell_size_in new b ≡ cell_size_in words b
cell_size_along words new b same = ap (λ n. cell_size (class_of n)) same

module _ (words new : List ℕ) (made : ℕ) (along : GoesAlong words new made) where
  pub cells_along : (pool : Pool) → ((b : ℕ) → HasCell words made b → IsCell pool (4 * length words) (class_of (header_at words b).size) (header_at words b).cell)
      → (b : ℕ) → HasCell new made b → IsCell pool (4 * length new) (class_of (header_at new b).size) (header_at new b).cell
  cells_along pool cells b has = rw (along.length_is, along.size_is b has, along.cell_is b has) (cells b (along.had b has))

  pub apart_along : (b : ℕ) (place size : ℕ) → HasCell new made b → Apart (header_at words b).cell (cell_size_in words b) place size
      → Apart (header_at new b).cell (cell_size_in new b) place size
  apart_along b place size has apart = rw (cell_size_along words new b (along.size_is b has), along.cell_is b has) apart

  pub both_apart_along : (b c : ℕ) → HasCell new made b → HasCell new made c
      → Apart (header_at words b).cell (cell_size_in words b) (header_at words c).cell (cell_size_in words c)
      → Apart (header_at new b).cell (cell_size_in new b) (header_at new c).cell (cell_size_in new c)
  both_apart_along b c has also apart =
      rw (cell_size_along words new b (along.size_is b has), along.cell_is b has, cell_size_along words new c (along.size_is c also), along.cell_is c also) apart

pub kept_along : (words new : List ℕ) (made : ℕ) (pool : Pool) (base : ℕ) → Kept words made pool base → GoesAlong words new made
    → ((class : ℕ) → live_in class (told_in new made) ≡ live_in class (told_in words made))
    → next_base (record { blocks = told_in new made; greatest = pool.taken }) ≡ next_base (record { blocks = told_in words made; greatest = pool.taken })
    → Kept new made pool base
kept_along words new made pool base kept along live next = record {
  region = rw along.length_is kept.region;
  front = kept.front;
  aligned = kept.aligned;
  back = rw along.length_is kept.back;
  classes = kept.classes;
  lists = kept.lists;
  counted = λ class known. rw (live class) (kept.counted class known);
  room = λ class known. rw along.length_is (kept.room class known);
  sizes = λ b has. rw (along.size_is b has) (kept.sizes b (along.had b has));
  cells = cells_along words new made along pool kept.cells;
  frees = λ class place free. rw along.length_is (kept.frees class place free);
  cells_apart = λ b c has also differs. both_apart_along words new made along b c has also (kept.cells_apart b c (along.had b has) (along.had c also) differs);
  cell_free = λ b class place has free. apart_along words new made along b (free_cell pool class place) (cell_size class) has (kept.cell_free b class place (along.had b has) free);
  frees_apart = kept.frees_apart;
  reach = kept.reach;
  next = kept.next ∙ sym next;
}
