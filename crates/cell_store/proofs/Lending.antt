-- A pool that has lent one cell, to a block that is to be.
use Rattle.std.proofs.Common.{◌≡◌, ◌≢◌, ℕ, ◌+◌, ◌*◌, ◌%◌, ◌^◌, ◌<◌, ◌⊎◌, inl, inr, List, [], ◌∷◌, ◌++◌, length, refl, ap, ◌∙◌, arith, get_or-set_same, get_or-set_other}
use Rattle.std.specs.Prelude.{slice_index, slice_set}
use Rattle.std.proofs.lemmas.Bool.{cases_eq}
use Rattle.std.proofs.lemmas.List.{length-set}
use Rattle.block_header.specs.Headers.{header_at}
use Rattle.c_memory.specs.Storage.{bytes_of_cells, class_of, live_in}
use Rattle.cell_store.specs.Pools.{Pool, TakesCell, cell_size, free_of, with_free}
use Rattle.cell_store.specs.Making.{told_in}
use Rattle.cell_store.specs.Kept.{Apart, HasCell, IsCell, IsFree, Kept, cell_size_in, free_cell}
use Rattle.cell_store.proofs.Counts.{bytes_more}
use Rattle.cell_store.proofs.Told.{own, own_here, own_there}
use Rattle.cell_store.proofs.Frees.{WasFree, free_here, free_there, length_were, lists_same, room_same, taken_is, taken_was_free, was_free}

-- what is kept while a cell is lent
pub record Lent (words : List ℕ) (made : ℕ) (pool : Pool) (class cell : ℕ) : Type 0 where
  pub aligned : pool.bottom % 4 ≡ 0
  pub back : pool.bottom + bytes_of_cells pool.taken 16 ≡ 4 * length words
  pub classes : length pool.taken ≡ 30
  pub lists : length pool.free ≡ 30
  pub counted : (x : ℕ) → x < 30 →
      live_in x (told_in words made) + own class x + length (free_of pool x).cells ≡ slice_index pool.taken x
  pub room : (x : ℕ) → x < 30 → 4 * length words < cell_size x * ((free_of pool x).room + 1)
  pub sizes : (b : ℕ) → HasCell words made b → (header_at words b).size < 2 ^ 32
  pub cells : (b : ℕ) → HasCell words made b → IsCell pool (4 * length words) (class_of (header_at words b).size) (header_at words b).cell
  pub frees : (x i : ℕ) → IsFree pool x i → IsCell pool (4 * length words) x (free_cell pool x i)
  pub cells_apart : (b c : ℕ) → HasCell words made b → HasCell words made c → b ≢ c →
      Apart (header_at words b).cell (cell_size_in words b) (header_at words c).cell (cell_size_in words c)
  pub cell_free : (b x i : ℕ) → HasCell words made b → IsFree pool x i →
      Apart (header_at words b).cell (cell_size_in words b) (free_cell pool x i) (cell_size x)
  pub frees_apart : (x i y j : ℕ) → IsFree pool x i → IsFree pool y j → (x ≢ y) ⊎ (i ≢ j) →
      Apart (free_cell pool x i) (cell_size x) (free_cell pool y j) (cell_size y)
  pub lent : IsCell pool (4 * length words) class cell
  pub lent_cells : (b : ℕ) → HasCell words made b → Apart cell (cell_size class) (header_at words b).cell (cell_size_in words b)
  pub lent_frees : (x i : ℕ) → IsFree pool x i → Apart cell (cell_size class) (free_cell pool x i) (cell_size x)

pub apart_sym : (a m b n : ℕ) → Apart a m b n → Apart b n a m
apart_sym a m b n (inl before) = inr before
apart_sym a m b n (inr behind) = inl behind

-- ---- a free cell

module _ (words : List ℕ) (made : ℕ) (pool : Pool) (base : ℕ) (kept : Kept words made pool base) (class cell : ℕ) (rest : List ℕ)
    (known : class < 30) (were : (free_of pool class).cells ≡ rest ++ cell ∷ []) where
  was : (x i : ℕ) → IsFree (with_free pool class rest) x i → WasFree pool (with_free pool class rest) class (length rest) x i
  was = was_free pool class cell rest known kept.lists were

  last : IsFree pool class (length rest)
  last = taken_was_free pool class cell rest known kept.lists were

  last_is : free_cell pool class (length rest) ≡ cell
  last_is = taken_is pool class cell rest known kept.lists were

  still : (x place : ℕ) → IsCell pool (4 * length words) x place → IsCell (with_free pool class rest) (4 * length words) x place
  still x place is = record { known = is.known; aligned = is.aligned; above = is.above; within = is.within }

  free_counted : (x : ℕ) → x < 30
      → live_in x (told_in words made) + own class x + length (free_of (with_free pool class rest) x).cells ≡ slice_index pool.taken x
  free_counted x h =
      elim (cases_eq x class) [
        | inl is ↦
            let now : (free_of (with_free pool class rest) x).cells ≡ rest = rw (is, free_here pool class rest (omega (arith, kept.lists))) refl in
            let here : length (free_of pool x).cells ≡ length rest + 1 = rw is (length_were pool class cell rest known kept.lists were) in
            let one : own class x ≡ 1 = rw is (own_here class) in
            omega (arith, kept.counted x h, here, one, ap length now)
        | inr differs ↦
            let now : length (free_of (with_free pool class rest) x).cells ≡ length (free_of pool x).cells = rw (free_there pool class rest x differs) refl in
            omega (arith, kept.counted x h, now, own_there class x differs)
      ]

  frees_still_apart : (x i y j : ℕ) → IsFree (with_free pool class rest) x i → IsFree (with_free pool class rest) y j → (x ≢ y) ⊎ (i ≢ j) →
      Apart (free_cell (with_free pool class rest) x i) (cell_size x) (free_cell (with_free pool class rest) y j) (cell_size y)
  frees_still_apart x i y j one other differ =
      rw ((was x i one).same, (was y j other).same) (kept.frees_apart x i y j (was x i one).was (was y j other).was differ)

  last_apart : (x i : ℕ) → WasFree pool (with_free pool class rest) class (length rest) x i → Apart cell (cell_size class) (free_cell (with_free pool class rest) x i) (cell_size x)
  last_apart x i w =
      rw (w.same, ← last_is) (apart_sym (free_cell pool x i) (cell_size x) (free_cell pool class (length rest)) (cell_size class)
      (kept.frees_apart x i class (length rest) w.was last w.other))

  pub lent_free : Lent words made (with_free pool class rest) class cell
  lent_free = record {
    aligned = kept.aligned;
    back = kept.back;
    classes = kept.classes;
    lists = lists_same pool class rest ∙ kept.lists;
    counted = free_counted;
    room = λ x h. rw (room_same pool class rest x (omega (arith, kept.lists))) (kept.room x h);
    sizes = kept.sizes;
    cells = λ b has. still _ _ (kept.cells b has);
    frees = λ x i free. rw (was x i free).same (still x (free_cell pool x i) (kept.frees x i (was x i free).was));
    cells_apart = kept.cells_apart;
    cell_free = λ b x i has free. rw (was x i free).same (kept.cell_free b x i has (was x i free).was);
    frees_apart = frees_still_apart;
    lent = still class cell (rw last_is at (kept.frees class (length rest) last));
    lent_cells = λ b has.
        rw (← last_is) (apart_sym (header_at words b).cell (cell_size_in words b) (free_cell pool class (length rest)) (cell_size class) (kept.cell_free b class (length rest) has last));
    lent_frees = λ x i free. last_apart x i (was x i free);
  }

-- ---- a new cell

-- the pool with one more cell at its bottom
abbrev pub lowered : Pool → (class cell : ℕ) → Pool
lowered pool class cell = record pool { bottom = cell; taken = slice_set pool.taken class (slice_index pool.taken class + 1) }

module _ (words : List ℕ) (made : ℕ) (pool : Pool) (base : ℕ) (kept : Kept words made pool base) (class cell : ℕ)
    (known : class < 30) (none : (free_of pool class).cells ≡ []) (below : cell + cell_size class ≡ pool.bottom) where
  higher : (x place : ℕ) → IsCell pool (4 * length words) x place → IsCell (lowered pool class cell) (4 * length words) x place
  higher x place is = record { known = is.known; aligned = is.aligned; above = omega (arith, is.above, below); within = is.within }

  old_free : (x i : ℕ) → IsFree (lowered pool class cell) x i → IsFree pool x i
  old_free x i free = record { known = free.known; within = free.within }

  new_counted : (x : ℕ) → x < 30
      → live_in x (told_in words made) + own class x + length (free_of pool x).cells
      ≡ slice_index (slice_set pool.taken class (slice_index pool.taken class + 1)) x
  new_counted x h =
      elim (cases_eq x class) [
        | inl is ↦
            let inside : class < length pool.taken = omega (arith, kept.classes) in
            let one : own class x ≡ 1 = rw is (own_here class) in
            let now : slice_index (slice_set pool.taken class (slice_index pool.taken class + 1)) x ≡ slice_index pool.taken x + 1 =
            rw is (get_or-set_same pool.taken class (slice_index pool.taken class + 1) 0 inside) in
            omega (arith, kept.counted x h, one, now)
        | inr differs ↦
            let now : slice_index (slice_set pool.taken class (slice_index pool.taken class + 1)) x ≡ slice_index pool.taken x =
            get_or-set_other pool.taken class x (slice_index pool.taken class + 1) 0 differs in
            omega (arith, kept.counted x h, now, own_there class x differs)
      ]

  pub lent_new : Lent words made (lowered pool class cell) class cell
  lent_new = record {
    aligned = omega (arith, kept.aligned, below);
    back = omega (arith, kept.back, below, bytes_more pool.taken 16 class (omega (arith, kept.classes)));
    classes = length-set pool.taken class (slice_index pool.taken class + 1) ∙ kept.classes;
    lists = kept.lists;
    counted = new_counted;
    room = kept.room;
    sizes = kept.sizes;
    cells = λ b has. higher _ _ (kept.cells b has);
    frees = λ x i free. higher x (free_cell pool x i) (kept.frees x i (old_free x i free));
    cells_apart = kept.cells_apart;
    cell_free = λ b x i has free. kept.cell_free b x i has (old_free x i free);
    frees_apart = λ x i y j one other differ. kept.frees_apart x i y j (old_free x i one) (old_free y j other) differ;
    lent = record { known = known; aligned = omega (arith, kept.aligned, below); above = omega arith; within = omega (arith, kept.back, below) };
    lent_cells = λ b has. inl (let is = kept.cells b has in omega (arith, is.above, below));
    lent_frees = λ x i free. inl (let is = kept.frees x i (old_free x i free) in omega (arith, is.above, below));
  }

-- either
pub lent_taken : (words : List ℕ) (made : ℕ) (pool : Pool) (base class cell : ℕ) (new : Pool) → Kept words made pool base → class < 30
    → TakesCell pool class cell new → Lent words made new class cell
lent_taken words made pool base class cell new kept known (inl took) =
    rw took.left (lent_free words made pool base kept class cell took.rest known took.were)
lent_taken words made pool base class cell new kept known (inr took) =
    rw took.left (lent_new words made pool base kept class cell known took.none took.below)
