-- What a creation makes, for a store as contracts see it.
use Rattle.std.proofs.Common.{◌≡◌, ℕ, ◌+◌, ◌*◌, ◌/◌, ◌^◌, ◌<◌, ◌≤◌, ◌⊎◌, inl, inr, List, length, refl, sym, ap, ◌∙◌, add-one, arith, subst}
use Rattle.std.specs.Prelude.{slice_index_or}
use Rattle.std.proofs.lemmas.List.{length_push}
use Rattle.block_header.specs.declared.Header.{Header}
use Rattle.block_header.specs.Headers.{header_at}
use Rattle.c_memory.specs.declared.kind.BlockKind.TheVariants as kind
use Rattle.c_memory.specs.Blocks.{words_of}
use Rattle.c_memory.specs.Storage.{class_of, created, next_base, span}
use Rattle.cell_store.specs.Pools.{Pool, TakesCell, cell_size, free_of}
use Rattle.cell_store.specs.Store.{Store, cell_place, header_in, IsLiveIn}
use Rattle.cell_store.specs.Making.{told, told_in, LiesApart, Makes, Puts, StoreFits}
use Rattle.cell_store.specs.Kept.{Apart, HasCell, Kept, cell_size_in}
use Rattle.cell_store.proofs.Classes.{class_known, class_large}
use Rattle.cell_store.proofs.Fitting.{front_left, raised_free, raised_new, reach_left, seen}
use Rattle.cell_store.proofs.Headings.{base_of, cell_of, desc_of, live_has_cell, same_headings, size_of}
use Rattle.cell_store.proofs.Lending.{Lent, lent_taken}
use Rattle.cell_store.proofs.Placing.{kept_placed}

module _ (words : List ℕ) (made : ℕ) (pool : Pool) (base : ℕ) (kept : Kept words made pool base) (size cell : ℕ) (left : Pool)
    (small : size < 2 ^ 32) (fits : StoreFits (seen words made pool) size) (takes : TakesCell pool (class_of size) cell left) where
  lent : Lent words made left (class_of size) cell
  lent = lent_taken words made pool base (class_of size) cell left kept (class_known size small) takes

  front : 16 * (made + 1) ≤ left.bottom
  front = front_left words made pool base kept (seen words made pool) refl size small fits (class_of size) cell left refl takes

  behind : 4 * (made + 1) ≤ cell / 4
  behind = let is = lent.lent in omega (arith, is.above, front)

  within : cell / 4 + 2 * words_of size ≤ length words
  within = let is = lent.lent in omega (arith, is.aligned, is.within, class_large size small)

module _ (words : List ℕ) (made : ℕ) (pool : Pool) (base : ℕ) (kept : Kept words made pool base) (size cell : ℕ) (left : Pool)
    (small : size < 2 ^ 32) (fits : StoreFits (seen words made pool) size) (takes : TakesCell pool (class_of size) cell left) (desc : ℕ) (new : List ℕ)
    (put : Puts words (made + 1) (record { desc = desc; size = size; base = base; cell = cell }) new) where
  is_lent : Lent words made left (class_of size) cell
  is_lent = lent words made pool base kept size cell left small fits takes

  is_front : 16 * (made + 1) ≤ left.bottom
  is_front = front words made pool base kept size cell left small fits takes

  taken_same : next_base (record { blocks = told_in words made; greatest = pool.taken }) ≡ next_base (record { blocks = told_in words made; greatest = left.taken })
  unfolding next_base
  taken_same = refl

  made_kept : 1 ≤ desc → Kept new (made + 1) left (base + span size)
  made_kept some =
      kept_placed words made left base size desc cell new kept.region small some is_lent is_front (kept.next ∙ taken_same)
      (reach_left words made pool base kept (seen words made pool) refl size small fits) put

  -- the new header
  new_cell : (header_in (seen new (made + 1) left) (made + 1)).cell ≡ cell
  new_cell = cell_of new (made + 1) ∙ ap (λ (h : Header). h.cell) put.header_is

  new_size : (header_in (seen new (made + 1) left) (made + 1)).size ≡ size
  new_size = size_of new (made + 1) ∙ ap (λ (h : Header). h.size) put.header_is

  -- the greatest numbers
  greatest_by : TakesCell pool (class_of size) cell left → left.taken ≡ (created (told (seen words made pool)) size kind.Alloc).greatest
  unfolding created
  greatest_by (inl took) =
      let some : 0 < length (free_of pool (class_of size)).cells = omega (arith, ap length took.were, length_push took.rest cell) in
      ap (λ (p : Pool). p.taken) took.left ∙ sym (raised_free words made pool base kept (class_of size) (class_known size small) some)
  greatest_by (inr took) =
      ap (λ (p : Pool). p.taken) took.left ∙ sym (raised_new words made pool base kept (class_of size) (class_known size small) (ap length took.none))

  -- a block that was there
  module _ (b : ℕ) (live : IsLiveIn (seen words made pool) b) where
    has : HasCell words made b
    has = live_has_cell (seen words made pool) b live

    old_cell : (header_in (seen words made pool) b).cell ≡ (header_at words b).cell
    old_cell = cell_of words b

    old_size : words_of (header_in (seen words made pool) b).size ≡ words_of (header_at words b).size
    old_size = ap words_of (size_of words b)

    old_large : 8 * words_of (header_at words b).size ≤ cell_size_in words b
    old_large = class_large (header_at words b).size (kept.sizes b has)

    cells_by : Apart cell (cell_size (class_of size)) (header_at words b).cell (cell_size_in words b)
        → (cell + 8 * words_of size ≤ (header_at words b).cell) ⊎ ((header_at words b).cell + 8 * words_of (header_at words b).size ≤ cell)
    cells_by (inl before) = inl (omega (arith, before, class_large size small))
    cells_by (inr behind) = inr (omega (arith, behind, old_large))

    old_apart : (cell + 8 * words_of size ≤ (header_at words b).cell) ⊎ ((header_at words b).cell + 8 * words_of (header_at words b).size ≤ cell)
    old_apart = cells_by (is_lent.lent_cells b has)

    old_behind : 16 * (made + 1) ≤ (header_at words b).cell
    old_behind = let is = is_lent.cells b has in omega (arith, is.above, is_front)

    lies_by : (cell + 8 * words_of size ≤ (header_at words b).cell) ⊎ ((header_at words b).cell + 8 * words_of (header_at words b).size ≤ cell)
        → LiesApart (header_in (seen new (made + 1) left) (made + 1)).cell (2 * words_of size) (header_in (seen words made pool) b)
    lies_by (inl before) = inl (omega (arith, before, new_cell, old_cell))
    lies_by (inr behind) = inr (omega (arith, behind, new_cell, old_cell, old_size))

    index_by : (i : ℕ) → i < 2 * words_of (header_at words b).size
        → (cell + 8 * words_of size ≤ (header_at words b).cell) ⊎ ((header_at words b).cell + 8 * words_of (header_at words b).size ≤ cell)
        → ((header_at words b).cell / 4 + i < cell / 4) ⊎ (cell / 4 + 2 * words_of size ≤ (header_at words b).cell / 4 + i)
    index_by i h (inl before) = let is = is_lent.lent in inr (omega (arith, before, is.aligned))
    index_by i h (inr behind) = let is = is_lent.cells b has in inl (omega (arith, behind, h, is.aligned))

    kept_word : (i : ℕ) → i < 2 * words_of (header_in (seen words made pool) b).size
        → slice_index_or new (cell_place (seen words made pool) b i) 0 ≡ slice_index_or words (cell_place (seen words made pool) b i) 0
    kept_word i h =
        let place : cell_place (seen words made pool) b i ≡ (header_at words b).cell / 4 + i = omega (arith, old_cell) in
        let h2 : i < 2 * words_of (header_at words b).size = omega (arith, h, old_size) in
        ap (λ n. slice_index_or new n 0) place
        ∙ put.others ((header_at words b).cell / 4 + i) (omega (arith, old_behind)) (index_by i h2 old_apart)
        ∙ ap (λ n. slice_index_or words n 0) (sym place)

  makes : Makes (seen words made pool) size desc (made + 1) (seen new (made + 1) left)
  makes = record {
    number = add-one made;
    made = refl;
    small = small;
    region = put.length_is;
    desc_is = desc_of new (made + 1) ∙ ap (λ (h : Header). h.desc) put.header_is;
    size_is = new_size;
    base_is = base_of new (made + 1) ∙ ap (λ (h : Header). h.base) put.header_is ∙ kept.next;
    headers = λ b known. same_headings words new b (put.headers b known.positive (omega (arith, known.known)));
    aligned = let is = is_lent.lent in omega (arith, new_cell, is.aligned);
    behind = let is = is_lent.lent in omega (arith, new_cell, is.above, is_front);
    within = let is = is_lent.lent in omega (arith, new_cell, is.within, class_large size small, put.length_is);
    apart = λ b live. lies_by b live (old_apart b live);
    others_behind = λ b live. omega (arith, old_behind b live, old_cell b live);
    cleared = λ i h. ap (λ n. slice_index_or new (n / 4 + i) 0) new_cell ∙ put.zero_in i h;
    cells = λ b i live h. kept_word b live i h;
    greatest = greatest_by takes;
  }

-- ---- the same for a store and the class that was found

module _ (words : List ℕ) (made : ℕ) (pool : Pool) (base : ℕ) (kept : Kept words made pool base) (store : Store) (is : seen words made pool ≡ store)
    (size : ℕ) (small : size < 2 ^ 32) (fits : StoreFits store size) (class cell : ℕ) (left : Pool) (class_is : class ≡ class_of size)
    (takes : TakesCell pool class cell left) where
  fits_here : StoreFits (seen words made pool) size
  fits_here = subst (λ (s : Store). StoreFits s size) (sym is) fits

  takes_here : TakesCell pool (class_of size) cell left
  takes_here = subst (λ x. TakesCell pool x cell left) class_is takes

  pub cell_behind : 4 * (made + 1) ≤ cell / 4
  cell_behind = behind words made pool base kept size cell left small fits_here takes_here

  pub cell_within : (n : ℕ) → n ≡ length words → cell / 4 + 2 * words_of size ≤ n
  cell_within n all = omega (arith, within words made pool base kept size cell left small fits_here takes_here, all)

  module _ (desc far : ℕ) (old new : List ℕ) (old_is : old ≡ words) (far_is : far ≡ span size)
      (put : Puts old (made + 1) (record { desc = desc; size = size; base = base; cell = cell }) new) where
    put_here : Puts words (made + 1) (record { desc = desc; size = size; base = base; cell = cell }) new
    put_here = subst (λ l. Puts l (made + 1) (record { desc = desc; size = size; base = base; cell = cell }) new) old_is put

    pub kept_made : 1 ≤ desc → Kept new (made + 1) left (base + far)
    kept_made some = rw far_is (made_kept words made pool base kept size cell left small fits_here takes_here desc new put_here some)

    pub store_made : Makes store size desc (made + 1) (seen new (made + 1) left)
    store_made =
        subst (λ (s : Store). Makes s size desc (made + 1) (seen new (made + 1) left)) is
        (makes words made pool base kept size cell left small fits_here takes_here desc new put_here)
