-- A block is placed in a cell that was lent for it.
use Rattle.std.proofs.Common.{◌≡◌, ◌≢◌, ℕ, ◌+◌, ◌*◌, ◌-◌, ◌^◌, ◌<◌, ◌≤◌, ◌⊎◌, inl, inr, List, [], ◌∷◌, ◌++◌, length, sym, ap, ◌∙◌, arith, subst}
use Rattle.std.specs.Prelude.{slice_index}
use Rattle.std.proofs.lemmas.Bool.{cases_lt}
use Rattle.block_header.specs.declared.Header.{Header}
use Rattle.block_header.specs.Headers.{header_at}
use Rattle.c_memory.specs.Storage.{class_of, live_in, next_base, span}
use Rattle.cell_store.specs.Pools.{Pool, cell_size, free_of}
use Rattle.cell_store.specs.Making.{told_by, told_in, Puts}
use Rattle.cell_store.specs.Kept.{Apart, HasCell, IsCell, IsFree, Kept, cell_size_in, free_cell}
use Rattle.cell_store.proofs.Told.{counts, counts_used, live_push, next_push, own, told_one_more, told_same}
use Rattle.cell_store.proofs.Keeping.{has_cell_as}
use Rattle.cell_store.proofs.Lending.{Lent, apart_sym}

-- where the cell of a block lies, and how long it is
pub record Sits (words : List ℕ) (b place size : ℕ) : Type 0 where
  pub place_is : (header_at words b).cell ≡ place
  pub size_is : cell_size_in words b ≡ size

pub sit_apart : (words : List ℕ) (b c p m q n : ℕ) → Sits words b p m → Sits words c q n → Apart p m q n
    → Apart (header_at words b).cell (cell_size_in words b) (header_at words c).cell (cell_size_in words c)
sit_apart words b c p m q n one other apart = rw (one.size_is, one.place_is, other.size_is, other.place_is) apart

pub sits_apart : (words : List ℕ) (b p m q n : ℕ) → Sits words b p m → Apart p m q n → Apart (header_at words b).cell (cell_size_in words b) q n
sits_apart words b p m q n one apart = rw (one.size_is, one.place_is) apart

module _ (words : List ℕ) (made : ℕ) (pool : Pool) (base size desc cell : ℕ) (new : List ℕ)
    (region : 4 * length words < 2 ^ 32) (small : size < 2 ^ 32) (some : 1 ≤ desc)
    (lent : Lent words made pool (class_of size) cell) (front : 16 * (made + 1) ≤ pool.bottom)
    (before : base ≡ next_base (record { blocks = told_in words made; greatest = pool.taken }))
    (after : base + span size ≤ 2 ^ 32 - 2 ^ 16)
    (put : Puts words (made + 1) (record { desc = desc; size = size; base = base; cell = cell }) new) where
  -- a block that has a cell is the new one, or had it before
  who : (b : ℕ) → HasCell new (made + 1) b → (b ≡ made + 1) ⊎ HasCell words made b
  who b has =
      elim (cases_lt b (made + 1)) [
        | inl lt ↦ inr (has_cell_as words new made b (put.headers b has.positive lt) (record { positive = has.positive; known = omega arith; used = has.used }))
        | inr le ↦ inl (omega (arith, has.known))
      ]

  size_new : (header_at new (made + 1)).size ≡ size
  size_new = ap (λ (h : Header). h.size) put.header_is

  sits_new : Sits new (made + 1) cell (cell_size (class_of size))
  sits_new = record { place_is = ap (λ (h : Header). h.cell) put.header_is; size_is = ap (λ n. cell_size (class_of n)) size_new }

  sits_old : (b : ℕ) → HasCell words made b → Sits new b (header_at words b).cell (cell_size_in words b)
  sits_old b has =
      let same = put.headers b has.positive (omega (arith, has.known)) in
      record { place_is = ap (λ (h : Header). h.cell) same; size_is = ap (λ (h : Header). cell_size (class_of h.size)) same }

  sizes : (b : ℕ) → HasCell new (made + 1) b → (header_at new b).size < 2 ^ 32
  sizes b has =
      elim (who b has) [
        | inl is ↦ rw is (subst (λ n. n < 2 ^ 32) (sym size_new) small)
        | inr had ↦ subst (λ (h : Header). h.size < 2 ^ 32) (sym (put.headers b had.positive (omega (arith, had.known)))) (lent.sizes b had)
      ]

  cells : (b : ℕ) → HasCell new (made + 1) b → IsCell pool (4 * length new) (class_of (header_at new b).size) (header_at new b).cell
  cells b has =
      elim (who b has) [
        | inl is ↦ rw (is, put.length_is) (subst (λ (h : Header). IsCell pool (4 * length words) (class_of h.size) h.cell) (sym put.header_is) lent.lent)
        | inr had ↦ rw put.length_is
            (subst (λ (h : Header). IsCell pool (4 * length words) (class_of h.size) h.cell) (sym (put.headers b had.positive (omega (arith, had.known)))) (lent.cells b had))
      ]

  told_new : told_in new (made + 1) ≡ told_in words made ++ told_by (record { desc = desc; size = size; base = base; cell = cell }) ∷ []
  told_new =
      told_one_more new made
      ∙ ap (λ (h : Header). told_in new made ++ told_by h ∷ []) put.header_is
      ∙ ap (λ l. l ++ told_by (record { desc = desc; size = size; base = base; cell = cell }) ∷ []) (told_same words new made (λ b low high. put.headers b low (omega arith)))

  counted : (x : ℕ) → x < 30 → live_in x (told_in new (made + 1)) + length (free_of pool x).cells ≡ slice_index pool.taken x
  counted x known =
      let header : Header = record { desc = desc; size = size; base = base; cell = cell } in
      let more : live_in x (told_in new (made + 1)) ≡ live_in x (told_in words made) + counts x (told_by header) =
      ap (live_in x) told_new ∙ live_push x (told_in words made) (told_by header) in
      let one : counts x (told_by header) ≡ own (class_of size) x = counts_used x header some in
      omega (arith, more, one, lent.counted x known)

  by_who : (b c : ℕ) → (b ≡ made + 1) ⊎ HasCell words made b → (c ≡ made + 1) ⊎ HasCell words made c → b ≢ c →
      Apart (header_at new b).cell (cell_size_in new b) (header_at new c).cell (cell_size_in new c)
  by_who b c (inl is) (inl also) differs = absurd (omega arith)
  by_who b c (inl is) (inr had) differs =
      rw is (sit_apart new (made + 1) c _ _ _ _ sits_new (sits_old c had) (lent.lent_cells c had))
  by_who b c (inr had) (inl is) differs =
      rw is (sit_apart new b (made + 1) _ _ _ _ (sits_old b had) sits_new
      (apart_sym cell (cell_size (class_of size)) (header_at words b).cell (cell_size_in words b) (lent.lent_cells b had)))
  by_who b c (inr had) (inr has) differs =
      sit_apart new b c _ _ _ _ (sits_old b had) (sits_old c has) (lent.cells_apart b c had has differs)

  by_free : (b x i : ℕ) → (b ≡ made + 1) ⊎ HasCell words made b → IsFree pool x i →
      Apart (header_at new b).cell (cell_size_in new b) (free_cell pool x i) (cell_size x)
  by_free b x i (inl is) free = rw is (sits_apart new (made + 1) _ _ _ _ sits_new (lent.lent_frees x i free))
  by_free b x i (inr had) free = sits_apart new b _ _ _ _ (sits_old b had) (lent.cell_free b x i had free)

  cells_apart : (b c : ℕ) → HasCell new (made + 1) b → HasCell new (made + 1) c → b ≢ c →
      Apart (header_at new b).cell (cell_size_in new b) (header_at new c).cell (cell_size_in new c)
  cells_apart b c has also differs = by_who b c (who b has) (who c also) differs

  pub kept_placed : Kept new (made + 1) pool (base + span size)
  kept_placed = record {
    region = rw put.length_is region;
    front = front;
    aligned = lent.aligned;
    back = rw put.length_is lent.back;
    classes = lent.classes;
    lists = lent.lists;
    counted = counted;
    room = λ x known. rw put.length_is (lent.room x known);
    sizes = sizes;
    cells = cells;
    frees = λ x i free. rw put.length_is (lent.frees x i free);
    cells_apart = cells_apart;
    cell_free = λ b x i has free. by_free b x i (who b has) free;
    frees_apart = lent.frees_apart;
    reach = after;
    next = ap (λ n. n + span size) before ∙ sym (ap (λ l. next_base (record { blocks = l; greatest = pool.taken })) told_new ∙ next_push (told_in words made) _ pool.taken pool.taken);
  }
