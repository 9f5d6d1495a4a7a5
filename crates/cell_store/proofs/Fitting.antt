-- Which creation fits, by the cells that are left.
use Rattle.std.proofs.Common.{◌≡◌, ℕ, zero, suc, ◌+◌, ◌*◌, ◌-◌, ◌^◌, ◌<◌, ◌≤◌, inl, inr, cond, eqb, leb, List, [], length, refl, sym, ap, ◌∙◌, arith, subst, max}
use Rattle.std.specs.Prelude.{slice_index, slice_set, IsTrue}
use Rattle.std.proofs.Math.Nat.{mul-le-mul_left}
use Rattle.std.proofs.Math.Pow.{pow_pos}
use Rattle.std.proofs.lemmas.Bool.{le-leb, leb-true}
use Rattle.std.proofs.lemmas.Bool.Decides.{nat_tests}
use Rattle.std.proofs.lemmas.List.{length_push, set-get_or}
use Rattle.c_memory.specs.declared.kind.BlockKind.TheVariants as kind
use Rattle.c_memory.specs.Storage.{bytes_of_cells, class_of, created, live_in, new_block, next_base, raised, span, stored_of}
use Rattle.cell_store.specs.Pools.{Pool, TakesCell, cell_size, free_of}
use Rattle.cell_store.specs.Store.{Store}
use Rattle.cell_store.specs.Making.{told, told_in, StoreFits}
use Rattle.cell_store.specs.Kept.{Kept}
use Rattle.cell_store.proofs.Counts.{bytes_more, bytes_at}
use Rattle.cell_store.proofs.Classes.{class_known}
use Rattle.cell_store.proofs.Told.{length_told, next_push}

-- the store that contracts see
abbrev pub seen : (words : List ℕ) (made : ℕ) (pool : Pool) → Store
seen words made pool = record { words = words; made = made; greatest = pool.taken }

-- what the next cell of a class takes of the region
abbrev pub cost_of : Pool → (class : ℕ) → ℕ
cost_of pool class = cond (eqb (length (free_of pool class).cells) 0) (cell_size class) 0

max_left : (a b : ℕ) → b ≤ a → max a b ≡ a
max_left a b h = omega arith

max_right : (a b : ℕ) → a ≤ b → max a b ≡ b
max_right a b h = omega arith

costs_nothing : (n m : ℕ) → cond (eqb (suc n) 0) m 0 ≡ 0
costs_nothing n m = grind (arith, nat_tests)

module _ (words : List ℕ) (made : ℕ) (pool : Pool) (base : ℕ) (kept : Kept words made pool base) (class : ℕ) (known : class < 30) where
  pub raised_free : 0 < length (free_of pool class).cells → raised pool.taken class (live_in class (told_in words made) + 1) ≡ pool.taken
  raised_free some =
      let same : max (slice_index pool.taken class) (live_in class (told_in words made) + 1) ≡ slice_index pool.taken class =
      max_left (slice_index pool.taken class) (live_in class (told_in words made) + 1) (omega (arith, kept.counted class known)) in
      ap (slice_set pool.taken class) same ∙ set-get_or pool.taken class 0

  pub raised_new : length (free_of pool class).cells ≡ 0
      → raised pool.taken class (live_in class (told_in words made) + 1) ≡ slice_set pool.taken class (slice_index pool.taken class + 1)
  raised_new none =
      let live = live_in class (told_in words made) in
      let same : max (slice_index pool.taken class) (live + 1) ≡ slice_index pool.taken class + 1 =
      max_right (slice_index pool.taken class) (live + 1) (omega (arith, kept.counted class known)) ∙ omega (arith, kept.counted class known) in
      ap (slice_set pool.taken class) same

  by_cells : (n : ℕ) → length (free_of pool class).cells ≡ n
      → bytes_of_cells (raised pool.taken class (live_in class (told_in words made) + 1)) 16 ≡ bytes_of_cells pool.taken 16 + cond (eqb n 0) (cell_size class) 0
  by_cells zero e = ap (λ l. bytes_of_cells l 16) (raised_new e) ∙ bytes_more pool.taken 16 class (omega (arith, kept.classes))
  by_cells (suc n) e = ap (λ l. bytes_of_cells l 16) (raised_free (omega arith)) ∙ omega (arith, costs_nothing n (cell_size class))

  bytes_raised : bytes_of_cells (raised pool.taken class (live_in class (told_in words made) + 1)) 16 ≡ bytes_of_cells pool.taken 16 + cost_of pool class
  bytes_raised = by_cells (length (free_of pool class).cells) refl

module _ (words : List ℕ) (made : ℕ) (pool : Pool) (base : ℕ) (kept : Kept words made pool base) (size : ℕ) (small : size < 2 ^ 32) where
  pub stored_after : stored_of (created (told (seen words made pool)) size kind.Alloc)
      ≡ 16 * (made + 1) + (4 * length words - pool.bottom + cost_of pool (class_of size))
  unfolding stored_of created
  stored_after =
      omega (
        arith,
        bytes_raised words made pool base kept (class_of size) (class_known size small),
        kept.back,
        length_push (told_in words made) (new_block (next_base (told (seen words made pool))) size kind.Alloc),
        length_told words made,
      )

  pub next_after : next_base (created (told (seen words made pool)) size kind.Alloc) ≡ base + span size
  unfolding created
  next_after =
      next_push (told_in words made) (new_block (next_base (told (seen words made pool))) size kind.Alloc) _ pool.taken ∙ ap (λ n. n + span size) (sym kept.next)

  pub fits_from : 16 * (made + 1) + (4 * length words - pool.bottom + cost_of pool (class_of size)) ≤ 4 * length words → base + span size ≤ 2 ^ 32 - 2 ^ 16
      → StoreFits (seen words made pool) size
  fits_from storage bases = record { storage = rw stored_after storage; bases = rw next_after bases }

  pub fits_storage : StoreFits (seen words made pool) size → 16 * (made + 1) + (4 * length words - pool.bottom + cost_of pool (class_of size)) ≤ 4 * length words
  fits_storage fits = rw stored_after at fits.storage

  pub fits_bases : StoreFits (seen words made pool) size → base + span size ≤ 2 ^ 32 - 2 ^ 16
  fits_bases fits = rw next_after at fits.bases

-- ---- the test

module _ (words : List ℕ) (made : ℕ) (pool : Pool) (base : ℕ) (kept : Kept words made pool base) (store : Store) (is : seen words made pool ≡ store)
    (size : ℕ) (small : size < 2 ^ 32) (len made_read bottom class cost far : ℕ) (len_is : len ≡ length words) (made_is : made_read ≡ made)
    (bottom_is : bottom ≡ pool.bottom) (class_is : class ≡ class_of size) (cost_is : cost ≡ cost_of pool class) (far_is : far ≡ span size) where
  cost_here : cost ≡ cost_of pool (class_of size)
  cost_here = cost_is ∙ ap (cost_of pool) class_is

  pub within_reach : 16 * (made_read + 1) + (4 * len - bottom + cost) ≤ 4 * len
      → (IsTrue (leb (base + far) 4294901760) → StoreFits store size) × (StoreFits store size → IsTrue (leb (base + far) 4294901760))
  within_reach storage = (
    λ yes. subst (λ (s : Store). StoreFits s size) is
        (fits_from words made pool base kept size small (omega (arith, storage, cost_here, len_is, made_is, bottom_is)) (omega (arith, leb-true (base + far) 4294901760 yes, far_is))),
    λ fits. le-leb (base + far) 4294901760
        (omega (arith, far_is, fits_bases words made pool base kept size small (subst (λ (s : Store). StoreFits s size) (sym is) fits))),
  )

  pub too_much : 4 * len < 16 * (made_read + 1) + (4 * len - bottom + cost)
      → (IsTrue (leb (16 * (made_read + 1) + (4 * len - bottom + cost)) (4 * len)) → StoreFits store size)
      × (StoreFits store size → IsTrue (leb (16 * (made_read + 1) + (4 * len - bottom + cost)) (4 * len)))
  too_much more = (
    λ yes. absurd (omega (arith, leb-true (16 * (made_read + 1) + (4 * len - bottom + cost)) (4 * len) yes, more)),
    λ fits. absurd
        (omega (arith, more, cost_here, len_is, made_is, bottom_is, fits_storage words made pool base kept size small (subst (λ (s : Store). StoreFits s size) (sym is) fits))),
  )

-- ---- what is left where it fits

module _ (words : List ℕ) (made : ℕ) (pool : Pool) (base : ℕ) (kept : Kept words made pool base) (store : Store) (is : seen words made pool ≡ store)
    (size : ℕ) (small : size < 2 ^ 32) (fits : StoreFits store size) where
  here : StoreFits (seen words made pool) size
  here = subst (λ (s : Store). StoreFits s size) (sym is) fits

  stored : 16 * (made + 1) + (4 * length words - pool.bottom + cost_of pool (class_of size)) ≤ 4 * length words
  stored = fits_storage words made pool base kept size small here

  pub reach_left : base + span size ≤ 2 ^ 32 - 2 ^ 16
  reach_left = fits_bases words made pool base kept size small here

  -- a new cell fits behind one more header
  pub room_left : (class : ℕ) → class ≡ class_of size → (free_of pool class).cells ≡ [] → 16 * (made + 1) + cell_size class ≤ pool.bottom
  room_left class at none =
      let cost : cost_of pool (class_of size) ≡ cell_size class = rw (← at) (ap (λ (l : List ℕ). cond (eqb (length l) 0) (cell_size class) 0) none) in
      omega (arith, stored, cost, kept.back)

  pub count_left : (class : ℕ) → class ≡ class_of size → slice_index pool.taken class + 1 < 4294967296
  count_left class at =
      let known : class < 30 = rw at (class_known size small) in
      let all = bytes_at pool.taken 16 class (omega (arith, kept.classes)) in
      let one : 1 ≤ 2 ^ class = pow_pos class in
      let many : slice_index pool.taken class * 16 ≤ slice_index pool.taken class * (16 * 2 ^ class) = mul-le-mul_left (slice_index pool.taken class) (omega (arith, one)) in
      omega (arith, all, many, kept.back, kept.region)

  pub front_left : (class cell : ℕ) (new : Pool) → class ≡ class_of size → TakesCell pool class cell new → 16 * (made + 1) ≤ new.bottom
  front_left class cell new at (inl took) = rw took.left (omega (arith, stored, kept.back))
  front_left class cell new at (inr took) = rw took.left (omega (arith, room_left class at took.none, took.below))
