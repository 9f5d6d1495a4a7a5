-- The life of a live object ends.
use Rattle.std.proofs.Common.{◌≡◌, ◌≢◌, ℕ, suc, ◌+◌, ◌*◌, ◌-◌, ◌<◌, ◌≤◌, ◌⊎◌, inl, inr, List, [], ◌∷◌, ◌++◌, length, get_or, set, sym, ap, ◌∙◌, arith, get_or-set_same, get_or-set_other}
use Rattle.std.specs.Prelude.{slice_index, slice_set}
use Rattle.std.proofs.Math.Nat.{mul-le-mul_right, mul_comm}
use Rattle.std.proofs.lemmas.Bool.{cases_eq, cases_lt}
use Rattle.std.proofs.lemmas.List.{length-set, length_push}
use Rattle.block_header.specs.declared.Header.{Header}
use Rattle.block_header.specs.Headers.{header_at, first_word}
use Rattle.c_memory.specs.Blocks.{Block}
use Rattle.c_memory.specs.Storage.{class_of, live_in, next_base}
use Rattle.cell_store.specs.Pools.{FreeList, Pool, cell_size, free_of, with_freed}
use Rattle.cell_store.specs.Making.{told_by, told_in}
use Rattle.cell_store.specs.Kept.{Apart, HasCell, IsCell, IsFree, Kept, cell_size_in, free_cell}
use Rattle.cell_store.proofs.Classes.{class_known}
use Rattle.cell_store.proofs.Counts.{bytes_at}
use Rattle.cell_store.proofs.Frees.{IsPut, StaysFree, free_here, free_there, lists_same, room_same, stays_or_put}
use Rattle.cell_store.proofs.Lending.{apart_sym}
use Rattle.cell_store.proofs.Setting.{set_elsewhere, desc_elsewhere, desc_is, size_stays, base_stays}
use Rattle.cell_store.proofs.Told.{counts, counts_dead, counts_used, length_told, live_at, live_set, next_set, own, own_here, own_there, told_at, told_changed}
use Rattle.cell_store.proofs.Keeping.{GoesAlong, apart_along, both_apart_along, cells_along, has_cell_as, headers_room}

-- the words without a block's descriptor and cell
abbrev pub emptied : List ℕ → (b : ℕ) → List ℕ
emptied words b = slice_set (slice_set words (first_word b) 0) (first_word b + 3) 0

module _ (words : List ℕ) (b : ℕ) (low : 1 ≤ b) (room : 4 * b ≤ length words) where
  pub emptied_elsewhere : (c : ℕ) → 1 ≤ c → c ≢ b → header_at (emptied words b) c ≡ header_at words c
  emptied_elsewhere c also differs =
      set_elsewhere (slice_set words (first_word b) 0) b c 3 0 low also differs (omega arith) ∙ desc_elsewhere words b c 0 low also differs

  pub emptied_desc : (header_at (emptied words b) b).desc ≡ 0
  emptied_desc = get_or-set_other (slice_set words (first_word b) 0) (first_word b + 3) (first_word b) 0 0 (omega arith) ∙ desc_is words b 0 low room

  pub emptied_size : (header_at (emptied words b) b).size ≡ (header_at words b).size
  emptied_size = get_or-set_other (slice_set words (first_word b) 0) (first_word b + 3) (first_word b + 1) 0 0 (omega arith) ∙ size_stays words b 0 low room

  pub emptied_base : (header_at (emptied words b) b).base ≡ (header_at words b).base
  emptied_base = get_or-set_other (slice_set words (first_word b) 0) (first_word b + 3) (first_word b + 2) 0 0 (omega arith) ∙ base_stays words b 0 low room

  pub emptied_cell : (header_at (emptied words b) b).cell ≡ 0
  emptied_cell = get_or-set_same (slice_set words (first_word b) 0) (first_word b + 3) 0 0 (omega (arith, length-set words (first_word b) 0))

  pub emptied_length : length (emptied words b) ≡ length words
  emptied_length = length-set (slice_set words (first_word b) 0) (first_word b + 3) 0 ∙ length-set words (first_word b) 0

-- where more cells are taken than are free, and all taken ones fit, there is room for the free ones
fewer : (free taken room size bytes : ℕ) → free + 1 ≤ taken → taken * size ≤ bytes → bytes < size * (room + 1) → free < room
fewer free taken room size bytes more fit all =
    elim (cases_lt free room) [
      | inl lt ↦ lt
      | inr le ↦ absurd
          (let many : (room + 1) * size ≤ taken * size = mul-le-mul_right size (omega arith) in
          let turn : size * (room + 1) ≡ (room + 1) * size = mul_comm size (room + 1) in
          omega arith)
    ]

-- the class of a block, and the pool when its cell is free
abbrev pub class_at : (words : List ℕ) (b : ℕ) → ℕ
class_at words b = class_of (header_at words b).size

abbrev pub freed : (words : List ℕ) (pool : Pool) (b : ℕ) → Pool
freed words pool b = with_freed pool (class_at words b) (header_at words b).cell

module _ (words : List ℕ) (made : ℕ) (pool : Pool) (base : ℕ) (kept : Kept words made pool base) (b : ℕ) (has : HasCell words made b) where
  before : (d : Block) → get_or (told_in words made) (b - 1) d ≡ told_by (header_at words b)
  before d =
      let number : suc (b - 1) ≡ b = omega (arith, has.positive) in
      told_at words made (b - 1) d (omega (arith, has.positive, has.known)) ∙ ap (λ i. told_by (header_at words i)) number

  -- a block counts among those of its class
  pub one_live : 1 ≤ live_in (class_of (header_at words b).size) (told_in words made)
  one_live =
      let class = class_of (header_at words b).size in
      let old = told_by (header_at words b) in
      let within : b - 1 < length (told_in words made) = omega (arith, length_told words made, has.positive, has.known) in
      let counted = live_at class (told_in words made) (b - 1) old within in
      let here : counts class (get_or (told_in words made) (b - 1) old) ≡ 1 =
      ap (counts class) (before old) ∙ counts_used class (header_at words b) has.used ∙ own_here class in
      omega (arith, counted, here)

  pub free_room : length (free_of pool (class_of (header_at words b).size)).cells < (free_of pool (class_of (header_at words b).size)).room
  free_room =
      let class = class_of (header_at words b).size in
      let known : class < 30 = class_known (header_at words b).size (kept.sizes b has) in
      let taken : slice_index pool.taken class * cell_size class ≤ 4 * length words =
      omega (arith, bytes_at pool.taken 16 class (omega (arith, kept.classes)), kept.back) in
      let enough : length (free_of pool class).cells + 1 ≤ slice_index pool.taken class = omega (arith, kept.counted class known, one_live) in
      fewer (length (free_of pool class).cells) (slice_index pool.taken class) (free_of pool class).room (cell_size class) (4 * length words)
      enough taken (kept.room class known)

  room : 4 * b ≤ length words
  room = omega (arith, headers_room words made pool base kept, has.known)

  had : (c : ℕ) → HasCell (emptied words b) made c → c ≢ b
  had c now is =
      let dead : (header_at (emptied words b) c).desc ≡ 0 = rw is (emptied_desc words b has.positive room) in
      omega (arith, now.used, dead)

  stays : (c : ℕ) → HasCell (emptied words b) made c → header_at (emptied words b) c ≡ header_at words c
  stays c now = emptied_elsewhere words b has.positive room c now.positive (had c now)

  along : GoesAlong words (emptied words b) made
  along = record {
    length_is = emptied_length words b has.positive room;
    had = λ c now. has_cell_as words (emptied words b) made c (stays c now) now;
    size_is = λ c now. ap (λ (h : Header). h.size) (stays c now);
    cell_is = λ c now. ap (λ (h : Header). h.cell) (stays c now);
  }

  known : class_at words b < 30
  known = class_known (header_at words b).size (kept.sizes b has)

  inside : class_at words b < length pool.free
  inside = omega (arith, kept.lists, known)

  told_emptied : told_in (emptied words b) made ≡ set (told_in words made) (b - 1) (told_by (header_at (emptied words b) b))
  told_emptied = told_changed words (emptied words b) made b has.positive has.known (λ c low high differs. emptied_elsewhere words b has.positive room c low differs)

  within : b - 1 < length (told_in words made)
  within = omega (arith, length_told words made, has.positive, has.known)

  -- the block counts no more
  live_emptied : (x : ℕ) → live_in x (told_in (emptied words b) made) + own (class_at words b) x ≡ live_in x (told_in words made)
  live_emptied x =
      let old = told_by (header_at words b) in
      let new = told_by (header_at (emptied words b) b) in
      let change = live_set x (told_in words made) (b - 1) new old within in
      let here : counts x (get_or (told_in words made) (b - 1) old) ≡ own (class_at words b) x =
      ap (counts x) (before old) ∙ counts_used x (header_at words b) has.used in
      let none : counts x new ≡ 0 = counts_dead x (header_at (emptied words b) b) (emptied_desc words b has.positive room) in
      rw told_emptied (omega (arith, change, here, none))

  next_emptied : next_base (record { blocks = told_in (emptied words b) made; greatest = pool.taken })
      ≡ next_base (record { blocks = told_in words made; greatest = pool.taken })
  next_emptied =
      let old = told_by (header_at words b) in
      rw told_emptied (next_set (told_in words made) (b - 1) (told_by (header_at (emptied words b) b)) old pool.taken pool.taken within
      (emptied_size words b has.positive room ∙ sym (ap (λ (x : Block). x.size) (before old))))

  counted : (x : ℕ) → x < 30 → live_in x (told_in (emptied words b) made) + length (free_of (freed words pool b) x).cells ≡ slice_index pool.taken x
  counted x h =
      elim (cases_eq x (class_at words b)) [
        | inl is ↦
            let now : length (free_of (freed words pool b) x).cells ≡ length (free_of pool x).cells + 1 =
            rw is (ap (λ (l : FreeList). length l.cells) (free_here pool (class_at words b) ((free_of pool (class_at words b)).cells ++ (header_at words b).cell ∷ []) inside)
            ∙ length_push (free_of pool (class_at words b)).cells (header_at words b).cell) in
            let one : own (class_at words b) x ≡ 1 = rw is (own_here (class_at words b)) in
            omega (arith, kept.counted x h, now, one, live_emptied x)
        | inr differs ↦
            let now : length (free_of (freed words pool b) x).cells ≡ length (free_of pool x).cells =
            ap (λ (l : FreeList). length l.cells) (free_there pool (class_at words b) ((free_of pool (class_at words b)).cells ++ (header_at words b).cell ∷ []) x differs) in
            omega (arith, kept.counted x h, now, own_there (class_at words b) x differs, live_emptied x)
      ]

  again : (x place : ℕ) → IsCell pool (4 * length words) x place → IsCell (freed words pool b) (4 * length words) x place
  again x place is = record { known = is.known; aligned = is.aligned; above = is.above; within = is.within }

  which : (x i : ℕ) → IsFree (freed words pool b) x i → StaysFree pool (freed words pool b) x i ⊎ IsPut pool (freed words pool b) (class_at words b) (header_at words b).cell x i
  which = stays_or_put pool (class_at words b) (header_at words b).cell known kept.lists

  frees : (x i : ℕ) → IsFree (freed words pool b) x i → IsCell (freed words pool b) (4 * length words) x (free_cell (freed words pool b) x i)
  frees x i free =
      elim (which x i free) [
        | inl stay ↦ rw stay.same (again x (free_cell pool x i) (kept.frees x i stay.was))
        | inr put ↦ rw (put.cell_is, put.class_is) (again (class_at words b) (header_at words b).cell (kept.cells b has))
      ]

  -- a block that still has a cell, and a free cell
  cell_free : (c x i : ℕ) → HasCell words made c → c ≢ b
      → StaysFree pool (freed words pool b) x i ⊎ IsPut pool (freed words pool b) (class_at words b) (header_at words b).cell x i
      → Apart (header_at words c).cell (cell_size_in words c) (free_cell (freed words pool b) x i) (cell_size x)
  cell_free c x i also differs (inl stay) = rw stay.same (kept.cell_free c x i also stay.was)
  cell_free c x i also differs (inr put) = rw (put.cell_is, put.class_is) (kept.cells_apart c b also has differs)

  frees_apart : (x i y j : ℕ)
      → StaysFree pool (freed words pool b) x i ⊎ IsPut pool (freed words pool b) (class_at words b) (header_at words b).cell x i
      → StaysFree pool (freed words pool b) y j ⊎ IsPut pool (freed words pool b) (class_at words b) (header_at words b).cell y j
      → (x ≢ y) ⊎ (i ≢ j)
      → Apart (free_cell (freed words pool b) x i) (cell_size x) (free_cell (freed words pool b) y j) (cell_size y)
  frees_apart x i y j (inl one) (inl other) differ = rw (one.same, other.same) (kept.frees_apart x i y j one.was other.was differ)
  frees_apart x i y j (inl one) (inr put) differ =
      rw (one.same, put.cell_is, put.class_is)
      (apart_sym (header_at words b).cell (cell_size_in words b) (free_cell pool x i) (cell_size x) (kept.cell_free b x i has one.was))
  frees_apart x i y j (inr put) (inl other) differ = rw (put.cell_is, put.class_is, other.same) (kept.cell_free b y j has other.was)
  frees_apart x i y j (inr put) (inr also) (inl differs) = absurd (differs (put.class_is ∙ sym also.class_is))
  frees_apart x i y j (inr put) (inr also) (inr differs) = absurd (differs (put.place_is ∙ sym also.place_is))

  pub kept_dropped : Kept (emptied words b) made (freed words pool b) base
  kept_dropped = record {
    region = rw (emptied_length words b has.positive room) kept.region;
    front = kept.front;
    aligned = kept.aligned;
    back = rw (emptied_length words b has.positive room) kept.back;
    classes = kept.classes;
    lists = lists_same pool (class_at words b) _ ∙ kept.lists;
    counted = counted;
    room = λ x h. rw (emptied_length words b has.positive room, room_same pool (class_at words b) ((free_of pool (class_at words b)).cells ++ (header_at words b).cell ∷ []) x inside) (kept.room x h);
    sizes = λ c now. rw (along.size_is c now) (kept.sizes c (along.had c now));
    cells = λ c now. cells_along words (emptied words b) made along (freed words pool b) (λ d had. again _ _ (kept.cells d had)) c now;
    frees = λ x i free. rw (emptied_length words b has.positive room) (frees x i free);
    cells_apart = λ c d now also differs. both_apart_along words (emptied words b) made along c d now also (kept.cells_apart c d (along.had c now) (along.had d also) differs);
    cell_free = λ c x i now free. apart_along words (emptied words b) made along c (free_cell (freed words pool b) x i) (cell_size x) now
        (cell_free c x i (along.had c now) (had c now) (which x i free));
    frees_apart = λ x i y j one other differ. frees_apart x i y j (which x i one) (which y j other) differ;
    reach = kept.reach;
    next = kept.next ∙ sym next_emptied;
  }
