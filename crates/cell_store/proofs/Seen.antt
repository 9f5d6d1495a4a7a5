-- What is kept, for a store as contracts see it.
use Rattle.std.proofs.Common.{◌≡◌, ℕ, ◌+◌, ◌*◌, ◌/◌, ◌%◌, ◌^◌, ◌<◌, ◌≤◌, List, length, refl, sym, ap, ◌∙◌, arith, subst, [], replicate, lit≤, ◌≢◌, ◌⊎◌, inl, inr}
use Rattle.std.specs.Prelude.{slice_index_or, slice_set}
use Rattle.std.proofs.lemmas.List.{get_or_read, get_or-replicate}
use Rattle.std.proofs.lemmas.Nat.{pow_pos}
use Rattle.std.proofs.Math.Nat.{lt-mul-div-succ}
use Rattle.block_header.specs.Headers.{header_at, first_word}
use Rattle.c_memory.specs.Blocks.{words_of}
use Rattle.c_memory.specs.Storage.{class_of, live_in, next_base}
use Rattle.cell_store.specs.Pools.{FreeList, Pool, cell_size, free_of, with_freed}
use Rattle.cell_store.specs.Store.{Store, cell_place, header_in, IsLiveIn, IsMade, IsOrderly}
use Rattle.cell_store.specs.Making.{told_in}
use Rattle.cell_store.specs.Kept.{Apart, HasCell, IsFree, Kept, cell_size_in}
use Rattle.cell_store.specs.StandsFor.{LiesIn}
use Rattle.cell_store.proofs.Classes.{class_large}
use Rattle.cell_store.proofs.Counts.{bytes_none}
use Rattle.cell_store.proofs.Dropping.{emptied, free_room, kept_dropped}
use Rattle.cell_store.proofs.Fitting.{seen}
use Rattle.cell_store.proofs.Headings.{cell_of, live_has_cell, same_headings, size_of}
use Rattle.cell_store.proofs.Keeping.{cell_back}
use Rattle.cell_store.proofs.Setting.{kept_desc, kept_word, word_elsewhere}

module _ (words : List ℕ) (made : ℕ) (pool : Pool) (base : ℕ) (kept : Kept words made pool base) (store : Store) (is : seen words made pool ≡ store) (b : ℕ) where
  pub has_cell : IsLiveIn store b → HasCell words made b
  has_cell live = live_has_cell (seen words made pool) b (subst (λ (s : Store). IsLiveIn s b) (sym is) live)

  pub cell_seen : (header_in store b).cell ≡ (header_at words b).cell
  cell_seen = ap (λ (s : Store). (header_in s b).cell) (sym is) ∙ cell_of words b

  pub size_seen : (header_in store b).size ≡ (header_at words b).size
  size_seen = ap (λ (s : Store). (header_in s b).size) (sym is) ∙ size_of words b

  pub index_within : (i cell n : ℕ) → IsLiveIn store b → i < 2 * words_of (header_in store b).size → cell ≡ (header_in store b).cell → n ≡ length words
      → cell / 4 + i < n
  index_within i cell n live within e all =
      let room = cell_back words made pool base kept b (has_cell live) in
      omega (arith, room, within, ap words_of size_seen, e ∙ cell_seen, all)

  pub kept_set_word : (i cell value : ℕ) → IsLiveIn store b → cell ≡ (header_in store b).cell → Kept (slice_set words (cell / 4 + i) value) made pool base
  kept_set_word i cell value live e = rw (e ∙ cell_seen) (kept_word words made pool base kept b i value (has_cell live))

  pub headers_set_word : (i cell value c : ℕ) → IsLiveIn store b → cell ≡ (header_in store b).cell → IsMade store c
      → header_in (seen (slice_set words (cell / 4 + i) value) made pool) c ≡ header_in store c
  headers_set_word i cell value c live e known =
      let made_is : store.made ≡ made = ap (λ (s : Store). s.made) (sym is) in
      let same : header_at (slice_set words (cell / 4 + i) value) c ≡ header_at words c =
      rw (e ∙ cell_seen) (word_elsewhere words made pool base kept b i value (has_cell live) c known.positive (omega (arith, known.known, made_is))) in
      same_headings words (slice_set words (cell / 4 + i) value) c same ∙ ap (λ (s : Store). header_in s c) is

  pub kept_set_desc : (desc : ℕ) → IsLiveIn store b → 2 ≤ desc → Kept (slice_set words (first_word b) desc) made pool base
  kept_set_desc desc live some = kept_desc words made pool base kept b desc (has_cell live) (omega arith)

  pub room_for : (class size : ℕ) → IsLiveIn store b → size ≡ (header_in store b).size → class ≡ class_of size → length (free_of pool class).cells < (free_of pool class).room
  room_for class size live e of = rw (of ∙ ap class_of (e ∙ size_seen)) (free_room words made pool base kept b (has_cell live))

  pub kept_drop : (class size cell : ℕ) (new : Pool) → IsLiveIn store b → size ≡ (header_in store b).size → class ≡ class_of size → cell ≡ (header_in store b).cell
      → new ≡ with_freed pool class cell → Kept (emptied words b) made new base
  kept_drop class size cell new live e of at left =
      rw (left, of ∙ ap class_of (e ∙ size_seen), at ∙ cell_seen) (kept_dropped words made pool base kept b (has_cell live))

  pub word_read : (i cell word : ℕ) → IsLiveIn store b → i < 2 * words_of (header_in store b).size → cell ≡ (header_in store b).cell
      → word ≡ slice_index_or words (cell / 4 + i) word → word ≡ slice_index_or store.words (cell_place store b i) 0
  word_read i cell word live within e read =
      let same : store.words ≡ words = ap (λ (s : Store). s.words) (sym is) in
      get_or_read words (cell / 4 + i) word (index_within i cell (length words) live within e refl) read 0
      ∙ ap (λ n. slice_index_or words (n / 4 + i) 0) e
      ∙ ap (λ l. slice_index_or l (cell_place store b i) 0) (sym same)

-- ---- order

apart_words : (p q m n x y : ℕ) → 8 * x ≤ m → 8 * y ≤ n → Apart p m q n → (p + 8 * x ≤ q) ⊎ (q + 8 * y ≤ p)
apart_words p q m n x y h k (inl before) = inl (omega arith)
apart_words p q m n x y h k (inr behind) = inr (omega arith)

module _ (words : List ℕ) (made : ℕ) (pool : Pool) (base : ℕ) (kept : Kept words made pool base) where
  large : (b : ℕ) → HasCell words made b → 8 * words_of (header_at words b).size ≤ cell_size_in words b
  large b has = class_large (header_at words b).size (kept.sizes b has)

  size_same : (b : ℕ) → words_of (header_in (seen words made pool) b).size ≡ words_of (header_at words b).size
  size_same b = ap words_of (size_of words b)

  orderly_inside : (b : ℕ) → HasCell words made b
      → LiesIn 0 (4 * length words) made (header_in (seen words made pool) b).cell (2 * words_of (header_in (seen words made pool) b).size)
  orderly_inside b has =
      let is = kept.cells b has in
      let cell = cell_of words b in
      record {
        aligned = rw cell is.aligned;
        behind = omega (arith, cell, is.above, kept.front);
        within = omega (arith, cell, size_same b, is.within, large b has);
      }

  orderly_apart : (b c : ℕ) → HasCell words made b → HasCell words made c → b ≢ c
      → ((header_in (seen words made pool) b).cell + 8 * words_of (header_in (seen words made pool) b).size ≤ (header_in (seen words made pool) c).cell)
      ⊎ ((header_in (seen words made pool) c).cell + 8 * words_of (header_in (seen words made pool) c).size ≤ (header_in (seen words made pool) b).cell)
  orderly_apart b c has also differs =
      rw (cell_of words b, cell_of words c, size_same b, size_same c)
      (apart_words (header_at words b).cell (header_at words c).cell (cell_size_in words b) (cell_size_in words c) (words_of (header_at words b).size) (words_of (header_at words c).size)
      (large b has) (large c also) (kept.cells_apart b c has also differs))

  pub orderly : (store : Store) → seen words made pool ≡ store → IsOrderly store
  orderly store is =
      subst IsOrderly is (record {
        inside = λ b live. orderly_inside b (live_has_cell (seen words made pool) b live);
        apart = λ b c live also differs. orderly_apart b c (live_has_cell (seen words made pool) b live) (live_has_cell (seen words made pool) c also) differs;
      })

-- ---- none

room_empty : (n bytes class : ℕ) → n ≡ bytes → n < cell_size class * (bytes / cell_size class + 1)
room_empty n bytes class e = rw e (lt-mul-div-succ bytes (omega (arith, pow_pos class)))

no_free : (pool : Pool) (bytes : ℕ) → ((class : ℕ) → class < 30 → free_of pool class ≡ record { cells = []; room = bytes / cell_size class })
    → (x i : ℕ) → IsFree pool x i → ⊥
no_free pool bytes free x i is = let none : length (free_of pool x).cells ≡ 0 = ap (λ (l : FreeList). length l.cells) (free x is.known) in omega (arith, is.within, none)

-- a region without blocks
pub kept_empty : (words : List ℕ) (pool : Pool) (bytes : ℕ) → bytes < 2 ^ 32 → bytes % 16 ≡ 0 → 4 * length words ≡ bytes → pool.bottom ≡ bytes → pool.taken ≡ replicate 30 0
    → length pool.free ≡ 30 → ((class : ℕ) → class < 30 → free_of pool class ≡ record { cells = []; room = bytes / cell_size class })
    → Kept words 0 pool 65536
unfolding told_in live_in next_base
kept_empty words pool bytes small even all at none lists free = record {
  region = omega (arith, small, all);
  front = omega arith;
  aligned = omega (arith, at, even);
  back = rw none (omega (arith, at, all, bytes_none 30 16));
  classes = ap length none;
  lists = lists;
  counted = λ class known. rw (free class known, none) (sym (get_or-replicate 30 class 0 0 known));
  room = λ class known. rw (free class known) (room_empty (4 * length words) bytes class all);
  sizes = λ b has. absurd (omega (arith, has.positive, has.known));
  cells = λ b has. absurd (omega (arith, has.positive, has.known));
  frees = λ x i is. absurd (no_free pool bytes free x i is);
  cells_apart = λ b c has also differs. absurd (omega (arith, has.positive, has.known));
  cell_free = λ b x i has is. absurd (omega (arith, has.positive, has.known));
  frees_apart = λ x i y j is also differ. absurd (no_free pool bytes free x i is);
  reach = lit≤ tt;
  next = refl;
}
