-- A descriptor or a word of a cell is set.
use Rattle.std.proofs.Common.{◌≡◌, ◌≢◌, ℕ, suc, ◌+◌, ◌*◌, ◌-◌, ◌/◌, ◌<◌, ◌≤◌, inl, inr, List, length, get_or, set, sym, ap, ◌∙◌, arith, get_or-set_same, get_or-set_other}
use Rattle.std.specs.Prelude.{slice_set}
use Rattle.std.proofs.lemmas.Bool.{cases_eq}
use Rattle.std.proofs.lemmas.List.{length-set}
use Rattle.block_header.specs.declared.Header.{Header}
use Rattle.block_header.specs.Headers.{header_at, first_word}
use Rattle.c_memory.specs.Blocks.{Block}
use Rattle.c_memory.specs.Storage.{class_of, live_in, next_base}
use Rattle.cell_store.specs.Pools.{Pool}
use Rattle.cell_store.specs.Making.{told_by, told_in}
use Rattle.cell_store.specs.Kept.{HasCell, Kept}
use Rattle.cell_store.proofs.Told.{counts, counts_used, length_told, live_set, next_set, own, told_at, told_changed, told_same}
use Rattle.cell_store.proofs.Putting.{below, same_header}
use Rattle.cell_store.proofs.Keeping.{GoesAlong, cell_front, has_cell_as, headers_room, kept_along}

-- ---- words of headers

-- another header stays
pub set_elsewhere : (words : List ℕ) (b c k value : ℕ) → 1 ≤ b → 1 ≤ c → c ≢ b → k < 4
    → header_at (slice_set words (first_word b + k) value) c ≡ header_at words c
set_elsewhere words b c k value low also differs small =
    same_header words (slice_set words (first_word b + k) value) c
    (λ j h. get_or-set_other words (first_word b + k) (first_word c + j) value 0 (omega arith))

module _ (words : List ℕ) (b desc : ℕ) (low : 1 ≤ b) (room : 4 * b ≤ length words) where
  pub desc_is : (header_at (slice_set words (first_word b) desc) b).desc ≡ desc
  desc_is = get_or-set_same words (first_word b) desc 0 (omega arith)

  pub size_stays : (header_at (slice_set words (first_word b) desc) b).size ≡ (header_at words b).size
  size_stays = get_or-set_other words (first_word b) (first_word b + 1) desc 0 (omega arith)

  pub base_stays : (header_at (slice_set words (first_word b) desc) b).base ≡ (header_at words b).base
  base_stays = get_or-set_other words (first_word b) (first_word b + 2) desc 0 (omega arith)

  pub cell_stays : (header_at (slice_set words (first_word b) desc) b).cell ≡ (header_at words b).cell
  cell_stays = get_or-set_other words (first_word b) (first_word b + 3) desc 0 (omega arith)

pub desc_elsewhere : (words : List ℕ) (b c desc : ℕ) → 1 ≤ b → 1 ≤ c → c ≢ b → header_at (slice_set words (first_word b) desc) c ≡ header_at words c
desc_elsewhere words b c desc low also differs =
    same_header words (slice_set words (first_word b) desc) c
    (λ j h. get_or-set_other words (first_word b) (first_word c + j) desc 0 (omega arith))

-- ---- a descriptor

module _ (words : List ℕ) (made : ℕ) (pool : Pool) (base : ℕ) (kept : Kept words made pool base) (b desc : ℕ)
    (has : HasCell words made b) (some : 1 ≤ desc) where
  room : 4 * b ≤ length words
  room = omega (arith, headers_room words made pool base kept, has.known)

  had : (c : ℕ) → HasCell (slice_set words (first_word b) desc) made c → HasCell words made c
  had c now =
      elim (cases_eq c b) [
        | inl is ↦ rw is has
        | inr differs ↦ has_cell_as words (slice_set words (first_word b) desc) made c (desc_elsewhere words b c desc has.positive now.positive differs) now
      ]

  along : GoesAlong words (slice_set words (first_word b) desc) made
  along = record {
    length_is = length-set words (first_word b) desc;
    had = had;
    size_is = λ c now. elim (cases_eq c b) [
      | inl is ↦ rw is (size_stays words b desc has.positive room)
      | inr differs ↦ ap (λ (h : Header). h.size) (desc_elsewhere words b c desc has.positive now.positive differs)
    ];
    cell_is = λ c now. elim (cases_eq c b) [
      | inl is ↦ rw is (cell_stays words b desc has.positive room)
      | inr differs ↦ ap (λ (h : Header). h.cell) (desc_elsewhere words b c desc has.positive now.positive differs)
    ];
  }

  changed : told_in (slice_set words (first_word b) desc) made ≡ set (told_in words made) (b - 1) (told_by (header_at (slice_set words (first_word b) desc) b))
  changed = told_changed words (slice_set words (first_word b) desc) made b has.positive has.known
      (λ c low high differs. desc_elsewhere words b c desc has.positive low differs)

  within : b - 1 < length (told_in words made)
  within = omega (arith, length_told words made, has.positive, has.known)

  before : (d : Block) → get_or (told_in words made) (b - 1) d ≡ told_by (header_at words b)
  before d =
      let number : suc (b - 1) ≡ b = omega (arith, has.positive) in
      told_at words made (b - 1) d (omega (arith, has.positive, has.known)) ∙ ap (λ i. told_by (header_at words i)) number

  live : (class : ℕ) → live_in class (told_in (slice_set words (first_word b) desc) made) ≡ live_in class (told_in words made)
  live class =
      let header = header_at (slice_set words (first_word b) desc) b in
      let old = told_by (header_at words b) in
      let counted = live_set class (told_in words made) (b - 1) (told_by header) old within in
      let here : counts class (get_or (told_in words made) (b - 1) old) ≡ counts class old = ap (counts class) (before old) in
      let desc_now : 1 ≤ header.desc = rw (desc_is words b desc has.positive room) some in
      let sizes : header.size ≡ (header_at words b).size = size_stays words b desc has.positive room in
      let same : counts class (told_by header) ≡ counts class old =
      counts_used class header desc_now ∙ ap (λ n. own (class_of n) class) sizes ∙ sym (counts_used class (header_at words b) has.used) in
      rw changed (omega (arith, counted, here, same))

  next : next_base (record { blocks = told_in (slice_set words (first_word b) desc) made; greatest = pool.taken })
      ≡ next_base (record { blocks = told_in words made; greatest = pool.taken })
  next =
      let header = header_at (slice_set words (first_word b) desc) b in
      let old = told_by (header_at words b) in
      rw changed (next_set (told_in words made) (b - 1) (told_by header) old pool.taken pool.taken within
      (size_stays words b desc has.positive room ∙ sym (ap (λ (x : Block). x.size) (before old))))

  pub kept_desc : Kept (slice_set words (first_word b) desc) made pool base
  kept_desc = kept_along words (slice_set words (first_word b) desc) made pool base kept along live next

-- ---- words behind the headers

pub kept_behind : (words new : List ℕ) (made : ℕ) (pool : Pool) (base : ℕ) → Kept words made pool base → length new ≡ length words
    → ((b : ℕ) → 1 ≤ b → b ≤ made → header_at new b ≡ header_at words b) → Kept new made pool base
kept_behind words new made pool base kept same_length same =
    let told : told_in new made ≡ told_in words made = told_same words new made same in
    kept_along words new made pool base kept
    (record {
      length_is = same_length;
      had = λ b has. has_cell_as words new made b (same b has.positive has.known) has;
      size_is = λ b has. ap (λ (h : Header). h.size) (same b has.positive has.known);
      cell_is = λ b has. ap (λ (h : Header). h.cell) (same b has.positive has.known);
    })
    (λ class. ap (live_in class) told)
    (ap (λ blocks. next_base (record { blocks = blocks; greatest = pool.taken })) told)

module _ (words : List ℕ) (made : ℕ) (pool : Pool) (base : ℕ) (kept : Kept words made pool base) (b i value : ℕ) (has : HasCell words made b) where
  pub word_elsewhere : (c : ℕ) → 1 ≤ c → c ≤ made → header_at (slice_set words ((header_at words b).cell / 4 + i) value) c ≡ header_at words c
  word_elsewhere c low high =
      let place = (header_at words b).cell / 4 + i in
      below words (slice_set words place value) (4 * made) c low (omega arith)
      (λ k h. get_or-set_other words place k value 0 (omega (arith, cell_front words made pool base kept b has)))

  pub kept_word : Kept (slice_set words ((header_at words b).cell / 4 + i) value) made pool base
  kept_word =
      let place = (header_at words b).cell / 4 + i in
      kept_behind words (slice_set words place value) made pool base kept (length-set words place value) word_elsewhere
