-- A store that holds a heap holds it with one block changed, after the end of a life, a seal, a decision and a write.
use Rattle.std.proofs.Common.{◌≡◌, ◌≢◌, ℕ, ◌+◌, ◌*◌, ◌-◌, ◌<◌, ◌≤◌, ◌⊎◌, inl, inr, true, length, Some, refl, sym, ap, ◌∙◌, arith, subst}
use Rattle.std.proofs.lemmas.List.{length-set}
use Rattle.c_memory.specs.Blocks.{Block, Heap, block_at, is_live_object, with_block, words_of}
use Rattle.c_memory.specs.Sound.{IsBlock}
use Rattle.cell_store.specs.Layouts.{AreLayouts, Layouts}
use Rattle.cell_store.specs.StandsFor.{Describes, HeaderWords, Keeps, LiesIn, StandsFor}
use Rattle.cell_store.specs.Store.{Holds, IsLiveIn, IsMade, Store, header_in, memory_of}
use Rattle.cell_store.proofs.CellLaws.{keeps_along}
use Rattle.cell_store.proofs.HeapBlocks.{IsNumbered, block_at_changed, block_at_get}
use Rattle.cell_store.proofs.HeldLaws.{known_is_made, object_is_live}

-- all headers and cells but those of one block stay
pub record StaysBut (old new : Store) (b : ℕ) : Type 0 where
  pub region : length new.words ≡ length old.words
  pub made : new.made ≡ old.made
  pub greatest : new.greatest ≡ old.greatest
  pub headers : (c : ℕ) → IsMade old c → c ≢ b → header_in new c ≡ header_in old c
  pub cells : (c i : ℕ) → IsLiveIn old c → c ≢ b → i < 2 * words_of (header_in old c).size →
      memory_of new.words ((header_in old c).cell + 4 * i) ≡ memory_of old.words ((header_in old c).cell + 4 * i)

-- if a block is a live object afterwards, it was one before, of the same size, in the same cell
pub record StaysThere (old new : Store) (b : ℕ) (before after : Block) : Type 0 where
  pub object : is_live_object before ≡ true
  pub cell : (header_in new b).cell ≡ (header_in old b).cell
  pub size : after.size ≡ before.size

-- the cell of a block that is a live object is that of one of the old heap
pub record Was (old new : Store) (heap : Heap) (c : ℕ) (x : Block) : Type 0 where
  pub block : Block
  pub at : block_at heap c ≡ Some block
  pub object : is_live_object block ≡ true
  pub size : x.size ≡ block.size
  pub cell : (header_in new c).cell ≡ (header_in old c).cell

by_cells : (p q p2 q2 m n m2 n2 : ℕ) → p ≡ p2 → q ≡ q2 → m ≡ m2 → n ≡ n2 → (p2 + 8 * m2 ≤ q2) ⊎ (q2 + 8 * n2 ≤ p2) → (p + 8 * m ≤ q) ⊎ (q + 8 * n ≤ p)
by_cells p q p2 q2 m n m2 n2 e f g h (inl before) = inl (omega arith)
by_cells p q p2 q2 m n m2 n2 e f g h (inr behind) = inr (omega arith)

module _ (old new : Store) (heap : Heap) (layouts : Layouts) (holds : Holds old heap layouts) (all : AreLayouts layouts) (b : ℕ) (before after : Block)
    (at : block_at heap b ≡ Some before) (stays : StaysBut old new b) (sound : IsBlock after) (describes : Describes (header_in new b) after)
    (keeps : is_live_object after ≡ true → Keeps (memory_of new.words) layouts (header_in new b).desc (header_in new b).cell after)
    (there : is_live_object after ≡ true → StaysThere old new b before after) where
  is_numbered : IsNumbered heap b before
  is_numbered = block_at_get heap b before at

  -- a block of the new heap is the changed one, or was there
  which : (c : ℕ) (x : Block) → block_at (with_block heap b after) c ≡ Some x → ((c ≡ b) × (x ≡ after)) ⊎ ((c ≢ b) × (block_at heap c ≡ Some x))
  which c x h = block_at_changed heap b after c x is_numbered.positive is_numbered.known h

  other_header : (c : ℕ) (x : Block) → c ≢ b → block_at heap c ≡ Some x → header_in new c ≡ header_in old c
  other_header c x differs h = stays.headers c (known_is_made old heap layouts holds c x h) differs

  sound_by : (c : ℕ) (x : Block) → ((c ≡ b) × (x ≡ after)) ⊎ ((c ≢ b) × (block_at heap c ≡ Some x)) → IsBlock x
  sound_by c x (inl is) = subst IsBlock (sym is.1) sound
  sound_by c x (inr is) = let all_sound = holds.sound in all_sound.blocks c x is.1

  describes_by : (c : ℕ) (x : Block) → ((c ≡ b) × (x ≡ after)) ⊎ ((c ≢ b) × (block_at heap c ≡ Some x)) → Describes (header_in new c) x
  describes_by c x (inl is) =
      subst (λ (y : Block). Describes (header_in new c) y) (sym is.1) (subst (λ n. Describes (header_in new n) after) (sym is.0) describes)
  describes_by c x (inr is) =
      subst (λ (h : HeaderWords). Describes h x) (sym (other_header c x is.0 is.1)) (holds.stands.headers c x is.1)

  agrees : (c : ℕ) (x : Block) → c ≢ b → block_at heap c ≡ Some x → is_live_object x ≡ true → (i : ℕ) → i < 2 * words_of x.size
      → memory_of new.words ((header_in old c).cell + 4 * i) ≡ memory_of old.words ((header_in old c).cell + 4 * i)
  agrees c x differs h object i lt =
      let is = holds.stands.headers c x h in
      let sizes : words_of (header_in old c).size ≡ words_of x.size = ap words_of is.size in
      stays.cells c i (object_is_live old heap layouts holds c x h object) differs (omega (arith, lt, sizes))

  keeps_by : (c : ℕ) (x : Block) → ((c ≡ b) × (x ≡ after)) ⊎ ((c ≢ b) × (block_at heap c ≡ Some x)) → is_live_object x ≡ true
      → Keeps (memory_of new.words) layouts (header_in new c).desc (header_in new c).cell x
  keeps_by c x (inl is) object =
      subst (λ (y : Block). Keeps (memory_of new.words) layouts (header_in new c).desc (header_in new c).cell y) (sym is.1)
      (subst (λ n. Keeps (memory_of new.words) layouts (header_in new n).desc (header_in new n).cell after) (sym is.0)
      (keeps (subst (λ (y : Block). is_live_object y ≡ true) is.1 object)))
  keeps_by c x (inr is) object =
      subst (λ (h : HeaderWords). Keeps (memory_of new.words) layouts h.desc h.cell x) (sym (other_header c x is.0 is.1))
      (keeps_along (memory_of old.words) (memory_of new.words) layouts (header_in old c).desc (header_in old c).cell x all (agrees c x is.0 is.1 object)
      (holds.stands.kept c x is.1 object))

  long : length (with_block heap b after).blocks ≡ length heap.blocks
  long = length-set heap.blocks (b - 1) after

  was : (c : ℕ) (x : Block) → ((c ≡ b) × (x ≡ after)) ⊎ ((c ≢ b) × (block_at heap c ≡ Some x)) → is_live_object x ≡ true → Was old new heap c x
  was c x (inl is) object =
      let stay = there (subst (λ (y : Block). is_live_object y ≡ true) is.1 object) in
      record {
        block = before;
        at = subst (λ n. block_at heap n ≡ Some before) (sym is.0) at;
        object = stay.object;
        size = ap (λ (y : Block). y.size) is.1 ∙ stay.size;
        cell = subst (λ n. (header_in new n).cell ≡ (header_in old n).cell) (sym is.0) stay.cell;
      }
  was c x (inr is) object = record {
    block = x;
    at = is.1;
    object = object;
    size = refl;
    cell = ap (λ (h : HeaderWords). h.cell) (other_header c x is.0 is.1);
  }

  lies_by : (c : ℕ) (x : Block) → Was old new heap c x → LiesIn 0 (4 * length new.words) (length (with_block heap b after).blocks) (header_in new c).cell (2 * words_of x.size)
  lies_by c x w =
      let is = holds.stands.inside c w.block w.at w.object in
      let sizes : words_of x.size ≡ words_of w.block.size = ap words_of w.size in
      record {
        aligned = rw w.cell is.aligned;
        behind = omega (arith, is.behind, w.cell, long);
        within = omega (arith, is.within, w.cell, stays.region, sizes);
      }

  apart_by : (c d : ℕ) (x y : Block) → Was old new heap c x → Was old new heap d y → c ≢ d
      → ((header_in new c).cell + 8 * words_of x.size ≤ (header_in new d).cell) ⊎ ((header_in new d).cell + 8 * words_of y.size ≤ (header_in new c).cell)
  apart_by c d x y w v differs =
      by_cells (header_in new c).cell (header_in new d).cell (header_in old c).cell (header_in old d).cell (words_of x.size) (words_of y.size) (words_of w.block.size) (words_of v.block.size)
      w.cell v.cell (ap words_of w.size) (ap words_of v.size) (holds.stands.apart c d w.block v.block w.at v.at w.object v.object differs)

  stands : StandsFor (memory_of new.words) 0 (4 * length new.words) (with_block heap b after) layouts
  stands = record {
    headers = λ c x h. describes_by c x (which c x h);
    kept = λ c x h object. keeps_by c x (which c x h) object;
    inside = λ c x h object. lies_by c x (was c x (which c x h) object);
    apart = λ c d x y h k object other differs. apart_by c d x y (was c x (which c x h) object) (was d y (which d y k) other) differs;
  }

  pub holds_changed : Holds new (with_block heap b after) layouts
  holds_changed = record {
    sound = let all_sound = holds.sound in record { blocks = λ c x h. sound_by c x (which c x h); greatest = all_sound.greatest };
    stands = stands;
    made = stays.made ∙ holds.made ∙ sym long;
    greatest = stays.greatest ∙ holds.greatest;
  }
