-- Where a store that holds a heap finds the bytes of an access.
use Rattle.std.proofs.Common.{◌≡◌, ℕ, zero, suc, ◌+◌, ◌<◌, ◌≤◌, ◌⊎◌, inl, inr, true, false, List, [], ◌∷◌, length, Some, None, refl, sym, ap, ◌∙◌, arith}
use Rattle.std.specs.Prelude.{nat_le}
use Rattle.std.proofs.lemmas.Bool.{cases_lt, true_from_ne_false, le-leb, lt-leb, false_from_ne_true, and_from, and_left, and_right}
use Rattle.fsc_base.specs.declared.word.Word.{Word}
use Rattle.c_memory.specs.declared.access.Outside.{Outside}
use Rattle.c_memory.specs.Access.{distance, is_within, within, refused, offset_of}
use Rattle.c_memory.specs.Blocks.{Block, Heap, block_in, block_at, is_live_object, is_object}
use Rattle.cell_store.specs.Layouts.{Layouts}
use Rattle.cell_store.specs.StandsFor.{HeaderWords, Describes}
use Rattle.cell_store.specs.Store.{Store, IsMade, header_in, Holds}
use Rattle.access_methods.specs.declared.locate.Spot.{Spot}
use Rattle.access_methods.specs.Spots.{IsSpot, IsNowhere, IsBeyond}

-- ---- blocks that were made

block_in-some : (blocks : List Block) (n : ℕ) → n < length blocks → (x : Block) × (block_in blocks n ≡ Some x)
block_in-some [] n h = absurd (omega arith)
block_in-some (block ∷ blocks) zero h = (block, refl)
block_in-some (block ∷ blocks) (suc n) h = block_in-some blocks n (omega arith)

block_in-none : (blocks : List Block) (n : ℕ) → length blocks ≤ n → block_in blocks n ≡ None
block_in-none [] n h = refl
block_in-none (block ∷ blocks) zero h = absurd (omega arith)
block_in-none (block ∷ blocks) (suc n) h = block_in-none blocks n (omega arith)

at_known : (heap : Heap) (b : ℕ) → 1 ≤ b → b ≤ length heap.blocks → (x : Block) × (block_at heap b ≡ Some x)
at_known heap zero positive known = absurd (omega arith)
at_known heap (suc n) positive known = block_in-some heap.blocks n (omega arith)

at_unknown : (heap : Heap) (b : ℕ) → length heap.blocks < b → block_at heap b ≡ None
at_unknown heap zero h = refl
at_unknown heap (suc n) h = block_in-none heap.blocks n (omega arith)

pub made_block : (store : Store) (heap : Heap) (layouts : Layouts) (b : ℕ) → Holds store heap layouts → IsMade store b → (x : Block) × (block_at heap b ≡ Some x)
made_block store heap layouts b holds made = at_known heap b made.positive (let count = holds.made in let known = made.known in omega arith)

unmade_cases : (store : Store) (b : ℕ) → (IsMade store b → ⊥) → (b ≡ 0) ⊎ (store.made < b)
unmade_cases store zero unmade = inl refl
unmade_cases store (suc n) unmade = elim (cases_lt store.made (suc n)) [
  | inl beyond ↦ inr beyond
  | inr within ↦ absurd (unmade (record { positive = omega arith; known = within }))
]

pub unmade_block : (store : Store) (heap : Heap) (layouts : Layouts) (b : ℕ) → Holds store heap layouts → (IsMade store b → ⊥) → block_at heap b ≡ None
unmade_block store heap layouts b holds unmade = elim (unmade_cases store b unmade) [
  | inl none ↦ ap (λ (n : ℕ). block_at heap n) none
  | inr beyond ↦ at_unknown heap b (let count = holds.made in omega arith)
]

-- ---- live objects

dead_or_not : (header : HeaderWords) (x : Block) → Describes header x → 2 ≤ header.desc → x.is_live ≡ false → ⊥
dead_or_not header x describes desc dead = let is = (describes.dead dead).0 in omega arith

object_or_not : (header : HeaderWords) (x : Block) → Describes header x → 2 ≤ header.desc → is_object x.kind ≡ false → ⊥
object_or_not header x describes desc function = let is = describes.function function in omega arith

pub live_from_desc : (header : HeaderWords) (x : Block) → Describes header x → 2 ≤ header.desc → is_live_object x ≡ true
live_from_desc header x describes desc = and_from (is_object x.kind) x.is_live
    (true_from_ne_false (is_object x.kind) (object_or_not header x describes desc))
    (true_from_ne_false x.is_live (dead_or_not header x describes desc))

not_live : (header : HeaderWords) (x : Block) → Describes header x → header.desc < 2 → is_live_object x ≡ false
not_live header x describes desc = false_from_ne_true (is_live_object x) (λ live. let low = describes.object live in omega arith)

-- ---- what is within

around_some : (heap : Heap) (at : Word) (n : ℕ) (x : Block) → block_at heap at.block ≡ Some x → is_within x (distance at.value x.base) n ≡ true → within heap at n ≡ Some x
unfolding within
around_some heap at n x found is = rw (found, is) refl

around_none : (heap : Heap) (at : Word) (n : ℕ) (x : Block) → block_at heap at.block ≡ Some x → is_within x (distance at.value x.base) n ≡ false → within heap at n ≡ None
unfolding within
around_none heap at n x found is = rw (found, is) refl

around_nothing : (heap : Heap) (at : Word) (n : ℕ) → block_at heap at.block ≡ None → within heap at n ≡ None
unfolding within
around_nothing heap at n none = rw none refl

-- the object that a spot is in
pub record IsThere (store : Store) (heap : Heap) (at : Word) (n : ℕ) (spot : Spot) : Type 0 where
  pub block : Block
  pub found : block_at heap at.block ≡ Some block
  pub live : is_live_object block ≡ true
  pub around : within heap at n ≡ Some block
  pub size : block.size ≡ spot.size
  pub offset : spot.offset ≡ distance at.value block.base
  pub refusal : refused heap at n ≡ record { block = spot.block; offset = spot.offset; width = n }

offset_at : (heap : Heap) (at : Word) (x : Block) → block_at heap at.block ≡ Some x → offset_of heap at ≡ distance at.value x.base
offset_at heap at x found = rw found refl

offset_nowhere : (heap : Heap) (at : Word) → block_at heap at.block ≡ None → offset_of heap at ≡ at.value
offset_nowhere heap at none = rw none refl

outside-same : (a b c d e f : ℕ) → a ≡ d → b ≡ e → c ≡ f
    → ◌≡◌ {A = Outside} (record { block = a; offset = b; width = c }) (record { block = d; offset = e; width = f })
outside-same a b c d e f p q r = rw (p, q, r) refl

pub there : (store : Store) (heap : Heap) (layouts : Layouts) (at : Word) (n : ℕ) (spot : Spot) → Holds store heap layouts → IsSpot store at n spot → IsThere store heap at n spot
there store heap layouts at n spot holds is =
    let some = made_block store heap layouts at.block holds is.live.made in
    let x : Block = some.0 in
    let found : block_at heap at.block ≡ Some x = some.1 in
    let head = holds.stands.headers at.block x found in
    let live : is_live_object x ≡ true = live_from_desc (header_in store at.block) x head is.live.object in
    let size : x.size ≡ spot.size = sym head.size ∙ sym is.size in
    let offset : spot.offset ≡ distance at.value x.base = is.offset ∙ ap (λ (b : ℕ). distance at.value b) head.base in
    let ends : distance at.value x.base + n ≤ x.size = let room = is.within in rw (sym offset, size) room in
    record {
      block = x;
      found = found;
      live = live;
      around = around_some heap at n x found (and_from (is_live_object x) (nat_le (distance at.value x.base + n) x.size) live (le-leb (distance at.value x.base + n) x.size ends));
      size = size;
      offset = offset;
      refusal = outside-same _ _ _ _ _ _ (sym is.block) (offset_at heap at x found ∙ sym offset) refl;
    }

-- and where there is none
beyond_live : (store : Store) (heap : Heap) (layouts : Layouts) (at : Word) (n : ℕ) (x : Block) → Describes (header_in store at.block) x
    → ((header_in store at.block).desc < 2) ⊎ ((header_in store at.block).size < distance at.value (header_in store at.block).base + n)
    → is_within x (distance at.value x.base) n ≡ false
beyond_live store heap layouts at n x head (inl low) =
    and_left (is_live_object x) (nat_le (distance at.value x.base + n) x.size) (not_live (header_in store at.block) x head low)
beyond_live store heap layouts at n x head (inr ends) =
    and_right (is_live_object x) (nat_le (distance at.value x.base + n) x.size)
    (lt-leb (distance at.value x.base + n) x.size (rw (sym head.size, sym head.base) ends))

pub not_there : (store : Store) (heap : Heap) (layouts : Layouts) (at : Word) (n : ℕ) (refusal : Outside) → Holds store heap layouts
    → IsNowhere store at n refusal ⊎ IsBeyond store at n refusal → (within heap at n ≡ None) × (refusal ≡ refused heap at n)
not_there store heap layouts at n refusal holds (inl nowhere) =
    let none = unmade_block store heap layouts at.block holds nowhere.unmade in
    (around_nothing heap at n none, nowhere.is ∙ outside-same _ _ _ _ _ _ refl (sym (offset_nowhere heap at none)) refl)
not_there store heap layouts at n refusal holds (inr beyond) =
    let some = made_block store heap layouts at.block holds beyond.made in
    let x : Block = some.0 in
    let found : block_at heap at.block ≡ Some x = some.1 in
    let head = holds.stands.headers at.block x found in (
      around_none heap at n x found (beyond_live store heap layouts at n x head beyond.fails),
      beyond.is ∙ outside-same _ _ _ _ _ _ refl (ap (λ (b : ℕ). distance at.value b) head.base ∙ sym (offset_at heap at x found)) refl,
    )
