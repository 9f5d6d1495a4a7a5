-- The blocks of a heap by number.
use Rattle.std.proofs.Common.{◌≡◌, ◌≢◌, ℕ, zero, suc, ◌-◌, ◌<◌, ◌≤◌, ◌⊎◌, inl, inr, List, [], ◌∷◌, ◌++◌, length, get_or, set, Option, Some, None, refl, sym, ap, ◌∙◌, arith, get_or-set_same, get_or-set_other}
use Rattle.std.proofs.lemmas.Bool.{cases_eq, cases_lt}
use Rattle.std.proofs.lemmas.List.{get_or_append_left, get_or_push, length_push, length-set}
use Rattle.c_memory.specs.Blocks.{Block, Heap, block_at, block_in, with_block}

pub record IsAt (blocks : List Block) (n : ℕ) (block : Block) : Type 0 where
  pub within : n < length blocks
  pub is : (d : Block) → get_or blocks n d ≡ block

same_some : (x y : Block) → ◌≡◌ {A = Option Block} (Some x) (Some y) → x ≡ y
same_some x y e = cc

pub block_in_get : (blocks : List Block) (n : ℕ) (block : Block) → block_in blocks n ≡ Some block → IsAt blocks n block
block_in_get [] n block h = absurd (let no : ◌≡◌ {A = Option Block} None (Some block) = h in cc)
block_in_get (x ∷ blocks) zero block h = record { within = omega arith; is = λ d. same_some x block h }
block_in_get (x ∷ blocks) (suc n) block h = let at = block_in_get blocks n block h in record { within = omega (arith, at.within); is = at.is }

pub block_in_some : (blocks : List Block) (n : ℕ) (d : Block) → n < length blocks → block_in blocks n ≡ Some (get_or blocks n d)
block_in_some [] n d h = absurd (omega arith)
block_in_some (x ∷ blocks) zero d h = refl
block_in_some (x ∷ blocks) (suc n) d h = block_in_some blocks n d (omega arith)

-- a block by number
pub record IsNumbered (heap : Heap) (b : ℕ) (block : Block) : Type 0 where
  pub positive : 1 ≤ b
  pub known : b ≤ length heap.blocks
  pub is : (d : Block) → get_or heap.blocks (b - 1) d ≡ block

pub block_at_get : (heap : Heap) (b : ℕ) (block : Block) → block_at heap b ≡ Some block → IsNumbered heap b block
block_at_get heap zero block h = absurd (let no : ◌≡◌ {A = Option Block} None (Some block) = h in cc)
block_at_get heap (suc n) block h =
    let at = block_in_get heap.blocks n block h in
    let one : suc n - 1 ≡ n = omega arith in
    record { positive = omega arith; known = omega (arith, at.within); is = λ d. ap (λ i. get_or heap.blocks i d) one ∙ at.is d }

pub block_at_some : (heap : Heap) (b : ℕ) (d : Block) → 1 ≤ b → b ≤ length heap.blocks → block_at heap b ≡ Some (get_or heap.blocks (b - 1) d)
block_at_some heap zero d low high = absurd (omega arith)
block_at_some heap (suc n) d low high =
    let one : suc n - 1 ≡ n = omega arith in
    block_in_some heap.blocks n d (omega arith) ∙ ap (λ i. Some (get_or heap.blocks i d)) (sym one)

pub block_at_is : (heap : Heap) (b : ℕ) (block : Block) → IsNumbered heap b block → block_at heap b ≡ Some block
block_at_is heap b block at = block_at_some heap b block at.positive at.known ∙ ap Some (at.is block)

-- one block has one number
pub same_block : (heap : Heap) (b : ℕ) (x y : Block) → block_at heap b ≡ Some x → block_at heap b ≡ Some y → x ≡ y
same_block heap b x y one other = same_some x y (sym one ∙ other)

-- ---- one more block

pub block_at_pushed : (blocks : List Block) (last : Block) (g h : List ℕ) (b : ℕ) (block : Block)
    → block_at (record { blocks = blocks ++ last ∷ []; greatest = g }) b ≡ Some block
    → (block_at (record { blocks = blocks; greatest = h }) b ≡ Some block) ⊎ ((b ≡ suc (length blocks)) × (block ≡ last))
block_at_pushed blocks last g h b block at =
    let is = block_at_get (record { blocks = blocks ++ last ∷ []; greatest = g }) b block at in
    let long = length_push blocks last in
    elim (cases_lt (b - 1) (length blocks)) [
      | inl lt ↦ inl (block_at_is (record { blocks = blocks; greatest = h }) b block
          (record { positive = is.positive; known = omega (arith, lt, is.positive); is = λ d. sym (get_or_append_left blocks (last ∷ []) d (b - 1) lt) ∙ is.is d }))
      | inr le ↦
          let place : length blocks ≡ b - 1 = omega (arith, le, is.known, is.positive, long) in
          inr (omega (arith, place, is.positive), sym (is.is block) ∙ get_or_push blocks last block (b - 1) place)
    ]

-- ---- another block under a number

pub block_at_changed : (heap : Heap) (b : ℕ) (new : Block) (c : ℕ) (block : Block) → 1 ≤ b → b ≤ length heap.blocks
    → block_at (with_block heap b new) c ≡ Some block
    → ((c ≡ b) × (block ≡ new)) ⊎ ((c ≢ b) × (block_at heap c ≡ Some block))
block_at_changed heap b new c block low high at =
    let is = block_at_get (with_block heap b new) c block at in
    let long = length-set heap.blocks (b - 1) new in
    elim (cases_eq c b) [
      | inl same ↦
          let place : c - 1 ≡ b - 1 = ap (λ n. n - 1) same in
          inl (same, sym (is.is block) ∙ ap (λ n. get_or (set heap.blocks (b - 1) new) n block) place ∙ get_or-set_same heap.blocks (b - 1) new block (omega (arith, low, high)))
      | inr differs ↦
          let other : c - 1 ≢ b - 1 = omega (arith, differs, is.positive, low) in
          inr (
            differs,
            block_at_is heap c block
                (record { positive = is.positive; known = omega (arith, is.known, long); is = λ d. sym (get_or-set_other heap.blocks (b - 1) (c - 1) new d other) ∙ is.is d }),
          )
    ]
