-- The blocks of a heap when one of them is replaced.
use Rattle.std.proofs.Common.{◌≡◌, ◌≢◌, ℕ, zero, suc, ◌-◌, ◌<◌, ◌≤◌, inl, inr, List, [], ◌∷◌, length, set, Some, refl, sym, ap, ◌∙◌, subst, arith}
use Rattle.std.proofs.lemmas.Bool.{cases_eq}
use Rattle.std.proofs.lemmas.List.{length-set, set-set}
use Rattle.c_memory.specs.Blocks.{Block, Heap, block_in, block_at, with_block}

block_in-lt : (blocks : List Block) (n : ℕ) (x : Block) → block_in blocks n ≡ Some x → n < length blocks
block_in-lt [] n x h = absurd (cc)
block_in-lt (block ∷ blocks) zero x h = omega arith
block_in-lt (block ∷ blocks) (suc n) x h = omega (arith, block_in-lt blocks n x h)

block_in-set_same : (blocks : List Block) (n : ℕ) (x : Block) → n < length blocks → block_in (set blocks n x) n ≡ Some x
block_in-set_same [] n x h = absurd (omega arith)
block_in-set_same (block ∷ blocks) zero x h = refl
block_in-set_same (block ∷ blocks) (suc n) x h = block_in-set_same blocks n x (omega arith)

block_in-set_other : (blocks : List Block) (n m : ℕ) (x : Block) → m ≢ n → block_in (set blocks n x) m ≡ block_in blocks m
block_in-set_other [] n m x h = refl
block_in-set_other (block ∷ blocks) zero zero x h = absurd (h refl)
block_in-set_other (block ∷ blocks) zero (suc m) x h = refl
block_in-set_other (block ∷ blocks) (suc n) zero x h = refl
block_in-set_other (block ∷ blocks) (suc n) (suc m) x h = block_in-set_other blocks n m x (λ e. h (ap suc e))

block_in-set_here : (blocks : List Block) (n : ℕ) (x : Block) → block_in blocks n ≡ Some x → set blocks n x ≡ blocks
block_in-set_here [] n x h = refl
block_in-set_here (block ∷ blocks) zero x h = let e : block ≡ x = cc in ap (λ (b : Block). b ∷ blocks) (sym e)
block_in-set_here (block ∷ blocks) (suc n) x h = ap (λ (bs : List Block). block ∷ bs) (block_in-set_here blocks n x h)

-- a number of a block is from 1 to their count
pub block_at-made : (heap : Heap) (b : ℕ) (x : Block) → block_at heap b ≡ Some x → (1 ≤ b) × (b ≤ length heap.blocks)
block_at-made heap zero x h = absurd (cc)
block_at-made heap (suc n) x h = let within = block_in-lt heap.blocks n x h in (omega arith, omega arith)

before : (n : ℕ) → suc n - 1 ≡ n
before n = omega arith

pub block_at-with_same : (heap : Heap) (b : ℕ) (x y : Block) → block_at heap b ≡ Some x → block_at (with_block heap b y) b ≡ Some y
block_at-with_same heap zero x y h = absurd (cc)
block_at-with_same heap (suc n) x y h =
    ap (λ (i : ℕ). block_in (set heap.blocks i y) n) (before n) ∙ block_in-set_same heap.blocks n y (block_in-lt heap.blocks n x h)

pub block_at-with_other : (heap : Heap) (b c : ℕ) (x y : Block) → block_at heap b ≡ Some x → c ≢ b → block_at (with_block heap b y) c ≡ block_at heap c
block_at-with_other heap zero c x y h other = absurd (cc)
block_at-with_other heap (suc n) zero x y h other = refl
block_at-with_other heap (suc n) (suc m) x y h other =
    ap (λ (i : ℕ). block_in (set heap.blocks i y) m) (before n) ∙ block_in-set_other heap.blocks n m y (λ e. other (ap suc e))

-- a block that replaces itself
pub with_block_here : (heap : Heap) (b : ℕ) (x : Block) → block_at heap b ≡ Some x → with_block heap b x ≡ heap
with_block_here heap zero x h = absurd (cc)
with_block_here heap (suc n) x h =
    ap (λ (blocks : List Block). record heap { blocks = blocks }) (ap (λ (i : ℕ). set heap.blocks i x) (before n) ∙ block_in-set_here heap.blocks n x h)

-- a block that is replaced twice
pub with_block_twice : (heap : Heap) (b : ℕ) (x y : Block) → with_block (with_block heap b x) b y ≡ with_block heap b y
with_block_twice heap b x y = ap (λ (blocks : List Block). record heap { blocks = blocks }) (set-set heap.blocks (b - 1) x y)

pub length-with_block : (heap : Heap) (b : ℕ) (y : Block) → length (with_block heap b y).blocks ≡ length heap.blocks
length-with_block heap b y = length-set heap.blocks (b - 1) y

-- What holds of the new block, and of each other one, holds of all.
pub each_block : (heap : Heap) (b : ℕ) (x y : Block) (P : ℕ → Block → Type 0) → block_at heap b ≡ Some x → P b y
    → ((c : ℕ) (z : Block) → c ≢ b → block_at heap c ≡ Some z → P c z)
    → (c : ℕ) (z : Block) → block_at (with_block heap b y) c ≡ Some z → P c z
each_block heap b x y P found here others c z h = elim (cases_eq c b) [
  | inl same ↦
      let at_b : block_at (with_block heap b y) b ≡ Some z = ap (λ (i : ℕ). block_at (with_block heap b y) i) (sym same) ∙ h in
      let both : Some y ≡ Some z = sym (block_at-with_same heap b x y found) ∙ at_b in
      let e : y ≡ z = cc in
      subst (λ (i : ℕ). P i z) (sym same) (subst (λ (k : Block). P b k) e here)
  | inr other ↦ others c z other (sym (block_at-with_other heap b c x y found other) ∙ h)
]
