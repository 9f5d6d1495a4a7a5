-- What headers tell of a heap, and how it changes with one header.
use Rattle.std.proofs.Common.{◌≡◌, ◌≢◌, ℕ, zero, suc, ◌+◌, ◌-◌, ◌<◌, ◌≤◌, cond, eqb, List, [], ◌∷◌, ◌++◌, length, get_or, set, refl, sym, ap, ◌∙◌, add-one, arith, inl, inr}
use Rattle.std.specs.Prelude.{◌&&◌}
use Rattle.std.proofs.lemmas.Bool.{cases_lt, cases_eq}
use Rattle.std.proofs.lemmas.Bool.Decides.{nat_tests}
use Rattle.std.proofs.lemmas.List.{length_push, get_or_push, get_or_append_left, same_lists, length-set, get_or-set_same, get_or-set_other}
use Rattle.std.proofs.lemmas.List.Sums.{sum_by_push, sum_by-set, get_or-le-sum_by}
use Rattle.block_header.specs.declared.Header.{Header}
use Rattle.block_header.specs.Headers.{header_at}
use Rattle.c_memory.specs.Blocks.{Block}
use Rattle.c_memory.specs.Storage.{class_of, live_in, next_base, span}
use Rattle.cell_store.specs.Making.{told_by, told_in}

pub told_more : (words : List ℕ) (n : ℕ) → told_in words (suc n) ≡ told_in words n ++ told_by (header_at words (suc n)) ∷ []
unfolding told_in
told_more words n = refl

pub told_one_more : (words : List ℕ) (n : ℕ) → told_in words (n + 1) ≡ told_in words n ++ told_by (header_at words (n + 1)) ∷ []
told_one_more words n = rw add-one (told_more words n)

pub length_told : (words : List ℕ) (n : ℕ) → length (told_in words n) ≡ n
unfolding told_in
length_told words zero = refl
length_told words (suc n) = length_push (told_in words n) (told_by (header_at words (suc n))) ∙ omega (arith, length_told words n)

pub told_at : (words : List ℕ) (n k : ℕ) (d : Block) → k < n → get_or (told_in words n) k d ≡ told_by (header_at words (suc k))
told_at words zero k d h = absurd (omega arith)
told_at words (suc n) k d h =
    elim (cases_lt k n) [
      | inl lt ↦
          let within : k < length (told_in words n) = omega (arith, length_told words n) in
          rw (told_more words n) (get_or_append_left (told_in words n) _ d k within ∙ told_at words n k d lt)
      | inr le ↦ let is : k ≡ n = omega arith in rw (is, told_more words n) (get_or_push (told_in words n) (told_by (header_at words (suc n))) d n (length_told words n))
    ]

-- the same headers tell the same
pub told_same : (old new : List ℕ) (n : ℕ) → ((b : ℕ) → 1 ≤ b → b ≤ n → header_at new b ≡ header_at old b) → told_in new n ≡ told_in old n
unfolding told_in
told_same old new zero same = refl
told_same old new (suc n) same =
    rw (told_same old new n (λ b low high. same b low (omega arith))) (ap (λ (h : Header). told_in old n ++ told_by h ∷ []) (same (suc n) (omega arith) (omega arith)))

at_place : (old new : List ℕ) (n b : ℕ) → 1 ≤ b → b ≤ n
    → ((c : ℕ) → 1 ≤ c → c ≤ n → c ≢ b → header_at new c ≡ header_at old c)
    → (k : ℕ) (d : Block) → k < n → get_or (told_in new n) k d ≡ get_or (set (told_in old n) (b - 1) (told_by (header_at new b))) k d
at_place old new n b low high same k d h =
    let here : get_or (told_in new n) k d ≡ told_by (header_at new (suc k)) = told_at new n k d h in
    let block = told_by (header_at new b) in
    elim (cases_eq k (b - 1)) [
      | inl is ↦
          let within : b - 1 < length (told_in old n) = omega (arith, length_told old n) in
          let number : suc k ≡ b = omega arith in
          here ∙ ap (λ i. told_by (header_at new i)) number
          ∙ sym (ap (λ i. get_or (set (told_in old n) (b - 1) block) i d) is ∙ get_or-set_same (told_in old n) (b - 1) block d within)
      | inr differs ↦
          let other : suc k ≢ b = omega arith in
          here ∙ ap told_by (same (suc k) (omega arith) (omega arith) other)
          ∙ sym (get_or-set_other (told_in old n) (b - 1) k block d differs ∙ told_at old n k d h)
    ]

-- one header is another
pub told_changed : (old new : List ℕ) (n b : ℕ) → 1 ≤ b → b ≤ n
    → ((c : ℕ) → 1 ≤ c → c ≤ n → c ≢ b → header_at new c ≡ header_at old c)
    → told_in new n ≡ set (told_in old n) (b - 1) (told_by (header_at new b))
told_changed old new n b low high same =
    same_lists _ _ (length_told new n ∙ sym (length-set (told_in old n) (b - 1) (told_by (header_at new b)) ∙ length_told old n))
    (λ k d h. at_place old new n b low high same k d (omega (arith, length_told new n)))

-- a block counts for its class while it is live
abbrev pub counts : (class : ℕ) → Block → ℕ
counts class block = cond (block.is_live && eqb (class_of block.size) class) 1 0

pub live_push : (class : ℕ) (blocks : List Block) (block : Block) → live_in class (blocks ++ block ∷ []) ≡ live_in class blocks + counts class block
unfolding live_in
live_push class blocks block = sum_by_push (counts class) blocks block

pub live_set : (class : ℕ) (blocks : List Block) (i : ℕ) (block d : Block) → i < length blocks
    → live_in class (set blocks i block) + counts class (get_or blocks i d) ≡ live_in class blocks + counts class block
unfolding live_in
live_set class blocks i block d h = sum_by-set (counts class) blocks i block d h

pub live_at : (class : ℕ) (blocks : List Block) (i : ℕ) (d : Block) → i < length blocks → counts class (get_or blocks i d) ≤ live_in class blocks
unfolding live_in
live_at class blocks i d h = get_or-le-sum_by (counts class) blocks i d h

abbrev pub spans : Block → ℕ
spans block = span block.size

pub next_push : (blocks : List Block) (block : Block) (g h : List ℕ)
    → next_base (record { blocks = blocks ++ block ∷ []; greatest = g }) ≡ next_base (record { blocks = blocks; greatest = h }) + span block.size
unfolding next_base
next_push blocks block g h = omega (arith, sum_by_push spans blocks block)

pub next_set : (blocks : List Block) (i : ℕ) (block d : Block) (g h : List ℕ) → i < length blocks → block.size ≡ (get_or blocks i d).size
    → next_base (record { blocks = set blocks i block; greatest = g }) ≡ next_base (record { blocks = blocks; greatest = h })
unfolding next_base
next_set blocks i block d g h within same =
    omega (arith, sum_by-set spans blocks i block d within, ap span same)

-- what a block of a class counts for a class
abbrev pub own : (class x : ℕ) → ℕ
own class x = cond (eqb class x) 1 0

pub own_here : (class : ℕ) → own class class ≡ 1
own_here class = grind (arith, nat_tests)

pub own_there : (class x : ℕ) → x ≢ class → own class x ≡ 0
own_there class x differs = grind (arith, nat_tests)

-- a block that isn't dead counts for its own class, a dead one for none
pub counts_used : (class : ℕ) (header : Header) → 1 ≤ header.desc → counts class (told_by header) ≡ own (class_of header.size) class
counts_used class header used = grind (arith, nat_tests)

pub counts_dead : (class : ℕ) (header : Header) → header.desc ≡ 0 → counts class (told_by header) ≡ 0
counts_dead class header dead = grind (arith, nat_tests)
