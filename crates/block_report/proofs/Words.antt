-- Words in memory.
use Rattle.std.proofs.Common.{◌≡◌, ap, ap₂, subst, ℕ, zero, suc, ◌+◌, ◌*◌, ◌≤◌, inl, inr, List, Option, Some, None, Result, Ok, Err, arith}
use Rattle.std.proofs.lemmas.Bool.{cases_lt}
use Rattle.guest_mem.specs.declared.fault.Fault.{Fault}
use Rattle.rv_run.specs.Machine.{State, WordIs}
use Rattle.block_report.specs.Memory.{found, word_at, with_word, bytes_at}

-- the word of a load is what it gave
pub word_found : (loaded : Result ℕ Fault) (answer : Option ℕ) → WordIs loaded answer → answer ≡ found loaded
word_found (Ok word) answer is = is
word_found (Err fault) answer is = is

-- where a word is not there, neither are as many words with it
pub cut : (s : State) (at place n : ℕ) (bytes : List ℕ) → bytes_at s at n ≡ Some bytes → place ≡ at + 4 * n → word_at s place ≡ None → bytes_at s at (suc n) ≡ None
cut s at place n bytes is stands none = ap₂ with_word is (subst (λ (p : ℕ). word_at s p ≡ None) stands none)

-- nor are more
pub lacks : (s : State) (at n more : ℕ) → n ≤ more → bytes_at s at n ≡ None → bytes_at s at more ≡ None
lacks s at n zero most none = let same : n ≡ 0 = omega arith in subst (λ (k : ℕ). bytes_at s at k ≡ None) same none
lacks s at n (suc more) most none =
    elim (cases_lt more n) [
      | inl all ↦ (let same : n ≡ suc more = omega arith in subst (λ (k : ℕ). bytes_at s at k ≡ None) same none)
      | inr fewer ↦ ap (λ (front : Option (List ℕ)). with_word front (word_at s (at + 4 * more))) (lacks s at n more fewer none)
    ]
