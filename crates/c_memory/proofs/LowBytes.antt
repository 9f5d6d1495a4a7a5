-- The low bytes of a word.
use Rattle.std.proofs.Common.{◌≡◌, ℕ, zero, suc, ◌/◌, ◌%◌, ◌==◌, ◌&&◌, ◌≤◌, ◌⊎◌, inl, inr, [], ◌∷◌, take, refl, arith, false, ne_eqb}
use Rattle.std.proofs.lemmas.Bool.{and_left, and_right}
use Rattle.fsc_base.specs.declared.word.Word.{Word}
use Rattle.c_memory.specs.Access.{with_bytes, with_word}
use Rattle.c_memory.specs.Blocks.{Block}
use Rattle.c_memory.specs.Bytes.{little_endian_bytes}

pub take-bytes : (n value : ℕ) → n ≤ 4
    → take n (value % 256 ∷ value / 256 % 256 ∷ value / 65536 % 256 ∷ value / 16777216 % 256 ∷ []) ≡ little_endian_bytes n value
take-bytes zero value h = refl
take-bytes (suc zero) value h = refl
take-bytes (suc (suc zero)) value h = refl
take-bytes (suc (suc (suc zero))) value h = let third : value / 256 / 256 ≡ value / 65536 = omega arith in rw third refl
take-bytes (suc (suc (suc (suc zero)))) value h =
    let third : value / 256 / 256 ≡ value / 65536 = omega arith in
    let fourth : value / 65536 / 256 ≡ value / 16777216 = omega arith in
    rw (third, fourth) refl
take-bytes (suc (suc (suc (suc (suc n))))) value h = absurd (omega arith)

-- where no base is written
pub with_word-no_base : (block : Block) (offset n : ℕ) (what : Word) → ((n ≡ 4 → ⊥) ⊎ (offset % 4 ≡ 0 → ⊥))
    → with_bytes block offset (little_endian_bytes n what.value) ≡ with_word block offset n what
with_word-no_base block offset n what h =
    let test : ((n == 4) && (offset % 4 == 0)) ≡ false = elim h [
      | inl short ↦ and_left (n == 4) (offset % 4 == 0) (ne_eqb n 4 short)
      | inr apart ↦ and_right (n == 4) (offset % 4 == 0) (ne_eqb (offset % 4) 0 apart)
    ] in
    rw test refl
