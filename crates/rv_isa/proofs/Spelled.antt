-- Where instructions lie among the bytes of code.
use Rattle.std.proofs.Common.{◌≡◌, ℕ, zero, suc, ◌+◌, ◌*◌, ◌<◌, List, [], ◌∷◌, ◌++◌, length, take, drop, refl, sym, ap, ◌∙◌, add-one, arith}
use Rattle.std.specs.List.{flat_map}
use Rattle.std.proofs.lemmas.List.{length-append}
use Rattle.std.proofs.lemmas.Grind.{flat_map-append}
use Rattle.rv_isa.specs.declared.inst.Inst.{Inst}
use Rattle.rv_isa.specs.Spelling.{word_of, spelled, AreSpelled}

-- four bytes each
pub length-word_of : (inst : Inst) → length (word_of inst) ≡ 4
unfolding word_of
length-word_of inst = refl

pub length-spelled : (code : List Inst) → length (spelled code) ≡ 4 * length code
length-spelled [] = refl
length-spelled (inst ∷ code) =
    let more = length-spelled code in omega (arith, length-append (word_of inst) (spelled code), length-word_of inst)

-- code and more code
pub spelled-append : (code more : List Inst) → spelled (code ++ more) ≡ spelled code ++ spelled more
spelled-append code more = flat_map-append word_of code more

-- the first word, and what stands behind it
pub spelled-first : (inst : Inst) (code : List Inst) → take 4 (spelled (inst ∷ code)) ≡ word_of inst
unfolding word_of
spelled-first inst code = refl

pub spelled-rest : (inst : Inst) (code : List Inst) → drop 4 (spelled (inst ∷ code)) ≡ spelled code
unfolding word_of
spelled-rest inst code = refl

-- the place of an instruction that stands at the k-th
pub within_code : (code rest : List Inst) (k : ℕ) (inst : Inst) → drop k code ≡ inst ∷ rest → k < length code
within_code [] rest zero inst h = absurd cc
within_code [] rest (suc k) inst h = absurd cc
within_code (first ∷ code) rest zero inst h = omega arith
within_code (first ∷ code) rest (suc k) inst h = omega (arith, within_code code rest k inst h)

pub drop_one : (code rest : List Inst) (k : ℕ) (inst : Inst) → drop k code ≡ inst ∷ rest → drop (k + 1) code ≡ rest
drop_one [] rest zero inst h = absurd cc
drop_one [] rest (suc k) inst h = absurd cc
drop_one (first ∷ code) rest zero inst h = cc
drop_one (first ∷ code) rest (suc k) inst h = rw add-one (rw add-one at (drop_one code rest k inst h))

pub spelled_all : (code more : List Inst) → AreSpelled code → AreSpelled more → AreSpelled (code ++ more)
spelled_all [] more h hm = hm
spelled_all (inst ∷ code) more h hm = (h.0, spelled_all code more h.1 hm)
