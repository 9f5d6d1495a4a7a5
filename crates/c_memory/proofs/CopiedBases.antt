-- The bases that a copy gives, word by word.
use Rattle.std.proofs.Common.{◌≡◌, ℕ, zero, suc, ◌+◌, ◌-◌, ◌<◌, ◌≤◌, List, [], ◌∷◌, ◌++◌, length, refl, ap, arith}
use Rattle.std.proofs.lemmas.List.{append-nil, append_assoc}
use Rattle.c_memory.specs.Copying.{copied_base, copied_bases}

-- one word more
pub copied_bases_more : (done source : List ℕ) (to from n word last : ℕ) → word < last
    → (done ++ copied_base source to from n word ∷ []) ++ copied_bases (last - (word + 1)) source to from n (word + 1)
    ≡ done ++ copied_bases (last - word) source to from n word
copied_bases_more done source to from n word last h =
    let e : last - word ≡ suc (last - (word + 1)) = omega arith in
    rw e (append_assoc done (copied_base source to from n word ∷ []) (copied_bases (last - (word + 1)) source to from n (word + 1)))

-- no word more
pub copied_bases_all : (done source : List ℕ) (to from n word last : ℕ) → last ≤ word → done ++ copied_bases (last - word) source to from n word ≡ done
copied_bases_all done source to from n word last h = let e : last - word ≡ 0 = omega arith in rw e (append-nil done)

pub length-copied_bases : (count : ℕ) (source : List ℕ) (to from n word : ℕ) → length (copied_bases count source to from n word) ≡ count
length-copied_bases zero source to from n word = refl
length-copied_bases (suc count) source to from n word = ap suc (length-copied_bases count source to from n (word + 1))
