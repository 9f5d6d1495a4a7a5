-- Lists that are overwritten from a place on, one item after another.
use Rattle.std.proofs.Common.{◌≡◌, ℕ, ◌+◌, ◌<◌, ◌≤◌, List, ◌++◌, length, take, drop, get_or, set, All, sym, ap, ◌∙◌, arith, length-append, append_assoc, add-zero}
use Rattle.std.proofs.lemmas.List.{length-take-le, length-drop, take_all, take-append-drop}
use Rattle.std.proofs.lemmas.List.Edits.{paste_more}
use lib.Seq.{paste}
use Rattle.std.proofs.lemmas.List.Elements.{All-append, All-take, All-drop}
use Rattle.c_memory.specs.Bytes.{overwritten}

pub length-overwritten : {X : Type 0} (xs : List X) (place : ℕ) (items : List X) → place + length items ≤ length xs → length (overwritten xs place items) ≡ length xs
length-overwritten xs place items room =
    length-append (take place xs) (items ++ drop (place + length items) xs)
    ∙ omega (arith, length-append items (drop (place + length items) xs), length-take-le place xs (omega arith), length-drop (place + length items) xs)

pub All-overwritten : {X : Type 0} (P : X → Type 0) (xs : List X) (place : ℕ) (items : List X) → All P xs → All P items → All P (overwritten xs place items)
All-overwritten P xs place items old new =
    All-append P (take place xs) (items ++ drop (place + length items) xs) (All-take P place xs old)
    (All-append P items (drop (place + length items) xs) new (All-drop P (place + length items) xs old))

-- no item
pub overwritten_none : {X : Type 0} (xs : List X) (place : ℕ) (items : List X) → overwritten xs place (take 0 items) ≡ xs
overwritten_none xs place items = ap (λ (i : ℕ). take place xs ++ drop i xs) (add-zero place) ∙ take-append-drop place xs

-- as many items, where they are there
pub as_paste : {X : Type 0} (xs : List X) (place k : ℕ) (items : List X) → k ≤ length items → paste xs place items k ≡ overwritten xs place (take k items)
as_paste {X = X} xs place k items within =
    ap (λ (i : ℕ). take place xs ++ take k items ++ drop (place + i) xs) (sym (length-take-le k items within))
    ∙ append_assoc (take place xs) (take k items) (drop (place + length (take k items)) xs)

-- one more item
pub overwritten_more : {X : Type 0} (xs : List X) (place k : ℕ) (items : List X) (d : X) → place + k < length xs → k < length items
    → set (overwritten xs place (take k items)) (place + k) (get_or items k d) ≡ overwritten xs place (take (k + 1) items)
overwritten_more {X = X} xs place k items d room within =
    ap (λ (ys : List X). set ys (place + k) (get_or items k d)) (sym (as_paste xs place k items (omega arith)))
    ∙ paste_more xs place items k d room within
    ∙ as_paste xs place (k + 1) items (omega arith)

-- all items
pub overwritten_all : {X : Type 0} (xs : List X) (place n : ℕ) (items : List X) → length items ≤ n → overwritten xs place (take n items) ≡ overwritten xs place items
overwritten_all {X = X} xs place n items h = ap (λ (ys : List X). overwritten xs place ys) (take_all n items h)
