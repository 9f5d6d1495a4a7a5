-- What a loop that writes a piece in parts has written after each part.
use Rattle.std.proofs.Common.{◌≡◌, ℕ, ◌+◌, ◌-◌, ◌≤◌, List, ◌++◌, Option, length, take, drop, length-drop, ap, sym, subst, ◌∙◌, arith}
use Rattle.std.proofs.Math.Seq.{take-add}
use Rattle.std.proofs.lemmas.List.{drop-drop}
use Rattle.std.proofs.lemmas.Slice.{between_to_end}
use Rattle.fsc_outside.specs.Streams.{Appends}
use Rattle.fsc_outside.proofs.Appending.{appends_then}

-- what is left of a rest from `n` on, as the program slices it
tail-is : (rest : List ℕ) (n : ℕ) → take (length rest - n) (drop n rest) ≡ drop n rest
tail-is rest n = between_to_end rest n (length rest) (omega arith)

pub length-tail : (rest : List ℕ) (n : ℕ) → length (take (length rest - n) (drop n rest)) ≡ length rest - n
length-tail rest n = ap length (tail-is rest n) ∙ length-drop n rest

-- the place where the rest begins moves on by the part
place : (piece rest : List ℕ) (n : ℕ) → length rest ≤ length piece → n ≤ length rest
    → length piece - length (take (length rest - n) (drop n rest)) ≡ (length piece - length rest) + n
place piece rest n within fits = let e = length-tail rest n in omega arith

pub rest_more : (piece rest : List ℕ) (n : ℕ) → length rest ≤ length piece → rest ≡ drop (length piece - length rest) piece → n ≤ length rest
    → take (length rest - n) (drop n rest) ≡ drop (length piece - length (take (length rest - n) (drop n rest))) piece
rest_more piece rest n within is fits =
    tail-is rest n ∙ ap (drop n) is ∙ drop-drop n _ piece ∙ ap (λ k. drop k piece) (sym (place piece rest n within fits))

pub written_more : (old now new : Option (List ℕ)) (piece rest : List ℕ) (n : ℕ) → length rest ≤ length piece → rest ≡ drop (length piece - length rest) piece → n ≤ length rest
    → Appends old now (take (length piece - length rest) piece) → Appends now new (take n rest)
    → Appends old new (take (length piece - length (take (length rest - n) (drop n rest))) piece)
written_more old now new piece rest n within is fits first then =
    let front = take (length piece - length rest) piece in
    let joined : Appends old new (front ++ take n rest) = appends_then old now new front (take n rest) first then in
    let split : take (length piece - length (take (length rest - n) (drop n rest))) piece ≡ front ++ take n rest =
    ap (λ k. take k piece) (place piece rest n within fits) ∙ take-add _ n piece ∙ ap (λ (r : List ℕ). front ++ take n r) (sym is) in
    subst (λ (written : List ℕ). Appends old new written) (sym split) joined
