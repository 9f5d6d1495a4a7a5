-- What a source whose bytes lie in a list takes from it.
use Rattle.std.proofs.Common.{◌≡◌, ℕ, ◌+◌, ◌≤◌, List, ◌++◌, Some, length, take, drop, length-take, ap, sym, ◌∙◌, arith}
use Rattle.std.proofs.Math.Seq.{take_at}
use Rattle.std.proofs.lemmas.List.{drop-drop, take-append-drop}
use Rattle.fsc_outside.specs.Streams.{Takes}

-- the front of what is left was copied over the front of the buffer
pub takes_front : (bytes left copied buffer : List ℕ) (k n : ℕ) → left ≡ drop k bytes → n ≤ length left → copied ≡ take n left
    → Takes (Some left) (Some (drop (k + n) bytes)) (take n (copied ++ drop n buffer))
takes_front bytes left copied buffer k n is fits same =
    let long : length copied ≡ n = ap length same ∙ omega (arith, length-take n left) in
    let front : take n (copied ++ drop n buffer) ≡ take n left = take_at copied (drop n buffer) n long ∙ same in
    let rest : drop (k + n) bytes ≡ drop n left = sym (drop-drop n k bytes) ∙ ap (drop n) (sym is) in
    (drop n left, sym (ap (λ (r : List ℕ). r ++ drop n left) front ∙ take-append-drop n left), ap Some rest)
