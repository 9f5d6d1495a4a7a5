-- Reading calls one after the other, as a loop does.
use Rattle.std.proofs.Common.{◌≡◌, ℕ, suc, ◌-◌, ◌+◌, ◌≤◌, ◌<◌, List, [], ◌∷◌, ◌++◌, Some, None, sym, ap, ◌∙◌, append_assoc, arith}
use Rattle.std.proofs.lemmas.List.{append-nil}
use Rattle.plain_text.specs.Reading.{call_at, calls_at}

-- what was read before, and what is still read
abbrev pub with_front : List ℕ → List ℕ × List ℕ → List ℕ × List ℕ
with_front front read = (front ++ read.0, read.1)

pub goes_on : (front : List ℕ) (most i : ℕ) (text : List ℕ) (byte : ℕ) (after : List ℕ) (total : List ℕ × List ℕ) → i < most → call_at text ≡ Some (byte, after) → with_front front (calls_at (most - i) text) ≡ total → with_front (front ++ byte ∷ []) (calls_at (most - (i + 1)) after) ≡ total
unfolding calls_at
goes_on front most i text byte after total lt h so_far =
    let k : most - i ≡ suc (most - (i + 1)) = omega arith in
    let one : with_front front (calls_at (most - i) text) ≡ with_front (front ++ byte ∷ []) (calls_at (most - (i + 1)) after) = rw (k, h) (ap (λ (bytes : List ℕ). (bytes, (calls_at (most - (i + 1)) after).1)) (sym (append_assoc front (byte ∷ []) (calls_at (most - (i + 1)) after).0))) in
    sym one ∙ so_far

pub stops : (front : List ℕ) (most i : ℕ) (text : List ℕ) (total : List ℕ × List ℕ) → i < most → call_at text ≡ None → with_front front (calls_at (most - i) text) ≡ total → (front, text) ≡ total
unfolding calls_at
stops front most i text total lt h so_far =
    let k : most - i ≡ suc (most - (i + 1)) = omega arith in
    let one : with_front front (calls_at (most - i) text) ≡ (front, text) = rw (k, h) (ap (λ (bytes : List ℕ). (bytes, text)) (append-nil front)) in
    sym one ∙ so_far

pub is_full : (front : List ℕ) (most i : ℕ) (text : List ℕ) (total : List ℕ × List ℕ) → most ≤ i → with_front front (calls_at (most - i) text) ≡ total → (front, text) ≡ total
unfolding calls_at
is_full front most i text total le so_far =
    let k : most - i ≡ 0 = omega arith in
    let one : with_front front (calls_at (most - i) text) ≡ (front, text) = rw k (ap (λ (bytes : List ℕ). (bytes, text)) (append-nil front)) in
    sym one ∙ so_far
