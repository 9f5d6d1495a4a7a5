-- Parts of a list in which some bytes were overwritten.
use Rattle.std.proofs.Common.{◌≡◌, ℕ, ◌+◌, ◌-◌, ◌<◌, ◌≤◌, ◌⊎◌, min, inl, inr, List, ◌++◌, length, take, drop, get_or, refl, sym, ap, ◌∙◌, arith, rules}
use Rattle.std.proofs.lemmas.Bool.{cases_lt}
use Rattle.std.proofs.lemmas.List.{places, length-append, same_lists, length-drop, length-take-le, take_at, drop_at, get_or_append_left, get_or-append_right, get_or-take, get_or-drop, length-take}
use Rattle.guest_mem.specs.Guest.{overwritten}

pub length-overwritten : (all : List ℕ) (place : ℕ) (bytes : List ℕ) → place + length bytes ≤ length all → length (overwritten all place bytes) ≡ length all
length-overwritten all place bytes h = search (rules, places)

-- what was put there
pub part_same : (all : List ℕ) (place : ℕ) (bytes : List ℕ) → place + length bytes ≤ length all → take (length bytes) (drop place (overwritten all place bytes)) ≡ bytes
part_same all place bytes h =
    rw (drop_at (take place all) (bytes ++ drop (place + length bytes) all) place (length-take-le place all (omega arith)))
    (take_at bytes (drop (place + length bytes) all) (length bytes) refl)

pub get_or-overwritten : (all : List ℕ) (place : ℕ) (bytes : List ℕ) (k d : ℕ) → place + length bytes ≤ length all → (k < place) ⊎ (place + length bytes ≤ k)
    → get_or (overwritten all place bytes) k d ≡ get_or all k d
get_or-overwritten all place bytes k d h apart =
    let n = length-take-le place all (omega arith) in
    elim apart [
      | inl below ↦ get_or_append_left (take place all) (bytes ++ drop (place + length bytes) all) d k (omega arith) ∙ get_or-take place all k d below
      | inr above ↦
          get_or-append_right (take place all) (bytes ++ drop (place + length bytes) all) place k d n (omega arith)
          ∙ get_or-append_right bytes (drop (place + length bytes) all) (length bytes) (k - place) d refl (omega arith)
          ∙ get_or-drop (place + length bytes) all (k - place - length bytes) d
          ∙ ap (λ (i : ℕ). get_or all i d) (let e : place + length bytes + (k - place - length bytes) ≡ k = omega arith in e)
    ]

pub get_or-overwritten_in : (all : List ℕ) (place : ℕ) (bytes : List ℕ) (k d : ℕ) → place + length bytes ≤ length all → k < length bytes
    → get_or (overwritten all place bytes) (place + k) d ≡ get_or bytes k d
get_or-overwritten_in all place bytes k d h lt =
    let n = length-take-le place all (omega arith) in
    get_or-append_right (take place all) (bytes ++ drop (place + length bytes) all) place (place + k) d n (omega arith)
    ∙ ap (λ (i : ℕ). get_or (bytes ++ drop (place + length bytes) all) i d) (let e : place + k - place ≡ k = omega arith in e)
    ∙ get_or_append_left bytes (drop (place + length bytes) all) d k lt

-- what stands beside it
pub part_apart : (all : List ℕ) (place : ℕ) (bytes : List ℕ) (from n : ℕ) → place + length bytes ≤ length all → (from + n ≤ place) ⊎ (place + length bytes ≤ from)
    → take n (drop from (overwritten all place bytes)) ≡ take n (drop from all)
part_apart all place bytes from n h apart =
    let same = length-overwritten all place bytes h in
    same_lists _ _ (simp (length-take, length-drop) (ap (λ (m : ℕ). min n (m - from)) same)) (λ k d lt.
    let fits : k < n = omega (arith, length-take n (drop from (overwritten all place bytes))) in
    let beside : (from + k < place) ⊎ (place + length bytes ≤ from + k) = elim apart [ inl below ↦ inl (omega arith) | inr above ↦ inr (omega arith) ] in
    get_or-take n (drop from (overwritten all place bytes)) k d fits
    ∙ get_or-drop from (overwritten all place bytes) k d
    ∙ get_or-overwritten all place bytes (from + k) d h beside
    ∙ sym (get_or-take n (drop from all) k d fits ∙ get_or-drop from all k d))

-- some bytes, and then more behind them
pub overwritten_then : (all : List ℕ) (place : ℕ) (front bytes : List ℕ) → place + (length front + length bytes) ≤ length all
    → overwritten (overwritten all place front) (place + length front) bytes ≡ overwritten all place (front ++ bytes)
overwritten_then all place front bytes h =
    let once : place + length front ≤ length all = omega arith in
    let long = length-overwritten all place front once in
    let both : length (front ++ bytes) ≡ length front + length bytes = length-append front bytes in
    let twice : place + length front + length bytes ≤ length (overwritten all place front) = omega arith in
    let fits : place + length (front ++ bytes) ≤ length all = omega arith in
    same_lists _ _ (length-overwritten (overwritten all place front) (place + length front) bytes twice ∙ long ∙ sym (length-overwritten all place (front ++ bytes) fits))
    (λ (k d : ℕ) (lt : k < length (overwritten (overwritten all place front) (place + length front) bytes)).
    elim (cases_lt k place) [
      | inl below ↦
          get_or-overwritten (overwritten all place front) (place + length front) bytes k d twice (inl (omega arith))
          ∙ get_or-overwritten all place front k d once (inl below) ∙ sym (get_or-overwritten all place (front ++ bytes) k d fits (inl below))
      | inr from ↦
          let i : place + (k - place) ≡ k = omega arith in
          elim (cases_lt k (place + length front)) [
            | inl in' ↦
                let inside : k - place < length front = omega arith in
                get_or-overwritten (overwritten all place front) (place + length front) bytes k d twice (inl in')
                ∙ ap (λ (m : ℕ). get_or (overwritten all place front) m d) (sym i)
                ∙ get_or-overwritten_in all place front (k - place) d once inside
                ∙ sym (get_or_append_left front bytes d (k - place) inside)
                ∙ sym (get_or-overwritten_in all place (front ++ bytes) (k - place) d fits (omega arith))
                ∙ ap (λ (m : ℕ). get_or (overwritten all place (front ++ bytes)) m d) i
            | inr behind ↦
                elim (cases_lt k (place + length front + length bytes)) [
                  | inl in' ↦
                      let j : place + length front + (k - place - length front) ≡ k = omega arith in
                      ap (λ (m : ℕ). get_or (overwritten (overwritten all place front) (place + length front) bytes) m d) (sym j)
                      ∙ get_or-overwritten_in (overwritten all place front) (place + length front) bytes (k - place - length front) d twice (omega arith)
                      ∙ sym (get_or-append_right front bytes (length front) (k - place) d refl (omega arith))
                      ∙ sym (get_or-overwritten_in all place (front ++ bytes) (k - place) d fits (omega arith))
                      ∙ ap (λ (m : ℕ). get_or (overwritten all place (front ++ bytes)) m d) i
                  | inr above ↦
                      get_or-overwritten (overwritten all place front) (place + length front) bytes k d twice (inr above)
                      ∙ get_or-overwritten all place front k d once (inr (omega arith)) ∙ sym (get_or-overwritten all place (front ++ bytes) k d fits (inr (omega arith)))
                ]
          ]
    ])
