-- What is read where a part of it was overwritten.
use Rattle.std.proofs.Common.{◌≡◌, ℕ, ◌+◌, ◌-◌, ◌≤◌, inl, inr, is_some, true, false, List, ◌++◌, length, take, drop, Option, Some, None, refl, sym, ap, ap₂, ◌∙◌, arith, take-append-drop, drop-drop, take_all}
use Rattle.std.proofs.lemmas.List.{length-drop}
use Rattle.guest_mem.specs.declared.right.Right.{Right}
use Rattle.guest_mem.specs.Regions.{Region}
use Rattle.guest_mem.specs.Guest.{bytes_at, with_bytes, covers, overwritten}
use Rattle.guest_mem.specs.Layout.{AllApart}
use Rattle.guest_mem.proofs.Layouts.{layout-with_bytes, covers-layout, AllApart-layout}
use Rattle.guest_mem.proofs.Changes.{length-bytes_at, bytes_at-part, bytes_at-with_bytes_same, bytes_at-with_bytes_apart}

there : {A : Type 0} (o : Option A) → is_some o ≡ true → (x : A) × (o ≡ Some x)
there None h = absurd (let e : false ≡ true = h in cc)
there (Some x) h = (x, refl)

same_value : {A : Type 0} {x y : A} → Some x ≡ Some y → x ≡ y
same_value e = cc

three_parts : (all : List ℕ) (a n : ℕ) → all ≡ take a all ++ (take n (drop a all) ++ drop (a + n) all)
three_parts all a n =
    sym (take-append-drop a all)
    ∙ ap (λ (l : List ℕ). take a all ++ l) (sym (take-append-drop n (drop a all)) ∙ ap (λ (l : List ℕ). take n (drop a all) ++ l) (drop-drop n a all))

-- parts that are read alike in old and in new memory
part_alike : (old new : List Region) (right : Right) (at n : ℕ) (was is : List ℕ) (k m : ℕ) → AllApart old → AllApart new → bytes_at old right at n ≡ Some was
    → bytes_at new right at n ≡ Some is → k + m ≤ n → bytes_at new right (at + k) m ≡ bytes_at old right (at + k) m → take m (drop k is) ≡ take m (drop k was)
part_alike old new right at n was is k m apart apart' had has fits same =
    same_value (sym (bytes_at-part new right at n k m is apart' has fits) ∙ same ∙ bytes_at-part old right at n k m was apart had fits)

-- in memory whose regions are apart
pub bytes_at-with_bytes_inside : (old new : List Region) (right : Right) (from n : ℕ) (was : List ℕ) (place : ℕ) (bytes : List ℕ) → AllApart old
    → with_bytes old (from + place) bytes ≡ Some new → bytes_at old right from n ≡ Some was → place + length bytes ≤ n
    → bytes_at new right from n ≡ Some (overwritten was place bytes)
bytes_at-with_bytes_inside old new right from n was place bytes apart changed had fits =
    let at = from + place in
    let m = length bytes in
    let laid = layout-with_bytes old at bytes new changed in
    let apart' = AllApart-layout old new laid apart in
    let found = there (bytes_at new right from n) (covers-layout old new right from n laid ∙ ap is_some had) in
    let is = found.0 in
    let long_was : length was ≡ n = length-bytes_at old right from n was had in
    let long_is : length is ≡ n = length-bytes_at new right from n is found.1 in
    let first : take place (drop 0 is) ≡ take place (drop 0 was) =
    part_alike old new right from n was is 0 place apart apart' had found.1 (omega arith)
    (bytes_at-with_bytes_apart old right at bytes new (from + 0) place changed (inl (omega arith))) in
    let read : covers old right at m ≡ true = ap is_some (bytes_at-part old right from n place m was apart had fits) in
    let middle : take m (drop place is) ≡ bytes =
    same_value (sym (bytes_at-part new right from n place m is apart' found.1 fits) ∙ bytes_at-with_bytes_same old right at bytes new apart changed read) in
    let rest = n - (place + m) in
    let last : take rest (drop (place + m) is) ≡ take rest (drop (place + m) was) =
    part_alike old new right from n was is (place + m) rest apart apart' had found.1 (omega arith)
    (bytes_at-with_bytes_apart old right at bytes new (from + (place + m)) rest changed (inr (omega arith))) in
    let whole_is : take rest (drop (place + m) is) ≡ drop (place + m) is = take_all rest (drop (place + m) is) (omega (arith, length-drop (place + m) is)) in
    let whole_was : take rest (drop (place + m) was) ≡ drop (place + m) was = take_all rest (drop (place + m) was) (omega (arith, length-drop (place + m) was)) in
    let behind : drop (place + m) is ≡ drop (place + m) was = sym whole_is ∙ last ∙ whole_was in
    found.1 ∙ ap Some (three_parts is place m ∙ ap₂ (λ (x y : List ℕ). x ++ y) first (ap₂ (λ (x y : List ℕ). x ++ y) middle behind))
