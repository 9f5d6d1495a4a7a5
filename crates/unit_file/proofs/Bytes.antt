-- Numbers and names as bytes.
use Rattle.std.proofs.Common.{◌≡◌, ℕ, zero, suc, ◌+◌, ◌-◌, ◌*◌, ◌/◌, ◌%◌, ◌<◌, ◌≤◌, List, [], ◌∷◌, ◌++◌, length, take, drop, get_or, min, refl, sym, ap, subst, ◌∙◌, arith, append_assoc}
use Rattle.std.specs.Prelude.{flat_map, OnOk, Result, Ok, Err}
use Rattle.std.proofs.lemmas.List.{length-append, length-drop, get_or-drop, length-take-le, take-append-drop, append-nil, drop_all}
use Rattle.byteorder.specs.Endian.{little_number}
use Rattle.unit_file.specs.Reading.{IsRead}
use Rattle.unit_file.specs.Spelling.{number, numbers, spelled_name, list_of}

-- ---- numbers

-- the bytes of a list are below 256
abbrev pub AreBytes : List ℕ → Type 0
AreBytes xs = (k : ℕ) → get_or xs k 0 < 256

bytes_of_four : (a b c d : ℕ) → a < 256 → b < 256 → c < 256 → d < 256
    → number (a + 256 * (b + 256 * (c + 256 * (d + 256 * 0)))) ≡ a ∷ b ∷ c ∷ d ∷ []
unfolding number
bytes_of_four a b c d fits_a fits_b fits_c fits_d =
    let n = a + 256 * (b + 256 * (c + 256 * (d + 256 * 0))) in
    let first : n % 256 ≡ a = omega arith in
    let second : n / 256 % 256 ≡ b = omega arith in
    let third : n / 65536 % 256 ≡ c = omega arith in
    let fourth : n / 16777216 % 256 ≡ d = omega arith in
    rw (first, second, third, fourth) refl

four_front : (xs : List ℕ) → 4 ≤ length xs → AreBytes xs → number (little_number 4 xs) ++ drop 4 xs ≡ xs
four_front [] le are = absurd (omega arith)
four_front (a ∷ []) le are = absurd (omega arith)
four_front (a ∷ (b ∷ [])) le are = absurd (omega arith)
four_front (a ∷ (b ∷ (c ∷ []))) le are = absurd (omega arith)
four_front (a ∷ (b ∷ (c ∷ (d ∷ xs)))) le are =
    ap (λ (bytes : List ℕ). bytes ++ xs) (bytes_of_four a b c d (are 0) (are 1) (are 2) (are 3))

drop_twice : (xs : List ℕ) (m n : ℕ) → drop n (drop m xs) ≡ drop (m + n) xs
drop_twice xs zero n = let e : 0 + n ≡ n = omega arith in rw e refl
drop_twice [] (suc m) n = drop_all n [] (omega arith) ∙ sym (drop_all (suc m + n) [] (omega arith))
drop_twice (x ∷ xs) (suc m) n = let e : suc m + n ≡ suc (m + n) = omega arith in rw e (drop_twice xs m n)

are_bytes_behind : (file : List ℕ) (at : ℕ) → AreBytes file → AreBytes (drop at file)
are_bytes_behind file at are k = rw (get_or-drop at file k 0) (are (at + k))

pub number_read : (file : List ℕ) (at value : ℕ) (rest : List ℕ) → AreBytes file → rest ≡ drop at file → 4 ≤ length rest → at + 4 ≤ length file
    → value ≡ little_number 4 rest → IsRead number file at (record { value = value; behind = at + 4 })
number_read file at value rest are is le inside same =
    let le_there : 4 ≤ length (drop at file) = subst (λ (xs : List ℕ). 4 ≤ length xs) is le in
    let whole = four_front (drop at file) le_there (are_bytes_behind file at are) in
    let value_is : value ≡ little_number 4 (drop at file) = same ∙ ap (λ (xs : List ℕ). little_number 4 xs) is in
    record {
      bytes = sym (subst (λ (xs : List ℕ). number value ++ xs ≡ drop at file) (drop_twice file at 4)
          (subst (λ (v : ℕ). number v ++ drop 4 (drop at file) ≡ drop at file) (sym value_is) whole));
      within = inside;
    }

pub length-number : (n : ℕ) → length (number n) ≡ 4
unfolding number
length-number n = refl

pub length-numbers : (ns : List ℕ) → length (numbers ns) ≡ 4 * length ns
length-numbers [] = refl
length-numbers (n ∷ ns) =
    let here = length-number n in
    let rest = length-numbers ns in
    let both = length-append (number n) (numbers ns) in
    omega arith

pub ruleset lengths = (length-number, length-numbers, length-append)

-- ---- names

pub name_read : (file : List ℕ) (at count behind end : ℕ) (rest name : List ℕ) → IsRead number file at (record { value = count; behind = behind })
    → rest ≡ drop behind file → name ≡ take count rest → count ≤ length rest → end ≡ behind + count
    → IsRead spelled_name file at (record { value = name; behind = end })
name_read file at count behind end rest_there name is same taken_there le_there end_count =
    let taken : name ≡ take count (drop behind file) = taken_there ∙ ap (take count) same in
    let le : count ≤ length (drop behind file) = subst (λ (xs : List ℕ). count ≤ length xs) same le_there in
    let left = length-drop behind file in
    let start = is.within in
    let inside : end ≤ length file = omega arith in
    let many : length name ≡ count = ap length taken ∙ length-take-le count (drop behind file) le in
    let rest : drop behind file ≡ name ++ drop end file =
    sym (take-append-drop count (drop behind file)) ∙ ap (λ (xs : List ℕ). xs ++ drop count (drop behind file)) (sym taken)
    ∙ ap (λ (xs : List ℕ). name ++ xs) (drop_twice file behind count ∙ ap (λ (k : ℕ). drop k file) (sym end_count)) in
    record {
      bytes = is.bytes ∙ ap (λ (xs : List ℕ). number count ++ xs) rest ∙ sym (append_assoc (number count) name (drop end file))
          ∙ ap (λ (n : ℕ). (number n ++ name) ++ drop end file) (sym many);
      within = inside;
    }

-- ---- parts in a row

pub four_parts : (front w0 w1 w2 w3 w4 a b c d : List ℕ) → w0 ≡ a ++ w1 → w1 ≡ b ++ w2 → w2 ≡ c ++ w3 → w3 ≡ d ++ w4
    → front ++ w0 ≡ (front ++ (a ++ (b ++ (c ++ (d ++ []))))) ++ w4
four_parts front w0 w1 w2 w3 w4 a b c d e0 e1 e2 e3 = rw (e0, e1, e2, e3) (simp (append_assoc, append-nil) refl)

pub three_parts : (w0 w1 w2 w3 a b c : List ℕ) → w0 ≡ a ++ w1 → w1 ≡ b ++ w2 → w2 ≡ c ++ w3 → w0 ≡ (a ++ (b ++ c)) ++ w3
three_parts w0 w1 w2 w3 a b c e0 e1 e2 = rw (e0, e1, e2) (simp append_assoc refl)

-- writing three of them
pub three_put : {E : Type 0} (r : Result (Unit {0}) E) (o0 o1 o2 o3 a b c : List ℕ) → o1 ≡ o0 ++ a → o2 ≡ o1 ++ b → OnOk r (o3 ≡ o2 ++ c)
    → OnOk r (o3 ≡ o0 ++ (a ++ (b ++ c)))
three_put (Ok done) o0 o1 o2 o3 a b c e0 e1 e2 = rw (e2, e1, e0) (simp append_assoc refl)
three_put (Err refusal) o0 o1 o2 o3 a b c e0 e1 e2 = e2

-- ---- counts that stand still

pub add_still : (a b x y most : ℕ) → x ≡ min a most → y ≡ min b most → min (x + y) most ≡ min (a + b) most
add_still a b x y most ex ey = omega arith

pub length-list_of : {T : Type 0} (spelled : T → List ℕ) (items : List T) → length (list_of spelled items) ≡ 4 + length (flat_map spelled items)
length-list_of spelled items =
    let both = length-append (number (length items)) (flat_map spelled items) in
    let four = length-number (length items) in
    omega arith

pub length-function : (a b c v : ℕ) (ps : List ℕ) → length (numbers (a ∷ b ∷ c ∷ []) ++ (list_of number ps ++ number v)) ≡ length (list_of number ps) + 16
length-function a b c v ps =
    let whole = length-append (numbers (a ∷ b ∷ c ∷ [])) (list_of number ps ++ number v) in
    let back = length-append (list_of number ps) (number v) in
    let front = length-numbers (a ∷ b ∷ c ∷ []) in
    let last = length-number v in
    omega arith

-- ---- lists

flat_map_push : {T : Type 0} (spelled : T → List ℕ) (items : List T) (item : T) → flat_map spelled (items ++ item ∷ []) ≡ flat_map spelled items ++ spelled item
flat_map_push spelled [] item = append-nil (spelled item)
flat_map_push spelled (x ∷ items) item =
    ap (λ (xs : List ℕ). spelled x ++ xs) (flat_map_push spelled items item) ∙ sym (append_assoc (spelled x) (flat_map spelled items) (spelled item))

pub items_next : {T : Type 0} (spelled : T → List ℕ) (file : List ℕ) (from behind next : ℕ) (items more : List T) (item : T)
    → drop from file ≡ flat_map spelled items ++ drop behind file → drop behind file ≡ spelled item ++ drop next file
    → more ≡ items ++ item ∷ [] → drop from file ≡ flat_map spelled more ++ drop next file
items_next spelled file from behind next items more item so_far here is =
    so_far ∙ ap (λ (xs : List ℕ). flat_map spelled items ++ xs) here ∙ sym (append_assoc (flat_map spelled items) (spelled item) (drop next file))
    ∙ ap (λ (xs : List ℕ). xs ++ drop next file) (sym (flat_map_push spelled items item) ∙ ap (flat_map spelled) (sym is))

pub list_read : {T : Type 0} (spelled : T → List ℕ) (file : List ℕ) (at count from behind : ℕ) (items : List T)
    → drop at file ≡ number count ++ drop from file → length items ≡ count → drop from file ≡ flat_map spelled items ++ drop behind file
    → drop at file ≡ list_of spelled items ++ drop behind file
list_read spelled file at count from behind items first many rest =
    first ∙ ap (λ (xs : List ℕ). number count ++ xs) rest ∙ sym (append_assoc (number count) (flat_map spelled items) (drop behind file))
    ∙ ap (λ (n : ℕ). (number n ++ flat_map spelled items) ++ drop behind file) (sym many)
