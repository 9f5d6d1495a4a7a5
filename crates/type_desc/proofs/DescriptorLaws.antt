-- What stands where in a descriptor.
use Rattle.std.proofs.Common.{◌≡◌, ℕ, ◌+◌, ◌-◌, ◌/◌, ◌%◌, ◌<◌, ◌≤◌, List, [], ◌∷◌, ◌++◌, length, take, drop, map, replicate, Some, None, refl, sym, ap, ◌∙◌, subst, arith, length-append, append_assoc, get_or}
use Rattle.std.specs.Int.{next_multiple_of}
use Rattle.std.specs.Prelude.{slice_index}
use Rattle.std.proofs.lemmas.List.{length-map, get_or-map, length-replicate, length-take-le, length-drop, take-append-drop, drop-drop, take_at, drop_at}
use Rattle.byteorder.specs.Endian.{little_bytes, little_number}
use Rattle.byteorder.specs.Numbers.{little_number-reads_back}
use Rattle.fsc_base.specs.declared.word.WordKind.{WordKind}
use Rattle.fsc_base.specs.declared.word.WordKind.TheVariants.{Fat, Narrow}
use Rattle.type_desc.specs.Periods.{IsShape, IsPeriod}
use Rattle.type_desc.proofs.PeriodLaws.{shape_is_least, shape_from_least}
use Rattle.type_desc.specs.Descriptors.{byte_of, padding_of, counted, descriptor_of, StandsFirst, Describes, IsCounted, OneSpelling, ReadsBack}

-- four bytes are those of their number
number_bytes : (bytes : List ℕ) → 4 ≤ length bytes → ((k : ℕ) → slice_index bytes k < 256) → little_bytes 4 (little_number 4 bytes) ≡ take 4 bytes
number_bytes [] size small = absurd (omega arith)
number_bytes (a ∷ []) size small = absurd (omega arith)
number_bytes (a ∷ b ∷ []) size small = absurd (omega arith)
number_bytes (a ∷ b ∷ c ∷ []) size small = absurd (omega arith)
number_bytes (a ∷ b ∷ c ∷ d ∷ rest) size small =
    let ha : a < 256 = small 0 in
    let hb : b < 256 = small 1 in
    let hc : c < 256 = small 2 in
    let hd : d < 256 = small 3 in
    let n = little_number 4 (a ∷ b ∷ c ∷ d ∷ rest) in
    let ea : n % 256 ≡ a = omega arith in
    let eb : n / 256 % 256 ≡ b = omega arith in
    let ec : n / 65536 % 256 ≡ c = omega arith in
    let ed : n / 16777216 % 256 ≡ d = omega arith in
    rw (ea, eb, ec, ed) refl

front_bytes : (bytes : List ℕ) (n : ℕ) → 4 ≤ length bytes → ((k : ℕ) → slice_index bytes k < 256) → n ≡ little_number 4 bytes → take 4 bytes ≡ little_bytes 4 n
front_bytes bytes n size small count = subst (λ k. take 4 bytes ≡ little_bytes 4 k) (sym count) (sym (number_bytes bytes size small))

-- a padded size is no smaller
padded : (n : ℕ) → n + padding_of n ≡ next_multiple_of n 4
padded n = omega arith

-- the parts of bytes that begin with counted ones
pub record Parts (bytes kind_bytes : List ℕ) : Type 0 where
  pub size : 4 + next_multiple_of (length kind_bytes) 4 ≤ length bytes
  pub count : little_number 4 bytes ≡ length kind_bytes
  pub middle : take (length kind_bytes) (drop 4 bytes) ≡ kind_bytes
  pub zeros : take (padding_of (length kind_bytes)) (drop (4 + length kind_bytes) bytes) ≡ replicate (padding_of (length kind_bytes)) 0

pub parts : (bytes kind_bytes : List ℕ) → length kind_bytes ≤ 1024 → StandsFirst (counted kind_bytes) bytes → Parts bytes kind_bytes
unfolding counted
parts bytes kind_bytes few (rest, stands) =
    let n = length kind_bytes in
    let front = little_bytes 4 n in
    let zeros : List ℕ = replicate (padding_of n) 0 in
    let zeros_size : length zeros ≡ padding_of n = length-replicate (padding_of n) 0 in
    let whole : bytes ≡ front ++ (kind_bytes ++ (zeros ++ rest)) =
    stands ∙ append_assoc front (kind_bytes ++ zeros) rest ∙ ap (λ ys. front ++ ys) (append_assoc kind_bytes zeros rest) in
    let behind : drop 4 bytes ≡ kind_bytes ++ (zeros ++ rest) = ap (λ ys. drop 4 ys) whole ∙ drop_at front (kind_bytes ++ (zeros ++ rest)) 4 refl in
    let tail : drop (4 + n) bytes ≡ zeros ++ rest =
    sym (drop-drop n 4 bytes) ∙ ap (λ ys. drop n ys) behind ∙ drop_at kind_bytes (zeros ++ rest) n refl in
    record {
      size = omega (arith, ap length whole, length-append front (kind_bytes ++ (zeros ++ rest)), length-append kind_bytes (zeros ++ rest), length-append zeros rest, zeros_size, padded n);
      count = ap (λ ys. little_number 4 ys) whole ∙ little_number-reads_back 4 n (kind_bytes ++ (zeros ++ rest)) (omega arith);
      middle = ap (λ ys. take n ys) behind ∙ take_at kind_bytes (zeros ++ rest) n refl;
      zeros = ap (λ ys. take (padding_of n) ys) tail ∙ take_at zeros rest (padding_of n) zeros_size;
    }

-- bytes of four parts
rejoined : (bytes front middle zeros rest : List ℕ) → take 4 bytes ≡ front → drop 4 bytes ≡ middle ++ (zeros ++ rest) → bytes ≡ (front ++ (middle ++ zeros)) ++ rest
rejoined bytes front middle zeros rest first behind =
    sym (take-append-drop 4 bytes)
    ∙ ap (λ ys. ys ++ drop 4 bytes) first
    ∙ ap (λ ys. front ++ ys) (behind ∙ sym (append_assoc middle zeros rest))
    ∙ sym (append_assoc front (middle ++ zeros) rest)

-- and bytes with such parts begin with counted ones
pub stands_first : (bytes : List ℕ) (n : ℕ) → ((k : ℕ) → slice_index bytes k < 256) → 4 + next_multiple_of n 4 ≤ length bytes → n ≡ little_number 4 bytes
    → take (padding_of n) (drop (4 + n) bytes) ≡ replicate (padding_of n) 0 → StandsFirst (counted (take n (drop 4 bytes))) bytes
unfolding counted
stands_first bytes n small size count zeros =
    let found = take n (drop 4 bytes) in
    let pad = padding_of n in
    let rest = drop pad (drop (4 + n) bytes) in
    let len : length found ≡ n = length-take-le n (drop 4 bytes) (omega (arith, length-drop 4 bytes)) in
    let front = front_bytes bytes (length found) (omega arith) small (len ∙ count) in
    let tail : drop n (drop 4 bytes) ≡ replicate (padding_of (length found)) 0 ++ rest =
    drop-drop n 4 bytes ∙ sym (take-append-drop pad (drop (4 + n) bytes))
    ∙ ap (λ ys. ys ++ rest) (zeros ∙ ap (λ k. replicate (padding_of k) 0) (sym len)) in
    let behind : drop 4 bytes ≡ found ++ (replicate (padding_of (length found)) 0 ++ rest) =
    sym (take-append-drop n (drop 4 bytes)) ∙ ap (λ ys. found ++ ys) tail in
    (rest, rejoined bytes (little_bytes 4 (length found)) found (replicate (padding_of (length found)) 0) rest front behind)

-- bytes begin with one list of counted bytes at most
pub same_counted : (bytes one other : List ℕ) → length one ≤ 1024 → length other ≤ 1024 → StandsFirst (counted one) bytes → StandsFirst (counted other) bytes → one ≡ other
same_counted bytes one other few_one few_other first_one first_other =
    let parts_one = parts bytes one few_one first_one in
    let parts_other = parts bytes other few_other first_other in
    let same : length one ≡ length other = sym parts_one.count ∙ parts_other.count in
    sym parts_one.middle ∙ ap (λ n. take n (drop 4 bytes)) same ∙ parts_other.middle

-- kinds are known by their bytes
one_byte : (a b : WordKind) → byte_of a ≡ byte_of b → a ≡ b
one_byte Fat Fat e = refl
one_byte Fat Narrow e = absurd (omega arith)
one_byte Narrow Fat e = absurd (omega arith)
one_byte Narrow Narrow e = refl

same_kinds : (kinds others : List WordKind) → map byte_of kinds ≡ map byte_of others → kinds ≡ others
same_kinds [] [] e = refl
same_kinds [] (b ∷ others) e = absurd (omega (arith, ap length e))
same_kinds (a ∷ kinds) [] e = absurd (omega (arith, ap length e))
same_kinds (a ∷ kinds) (b ∷ others) e =
    let first = one_byte a b (ap (λ ys. slice_index ys 0) e) in
    let rest = same_kinds kinds others (ap (λ ys. drop 1 ys) e) in
    ap (λ k. k ∷ kinds) first ∙ ap (λ ys. b ∷ ys) rest

-- the bytes of a shape's kinds are counted
pub is_counted : (bytes : List ℕ) (kinds : List WordKind) → Describes bytes kinds → IsCounted bytes (map byte_of kinds)
is_counted bytes kinds (shape, first) =
    (omega (arith, shape.some, length-map kinds byte_of), omega (arith, shape.few, length-map kinds byte_of), first)

pub one_spelling : OneSpelling
one_spelling bytes kinds others one other =
    let counted_one = is_counted bytes kinds one in
    let counted_other = is_counted bytes others other in
    same_kinds kinds others (same_counted bytes (map byte_of kinds) (map byte_of others) counted_one.1 counted_other.1 counted_one.2 counted_other.2)

pub reads_back : ReadsBack
reads_back kinds rest None shape reads = absurd (reads kinds (shape, (rest, refl)))
reads_back kinds rest (Some found) shape reads = ap Some (one_spelling (descriptor_of kinds ++ rest) found kinds reads (shape, (rest, refl)))

-- what a reader finds behind the kinds, and the zeros that are wanted there
abbrev behind_kinds : (bytes : List ℕ) (count end : ℕ) → List ℕ
behind_kinds bytes count end = take (end - (4 + count)) (drop (4 + count) bytes)

same_behind : (bytes : List ℕ) (count end : ℕ) → end ≡ 4 + next_multiple_of count 4 → behind_kinds bytes count end ≡ take (padding_of count) (drop (4 + count) bytes)
same_behind bytes count end e =
    let same : end - (4 + count) ≡ padding_of count = omega arith in
    ap (λ n. take n (drop (4 + count) bytes)) same

-- where counted bytes stand, zeros stand behind them
pub zeros_there : (bytes kind_bytes : List ℕ) (count end : ℕ) → Parts bytes kind_bytes → count ≡ length kind_bytes → end ≡ 4 + next_multiple_of count 4
    → behind_kinds bytes count end ≡ replicate (length (behind_kinds bytes count end)) 0
zeros_there bytes kind_bytes count end has counts e =
    let found : behind_kinds bytes count end ≡ replicate (padding_of count) 0 =
    same_behind bytes count end e
    ∙ ap (λ n. take (padding_of n) (drop (4 + n) bytes)) counts ∙ has.zeros ∙ ap (λ n. replicate (padding_of n) 0) (sym counts) in
    let size : length (behind_kinds bytes count end) ≡ padding_of count = ap length found ∙ length-replicate (padding_of count) 0 in
    found ∙ ap (λ n. replicate n 0) (sym size)

zeros_read : (bytes : List ℕ) (count end : ℕ) → end ≡ 4 + next_multiple_of count 4 → end ≤ length bytes
    → behind_kinds bytes count end ≡ replicate (length (behind_kinds bytes count end)) 0 → take (padding_of count) (drop (4 + count) bytes) ≡ replicate (padding_of count) 0
zeros_read bytes count end e within zeros =
    let size : length (behind_kinds bytes count end) ≡ padding_of count =
    ap length (same_behind bytes count end e) ∙ length-take-le (padding_of count) (drop (4 + count) bytes) (omega (arith, length-drop (4 + count) bytes)) in
    sym (same_behind bytes count end e) ∙ zeros ∙ ap (λ n. replicate n 0) size

-- so the bytes that a reader finds are counted
pub finds : (bytes : List ℕ) (count end size : ℕ) → ((k : ℕ) → slice_index bytes k < 256) → count ≡ little_number 4 bytes → 0 < count → count ≤ 1024 → size ≡ count
    → end ≡ 4 + next_multiple_of count 4 → end ≤ length bytes → behind_kinds bytes count end ≡ replicate (length (behind_kinds bytes count end)) 0
    → IsCounted bytes (take size (drop 4 bytes))
finds bytes count end size small counts some few same e within zeros =
    let len : length (take count (drop 4 bytes)) ≡ count = length-take-le count (drop 4 bytes) (omega (arith, length-drop 4 bytes)) in
    subst (λ n. IsCounted bytes (take n (drop 4 bytes))) (sym same)
    (omega (arith, len), omega (arith, len), stands_first bytes count small (omega arith) counts (zeros_read bytes count end e within zeros))

-- bytes are no kinds' where one of them is no kind's
pub no_kind : (bytes : List ℕ) (i : ℕ) → i < length bytes → ((kind : WordKind) → get_or bytes i 0 ≡ byte_of kind → ⊥) → (kinds : List WordKind) → bytes ≡ map byte_of kinds → ⊥
no_kind bytes i within none kinds are =
    let size : length bytes ≡ length kinds = ap length are ∙ length-map kinds byte_of in
    none (get_or kinds i Narrow) (ap (λ (ys : List ℕ). get_or ys i 0) are ∙ get_or-map byte_of kinds i Narrow 0 (omega arith))

-- no shape is described where the bytes of its kinds are others
pub no_kinds : (bytes spelled : List ℕ) → IsCounted bytes spelled → ((kinds : List WordKind) → spelled ≡ map byte_of kinds → ⊥) → (kinds : List WordKind) → Describes bytes kinds → ⊥
no_kinds bytes spelled (some, few, first) none kinds described =
    let other = is_counted bytes kinds described in
    none kinds (same_counted bytes spelled (map byte_of kinds) few other.1 first other.2)

-- nor where the kinds have a shorter period
pub no_shape : (bytes spelled : List ℕ) (kinds : List WordKind) (n : ℕ) → IsCounted bytes spelled → spelled ≡ map byte_of kinds → IsPeriod kinds n → n < length kinds
    → (others : List WordKind) → Describes bytes others → ⊥
no_shape bytes spelled kinds n (some, few, first) are period shorter others (shape, begins) =
    let other = is_counted bytes others (shape, begins) in
    let same = same_kinds others kinds (sym (same_counted bytes spelled (map byte_of others) few other.1 first other.2) ∙ are) in
    omega (arith, shape_is_least kinds n (subst IsShape same shape) period)

-- else they are a shape
pub is_shape : (bytes spelled : List ℕ) (kinds : List WordKind) (n : ℕ) → IsCounted bytes spelled → spelled ≡ map byte_of kinds → ((k : ℕ) → IsPeriod kinds k → n ≤ k) → length kinds ≤ n → IsShape kinds
is_shape bytes spelled kinds n (some, few, first) are least longer =
    let size : length spelled ≡ length kinds = ap length are ∙ length-map kinds byte_of in
    shape_from_least kinds (omega arith) (omega arith) (λ k period. omega (arith, least k period))

-- which the bytes describe
pub described : (bytes spelled : List ℕ) (kinds : List WordKind) → IsCounted bytes spelled → spelled ≡ map byte_of kinds → IsShape kinds → Describes bytes kinds
described bytes spelled kinds (some, few, first) are shape = (shape, subst (λ (ys : List ℕ). StandsFirst (counted ys) bytes) are first)
