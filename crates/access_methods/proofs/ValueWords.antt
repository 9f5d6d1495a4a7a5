-- The words of a list of bytes, when a byte or a word of it is overwritten.
use Rattle.std.proofs.Common.{◌≡◌, ◌≢◌, ℕ, zero, suc, ◌+◌, ◌-◌, ◌*◌, ◌/◌, ◌%◌, ◌^◌, ◌<◌, ◌≤◌, ◌⊎◌, inl, inr, List, [], ◌∷◌, ◌++◌, length, take, drop, get_or, set, All, refl, sym, ap, ◌∙◌, arith}
use Rattle.std.proofs.lemmas.Bool.{cases_lt}
use Rattle.std.proofs.lemmas.List.{length-take, length-drop, get_or-take, get_or-drop, drop-set-lt, drop-set-add, take-set-le, take_at, drop_at, drop-append-le, take-append-le, length-take-le, drop-drop, drop-take, take-take}
use Rattle.std.proofs.lemmas.List.Elements.{All-nil, All-cons, All-head, All-tail, All-take, All-drop}
use Rattle.c_memory.specs.Bytes.{little_endian, little_endian_bytes, overwritten}
use Rattle.c_memory.proofs.LittleEndian.{length-little_endian_bytes, little_endian-little_endian_bytes}
use Rattle.cell_store.specs.StandsFor.{value_word}

abbrev IsByte : ℕ → Type 0
IsByte byte = byte < 256

pub All-little_endian_bytes : (n value : ℕ) → All IsByte (little_endian_bytes n value)
All-little_endian_bytes zero value = All-nil IsByte
All-little_endian_bytes (suc n) value =
    All-cons IsByte (value % 256) (little_endian_bytes n (value / 256)) (omega arith) (All-little_endian_bytes n (value / 256))

-- bytes to a number and back, with zeros for those that are not there
spelled_low : (byte rest : ℕ) → byte < 256 → (byte + 256 * rest) % 256 ≡ byte
spelled_low byte rest h = omega arith

spelled_rest : (byte rest : ℕ) → byte < 256 → (byte + 256 * rest) / 256 ≡ rest
spelled_rest byte rest h = omega arith

zero_bytes : (n k : ℕ) → get_or (little_endian_bytes n 0) k 0 ≡ 0
zero_bytes zero k = refl
zero_bytes (suc n) zero = refl
zero_bytes (suc n) (suc k) = zero_bytes n k

-- byte k of the number that bytes spell
pub spelled_byte : (n k : ℕ) (bytes : List ℕ) → k < n → All IsByte bytes → get_or (little_endian_bytes n (little_endian bytes)) k 0 ≡ get_or bytes k 0
spelled_byte n k [] h are = zero_bytes n k
spelled_byte zero k (byte ∷ bytes) h are = absurd (omega arith)
spelled_byte (suc n) zero (byte ∷ bytes) h are = spelled_low byte (little_endian bytes) (All-head IsByte byte bytes are)
spelled_byte (suc n) (suc k) (byte ∷ bytes) h are =
    rw (spelled_rest byte (little_endian bytes) (All-head IsByte byte bytes are))
    (spelled_byte n k bytes (omega arith) (All-tail IsByte byte bytes are))

-- all of them, where they are few enough
pub spelled_again : (n : ℕ) (bytes : List ℕ) → length bytes ≤ n → All IsByte bytes → little_endian (little_endian_bytes n (little_endian bytes)) ≡ little_endian bytes
spelled_again zero [] h are = refl
spelled_again zero (byte ∷ bytes) h are = absurd (omega arith)
spelled_again (suc n) [] h are = rw (spelled_again n [] (omega arith) (All-nil IsByte)) refl
spelled_again (suc n) (byte ∷ bytes) h are =
    rw (spelled_low byte (little_endian bytes) (All-head IsByte byte bytes are), spelled_rest byte (little_endian bytes) (All-head IsByte byte bytes are))
    (ap (λ (m : ℕ). byte + 256 * m) (spelled_again n bytes (omega arith) (All-tail IsByte byte bytes are)))

-- one byte of a number replaced, in the number's bytes and in the bytes that it was spelled by
pub spelled_with : (n k byte : ℕ) (bytes : List ℕ) → k < length bytes → length bytes ≤ n → All IsByte bytes
    → little_endian (set (little_endian_bytes n (little_endian bytes)) k byte) ≡ little_endian (set bytes k byte)
spelled_with n k byte [] within few are = absurd (omega arith)
spelled_with zero k byte (first ∷ bytes) within few are = absurd (omega arith)
spelled_with (suc n) zero byte (first ∷ bytes) within few are =
    rw (spelled_rest first (little_endian bytes) (All-head IsByte first bytes are))
    (ap (λ (m : ℕ). byte + 256 * m) (spelled_again n bytes (omega arith) (All-tail IsByte first bytes are)))
spelled_with (suc n) (suc k) byte (first ∷ bytes) within few are =
    rw (spelled_low first (little_endian bytes) (All-head IsByte first bytes are), spelled_rest first (little_endian bytes) (All-head IsByte first bytes are))
    (ap (λ (m : ℕ). first + 256 * m) (spelled_with n k byte bytes (omega arith) (omega arith) (All-tail IsByte first bytes are)))

-- ---- bytes of a word

-- a front of a list, changed where it reaches
take-set-in : {X : Type 0} (n : ℕ) (xs : List X) (i : ℕ) (x : X) → take n (set xs i x) ≡ set (take n xs) i x
take-set-in zero xs i x = refl
take-set-in (suc n) [] i x = refl
take-set-in (suc n) (y ∷ xs) zero x = refl
take-set-in {X = X} (suc n) (y ∷ xs) (suc i) x = ap (λ (ys : List X). y ∷ ys) (take-set-in n xs i x)

-- the bytes of word w, and how many they are
abbrev part : List ℕ → (w : ℕ) → List ℕ
part bytes w = take 4 (drop (4 * w) bytes)

bytes_of_part : (bytes : List ℕ) (w : ℕ) → All IsByte bytes → All IsByte (part bytes w)
bytes_of_part bytes w are = All-take IsByte 4 (drop (4 * w) bytes) (All-drop IsByte (4 * w) bytes are)

few_in_part : (bytes : List ℕ) (w : ℕ) → length (part bytes w) ≤ 4
few_in_part bytes w = rw (length-take 4 (drop (4 * w) bytes)) (omega arith)

in_part : (bytes : List ℕ) (w k : ℕ) → k < 4 → 4 * w + k < length bytes → k < length (part bytes w)
in_part bytes w k h within = rw (length-take 4 (drop (4 * w) bytes)) (omega (arith, length-drop (4 * w) bytes))

-- byte k of word w
pub byte_of_word : (bytes : List ℕ) (w k : ℕ) → k < 4 → All IsByte bytes → get_or (little_endian_bytes 4 (value_word bytes w)) k 0 ≡ get_or bytes (4 * w + k) 0
byte_of_word bytes w k h are =
    spelled_byte 4 k (part bytes w) h (bytes_of_part bytes w are)
    ∙ get_or-take 4 (drop (4 * w) bytes) k 0 h
    ∙ get_or-drop (4 * w) bytes k 0

-- the word with one byte of it replaced
part_with_byte : (bytes : List ℕ) (w k byte : ℕ) → set (part bytes w) k byte ≡ part (set bytes (4 * w + k) byte) w
part_with_byte bytes w k byte =
    sym (take-set-in 4 (drop (4 * w) bytes) k byte)
    ∙ ap (λ (ys : List ℕ). take 4 ys) (sym (drop-set-add (4 * w) bytes k byte))

pub word_with_byte : (bytes : List ℕ) (w k byte : ℕ) → k < 4 → 4 * w + k < length bytes → All IsByte bytes
    → little_endian (set (little_endian_bytes 4 (value_word bytes w)) k byte) ≡ value_word (set bytes (4 * w + k) byte) w
word_with_byte bytes w k byte h within are =
    spelled_with 4 k byte (part bytes w) (in_part bytes w k h within) (few_in_part bytes w) (bytes_of_part bytes w are)
    ∙ ap little_endian (part_with_byte bytes w k byte)

-- the other words
part_beside : (bytes : List ℕ) (at u byte : ℕ) → (at < 4 * u) ⊎ (4 * u + 4 ≤ at) → part (set bytes at byte) u ≡ part bytes u
part_beside bytes at u byte (inl before) = ap (λ (ys : List ℕ). take 4 ys) (drop-set-lt (4 * u) bytes at byte before)
part_beside bytes at u byte (inr behind) =
    let split : at ≡ 4 * u + (at - 4 * u) = omega arith in
    ap (λ (i : ℕ). part (set bytes i byte) u) split
    ∙ ap (λ (ys : List ℕ). take 4 ys) (drop-set-add (4 * u) bytes (at - 4 * u) byte)
    ∙ take-set-le 4 (drop (4 * u) bytes) (at - 4 * u) byte (omega arith)

beside : (w u k : ℕ) → k < 4 → (u < w) ⊎ (w < u) → (4 * w + k < 4 * u) ⊎ (4 * u + 4 ≤ 4 * w + k)
beside w u k h (inl below) = inr (omega arith)
beside w u k h (inr above) = inl (omega arith)

apart : (w u : ℕ) → u ≢ w → (u < w) ⊎ (w < u)
apart w u other = elim (cases_lt u w) [ inl below ↦ inl below | inr above ↦ inr (omega arith) ]

pub other_word_with_byte : (bytes : List ℕ) (w u k byte : ℕ) → k < 4 → u ≢ w → value_word (set bytes (4 * w + k) byte) u ≡ value_word bytes u
other_word_with_byte bytes w u k byte h other = ap little_endian (part_beside bytes (4 * w + k) u byte (beside w u k h (apart w u other)))

-- ---- a whole word

-- the word that was put there
put_part : (bytes new : List ℕ) (w : ℕ) → length new ≡ 4 → 4 * w + 4 ≤ length bytes → part (overwritten bytes (4 * w) new) w ≡ new
put_part bytes new w size room =
    ap (λ (ys : List ℕ). take 4 ys) (drop_at (take (4 * w) bytes) (new ++ drop (4 * w + length new) bytes) (4 * w) (length-take-le (4 * w) bytes (omega arith)))
    ∙ take_at new (drop (4 * w + length new) bytes) 4 size

pub word_put : (bytes : List ℕ) (w value : ℕ) → value < 2 ^ 32 → 4 * w + 4 ≤ length bytes → value_word (overwritten bytes (4 * w) (little_endian_bytes 4 value)) w ≡ value
word_put bytes w value small room =
    ap little_endian (put_part bytes (little_endian_bytes 4 value) w (length-little_endian_bytes 4 value) room)
    ∙ little_endian-little_endian_bytes 4 value
    ∙ omega arith

-- the other words
put_before : (bytes new : List ℕ) (w u : ℕ) → 4 * w + 4 ≤ length bytes → u < w → part (overwritten bytes (4 * w) new) u ≡ part bytes u
put_before bytes new w u room below =
    let front : length (take (4 * w) bytes) ≡ 4 * w = length-take-le (4 * w) bytes (omega arith) in
    let split : 4 * w ≡ 4 * u + (4 * w - 4 * u) = omega arith in
    let rest : List ℕ = new ++ drop (4 * w + length new) bytes in
    ap (λ (ys : List ℕ). take 4 ys) (drop-append-le (4 * u) (take (4 * w) bytes) rest (omega arith))
    ∙ take-append-le 4 (drop (4 * u) (take (4 * w) bytes)) rest (omega (arith, length-drop (4 * u) (take (4 * w) bytes)))
    ∙ ap (λ (i : ℕ). take 4 (drop (4 * u) (take i bytes))) split
    ∙ ap (λ (ys : List ℕ). take 4 ys) (drop-take (4 * u) (4 * w - 4 * u) bytes)
    ∙ take-take 4 (4 * w - 4 * u) (drop (4 * u) bytes) (omega arith)

put_behind : (bytes new : List ℕ) (w u : ℕ) → length new ≡ 4 → 4 * w + 4 ≤ length bytes → w < u → part (overwritten bytes (4 * w) new) u ≡ part bytes u
put_behind bytes new w u size room above =
    let front : length (take (4 * w) bytes) ≡ 4 * w = length-take-le (4 * w) bytes (omega arith) in
    let split : 4 * u ≡ 4 * w + (length new + (4 * u - 4 * w - length new)) = omega arith in
    let rest : List ℕ = drop (4 * w + length new) bytes in
    let more : ℕ = 4 * u - 4 * w - length new in
    let joined : 4 * w + length new + more ≡ 4 * u = omega arith in
    ap (λ (i : ℕ). take 4 (drop i (overwritten bytes (4 * w) new))) split
    ∙ ap (λ (ys : List ℕ). take 4 ys) (sym (drop-drop (length new + more) (4 * w) (overwritten bytes (4 * w) new)))
    ∙ ap (λ (ys : List ℕ). take 4 (drop (length new + more) ys)) (drop_at (take (4 * w) bytes) (new ++ rest) (4 * w) front)
    ∙ ap (λ (ys : List ℕ). take 4 ys) (sym (drop-drop more (length new) (new ++ rest)))
    ∙ ap (λ (ys : List ℕ). take 4 (drop more ys)) (drop_at new rest (length new) refl)
    ∙ ap (λ (ys : List ℕ). take 4 ys) (drop-drop more (4 * w + length new) bytes)
    ∙ ap (λ (i : ℕ). take 4 (drop i bytes)) joined

pub other_word_put : (bytes : List ℕ) (w u value : ℕ) → 4 * w + 4 ≤ length bytes → u ≢ w
    → value_word (overwritten bytes (4 * w) (little_endian_bytes 4 value)) u ≡ value_word bytes u
other_word_put bytes w u value room other = elim (apart w u other) [
  | inl below ↦ ap little_endian (put_before bytes (little_endian_bytes 4 value) w u room below)
  | inr above ↦ ap little_endian (put_behind bytes (little_endian_bytes 4 value) w u (length-little_endian_bytes 4 value) room above)
]
