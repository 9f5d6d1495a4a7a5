-- The number that a part of some bytes spells.
use Rattle.std.proofs.Common.{◌≡◌, ℕ, suc, ◌+◌, ◌*◌, ◌/◌, ◌%◌, ◌^◌, ◌<◌, ◌≤◌, List, [], ◌∷◌, ◌++◌, length, take, drop, sym, ap, subst, ◌∙◌, arith, take-append-drop, length-take-le, pow-suc, mul_comm, mul_assoc, add_comm}
use Rattle.std.proofs.lemmas.Nat.{div-mul-add, mod-mul-add}
use Rattle.std.proofs.lemmas.List.Elements.{All-take}
use Rattle.guest_mem.specs.Guest.{overwritten, little_endian}
use Rattle.guest_mem.specs.Layout.{AreBytes}
use Rattle.guest_mem.proofs.LittleEndian.{little_endian-lt}
use Rattle.word_memory.specs.Words.{replaced}

pub little_endian-append : (low high : List ℕ) → little_endian (low ++ high) ≡ little_endian low + 256 ^ length low * little_endian high
little_endian-append [] high = omega arith
little_endian-append (byte ∷ low) high =
    let above : 256 ^ suc (length low) * little_endian high ≡ 256 * (256 ^ length low * little_endian high) =
    ap (λ (n : ℕ). n * little_endian high) (pow-suc 256 (length low) ∙ mul_comm (256 ^ length low) 256) ∙ mul_assoc 256 (256 ^ length low) (little_endian high) in
    omega (arith, little_endian-append low high)

-- some bytes and the bytes above them, of the number that all of them spell
abbrev Splits : (n : ℕ) (bytes : List ℕ) → Type 0
Splits n bytes = (little_endian (take n bytes) ≡ little_endian bytes % 256 ^ n) × (little_endian (drop n bytes) ≡ little_endian bytes / 256 ^ n)

splits : (n : ℕ) (bytes : List ℕ) → AreBytes bytes → n ≤ length bytes → Splits n bytes
splits n bytes are few =
    let low = little_endian (take n bytes) in
    let high = little_endian (drop n bytes) in
    let long : length (take n bytes) ≡ n = length-take-le n bytes few in
    let below : low < 256 ^ n = subst (λ (k : ℕ). low < 256 ^ k) long (little_endian-lt (take n bytes) (All-take (λ byte. byte < 256) n bytes are)) in
    let whole : little_endian bytes ≡ high * 256 ^ n + low =
    ap little_endian (sym (take-append-drop n bytes)) ∙ little_endian-append (take n bytes) (drop n bytes)
    ∙ ap (λ (k : ℕ). low + 256 ^ k * high) long ∙ ap (λ (k : ℕ). low + k) (mul_comm (256 ^ n) high) ∙ add_comm low (high * 256 ^ n) in
    (sym (ap (λ (k : ℕ). k % 256 ^ n) whole ∙ mod-mul-add high (256 ^ n) low below), sym (ap (λ (k : ℕ). k / 256 ^ n) whole ∙ div-mul-add high (256 ^ n) low below))

-- where some of them are overwritten, a part of the number is replaced
pub little_endian-overwritten : (all : List ℕ) (place value : ℕ) (bytes : List ℕ) → AreBytes all → place + length bytes ≤ length all
    → little_endian bytes ≡ value % 256 ^ length bytes → little_endian (overwritten all place bytes) ≡ replaced place (length bytes) (little_endian all) value
little_endian-overwritten all place value bytes are fits is =
    let n = length bytes in
    let above = drop (place + n) all in
    let below = splits place all are (omega arith) in
    let behind = splits (place + n) all are fits in
    let inner : little_endian (bytes ++ above) ≡ value % 256 ^ n + 256 ^ n * (little_endian all / 256 ^ (place + n)) =
    little_endian-append bytes above ∙ ap (λ (k : ℕ). k + 256 ^ n * little_endian above) is ∙ ap (λ (k : ℕ). value % 256 ^ n + 256 ^ n * k) behind.1 in
    little_endian-append (take place all) (bytes ++ above)
    ∙ ap (λ (k : ℕ). little_endian (take place all) + 256 ^ k * little_endian (bytes ++ above)) (length-take-le place all (omega arith))
    ∙ ap (λ (k : ℕ). k + 256 ^ place * little_endian (bytes ++ above)) below.0
    ∙ ap (λ (k : ℕ). little_endian all % 256 ^ place + 256 ^ place * k) inner
