-- The words of memory that was given as words.
use Rattle.std.proofs.Common.{◌≡◌, ℕ, zero, suc, ◌+◌, ◌*◌, ◌-◌, ◌/◌, ◌%◌, ◌^◌, ◌<◌, ◌≤◌, inl, inr, eqb, true, false, List, [], ◌∷◌, ◌++◌, length, take, drop, get_or, All, flat_map, Some, Ok, refl, sym, ap, ◌∙◌, arith, eq-eqb, le-leb, take_at}
use Rattle.std.specs.Int.{w32, to_le_bytes}
use Rattle.std.proofs.lemmas.Bool.{cases_Bool}
use Rattle.std.proofs.lemmas.List.{length-append}
use Rattle.std.proofs.lemmas.List.Elements.{All-get_or, All-head, All-tail}
use Rattle.guest_mem.specs.declared.right.Right.{Right}
use Rattle.guest_mem.specs.declared.right.Right.TheVariants.{Read}
use Rattle.guest_mem.specs.Regions.{Region}
use Rattle.guest_mem.specs.Rights.{flag_of}
use Rattle.guest_mem.specs.Guest.{contains, bytes_at, little_endian}
use Rattle.guest_mem.specs.Layout.{Apart, AllApart}
use Rattle.guest_mem.proofs.LittleEndian.{little_endian_bytes-word, little_endian-little_endian_bytes}
use Rattle.guest_mem.proofs.Places.{within_served}
use Rattle.guest_mem.proofs.Changes.{bytes_at-first, bytes_at-others, bytes_at-part}
use Rattle.guest_mem.proofs.Accesses.{loaded-from}
use Rattle.word_memory.specs.Words.{WordsAt, SpellsAt}
use Rattle.word_memory.proofs.Stored.{loaded-word}

-- ---- the bytes of words

abbrev spelled : List ℕ → List ℕ
spelled words = flat_map (to_le_bytes w32) words

length-spelled : (words : List ℕ) → length (spelled words) ≡ 4 * length words
length-spelled [] = refl
length-spelled (word ∷ words) = omega (arith, length-spelled words)

four_bytes : (words : List ℕ) (i : ℕ) → i < length words → take 4 (drop (4 * i) (spelled words)) ≡ to_le_bytes w32 (get_or words i 0)
four_bytes [] i lt = absurd (omega arith)
four_bytes (word ∷ words) zero lt = refl
four_bytes (word ∷ words) (suc i) lt =
    let more : 4 * suc i ≡ suc (suc (suc (suc (4 * i)))) = omega arith in
    ap (λ (n : ℕ). take 4 (drop n (spelled (word ∷ words)))) more ∙ four_bytes words i (omega arith)

spells_number : (word : ℕ) → word < 2 ^ 32 → little_endian (to_le_bytes w32 word) ≡ word
spells_number word small =
    let whole : word % 256 ^ 4 ≡ word = omega arith in
    ap little_endian (sym (little_endian_bytes-word word)) ∙ little_endian-little_endian_bytes 4 word ∙ whole

-- Where words are spelled from an aligned address on, they are the words there.
pub words_spelled : (regions : List Region) (at : ℕ) (words : List ℕ) → at % 4 ≡ 0 → AllApart regions → All (λ word. word < 2 ^ 32) words → SpellsAt regions at words
    → WordsAt regions at words
words_spelled regions at words aligned apart small spells i lt =
    let word = get_or words i 0 in
    let here : bytes_at regions Read (at + 4 * i) 4 ≡ Some (to_le_bytes w32 word) =
    bytes_at-part regions Read at (4 * length words) (4 * i) 4 (spelled words) apart spells (omega arith) ∙ ap Some (four_bytes words i lt) in
    let place : (at + 4 * i) % 4 ≡ 0 = omega arith in
    loaded-word regions (at + 4 * i) word
    (loaded-from 4 regions (at + 4 * i) (to_le_bytes w32 word) place here ∙ ap Ok (spells_number word (All-get_or (λ word. word < 2 ^ 32) words i 0 lt small)))

-- ---- a region that was given as words

among : {A : Type 0} (P : A → Type 0) (front rest : List A) (x : A) → All P (front ++ (x ∷ rest)) → P x
among P [] rest x all = All-head P x rest all
among P (first ∷ front) rest x all = among P front rest x (All-tail P first (front ++ (x ∷ rest)) all)

not_served : (first region : Region) (right : Right) (n : ℕ) → Apart first region → 0 < n → n ≤ length region.bytes → contains first right region.address n ≡ false
not_served first region right n apart some few =
    elim (cases_Bool (contains first right region.address n)) [
      | inl has ↦ absurd (let within = within_served first right region.address n has in elim apart [ inl before ↦ omega arith | inr behind ↦ omega arith ])
      | inr lacks ↦ lacks
    ]

served_front : (region : Region) (right : Right) (n : ℕ) → region.flags / flag_of right % 2 ≡ 1 → n ≤ length region.bytes → contains region right region.address n ≡ true
served_front region right n gives few =
    let right_is : eqb (region.flags / flag_of right % 2) 1 ≡ true = eq-eqb (region.flags / flag_of right % 2) 1 gives in
    let begun = le-leb region.address region.address (omega arith) in
    let held = le-leb (region.address + n) (region.address + length region.bytes) (omega arith) in
    rw (right_is, begun, held) refl

-- any region's first bytes are read at its address, where it gives the right
pub bytes_at-region : (front rest : List Region) (region : Region) (right : Right) (n : ℕ) → AllApart (front ++ (region ∷ rest)) → region.flags / flag_of right % 2 ≡ 1
    → 0 < n → n ≤ length region.bytes → bytes_at (front ++ (region ∷ rest)) right region.address n ≡ Some (take n region.bytes)
bytes_at-region [] rest region right n apart gives some few =
    bytes_at-first region rest right region.address n (served_front region right n gives few)
    ∙ ap (λ (k : ℕ). Some (take n (drop k region.bytes))) (let none : region.address - region.address ≡ 0 = omega arith in none)
bytes_at-region (first ∷ front) rest region right n apart gives some few =
    let beside : Apart first region = among (Apart first) front rest region apart.0 in
    bytes_at-others first (front ++ (region ∷ rest)) right region.address n (not_served first region right n beside some few)
    ∙ bytes_at-region front rest region right n apart.1 gives some few

-- The words of a region that may be read and whose bytes are theirs, and maybe more behind them.
pub words_of_region : (front rest : List Region) (region : Region) (words more : List ℕ) → AllApart (front ++ (region ∷ rest)) → region.address % 4 ≡ 0
    → region.flags / flag_of Read % 2 ≡ 1 → All (λ word. word < 2 ^ 32) words → region.bytes ≡ flat_map (to_le_bytes w32) words ++ more
    → WordsAt (front ++ (region ∷ rest)) region.address words
words_of_region front rest region [] more apart aligned gives small is = λ i lt. absurd (omega arith)
words_of_region front rest region (word ∷ words) more apart aligned gives small is =
    let all = word ∷ words in
    let long = length-spelled all in
    let few : 4 * length all ≤ length region.bytes = omega (arith, ap length is, length-append (spelled all) more) in
    words_spelled (front ++ (region ∷ rest)) region.address all aligned apart small
    (bytes_at-region front rest region Read (4 * length all) apart gives (omega arith) few
    ∙ ap (λ (bytes : List ℕ). Some (take (4 * length all) bytes)) is ∙ ap Some (take_at (spelled all) more (4 * length all) long))
