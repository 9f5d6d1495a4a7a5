-- Reading the characters of a literal one after the other.
use Rattle.std.proofs.Common.{◌≡◌, ℕ, zero, suc, ◌-◌, ◌<◌, ◌≤◌, List, [], ◌∷◌, ◌++◌, length, map, take, drop, get_or, min, Bool, ◌==◌, true, false, cond, Option, Some, inl, inr, refl, sym, ap, subst, ◌∙◌, append_assoc, length-drop, arith}
use Rattle.std.proofs.lemmas.List.{take_all, append-nil}
use Rattle.std.specs.Char.{is_digit}
use Rattle.c_lexer.specs.Numbers.{count_of}
use Rattle.c_lexer.specs.Characters.{Read, read_as, simple_escape, hexadecimal, octal, escape, character, values_within, values_of, IsBad, byte_of}
use Rattle.c_lexer.specs.Lexing.{Has}

-- ---- what is read gets shorter

cond_shorter : (b : Bool) (r s : Read) (n : ℕ) → length r.rest ≤ n → length s.rest ≤ n → length (cond b r s).rest ≤ n
cond_shorter true r s n p q = p
cond_shorter false r s n p q = q

escape_shorter : (text : List ℕ) → length (escape text).rest ≤ length text
escape_shorter [] = omega arith
escape_shorter (c ∷ rest) =
    let simple = read_as (simple_escape c) rest in
    let within : length simple.rest ≤ length (c ∷ rest) = omega arith in
    let digits : length (octal (c ∷ rest)).rest ≤ length (c ∷ rest) = omega (arith, length-drop (min 3 (count_of 8 (c ∷ rest))) (c ∷ rest)) in
    let wide : length (hexadecimal rest).rest ≤ length (c ∷ rest) = omega (arith, length-drop (count_of 16 rest) rest) in
    cond_shorter (c == 120) (hexadecimal rest) (cond (is_digit c 8) (octal (c ∷ rest)) simple) (length (c ∷ rest)) wide (cond_shorter (is_digit c 8) (octal (c ∷ rest)) simple (length (c ∷ rest)) digits within)

pub shorter : (c : ℕ) (rest : List ℕ) → length (character c rest).rest ≤ length rest
unfolding character
shorter c rest =
    let within : length (read_as c rest).rest ≤ length rest = omega arith in
    cond_shorter (c == 92) (escape rest) (read_as c rest) (length rest) (escape_shorter rest) within

-- ---- the values, one by one

enough : (n m : ℕ) (text : List ℕ) → length text ≤ n → length text ≤ m → values_within n text ≡ values_within m text
enough zero zero text p q = refl
enough zero (suc m) [] p q = refl
enough zero (suc m) (c ∷ rest) p q = absurd (omega arith)
enough (suc n) zero [] p q = refl
enough (suc n) zero (c ∷ rest) p q = absurd (omega arith)
enough (suc n) (suc m) [] p q = refl
enough (suc n) (suc m) (c ∷ rest) p q =
    let less = shorter c rest in
    ap (λ values. (character c rest).value ∷ values) (enough n m (character c rest).rest (omega arith) (omega arith))

values_cons : (c : ℕ) (rest : List ℕ) → values_of (c ∷ rest) ≡ (character c rest).value ∷ values_of (character c rest).rest
values_cons c rest =
    ap (λ values. (character c rest).value ∷ values) (enough (length rest) (length (character c rest).rest) (character c rest).rest (shorter c rest) (omega arith))

-- what a pattern with a first element binds
abbrev pub others : List ℕ → List ℕ
others text = take (length text - 1) (drop 1 text)

split_first : (text : List ℕ) → 0 < length text → text ≡ get_or text 0 0 ∷ others text
split_first [] some = absurd (omega arith)
split_first (c ∷ rest) some = ap (λ xs. c ∷ xs) (sym (take_all (length (c ∷ rest) - 1) rest (omega arith)))

pub values_first : (text : List ℕ) (read : Read) → 0 < length text → character (get_or text 0 0) (others text) ≡ read → values_of text ≡ read.value ∷ values_of read.rest
values_first text read some is =
    ap values_of (split_first text some) ∙ values_cons (get_or text 0 0) (others text) ∙ ap (λ (r : Read). r.value ∷ values_of r.rest) is

pub values_some : (text : List ℕ) → 0 < length text → 0 < length (values_of text)
values_some [] some = some
values_some (c ∷ rest) some = omega arith

-- ---- the loop that adds them

pub record Added (old new text rest : List ℕ) : Type 0 where
  pub is : new ++ map byte_of (values_of rest) ≡ old ++ map byte_of (values_of text)
  pub down : Has IsBad (values_of rest) → Has IsBad (values_of text)
  pub up : Has IsBad (values_of text) → Has IsBad (values_of rest)

good : (value : ℕ) → value < 256 → IsBad (Some value) → ⊥
good value small bad = omega arith

has_rest : (value : ℕ) (values : List (Option ℕ)) → value < 256 → Has IsBad (Some value ∷ values) → Has IsBad values
has_rest value values small (inl bad) = absurd (good value small bad)
has_rest value values small (inr bad) = bad

pub adds_one : (old new text rest : List ℕ) (byte : ℕ) (behind : List ℕ) → Added old new text rest → 0 < length rest → byte < 256 → character (get_or rest 0 0) (others rest) ≡ read_as byte behind → Added old (new ++ byte ∷ []) text behind
adds_one old new text rest byte behind added some small is =
    let values = values_first rest (read_as byte behind) some is in
    record {
      is = append_assoc new (byte ∷ []) (map byte_of (values_of behind)) ∙ ap (λ vs. new ++ map byte_of vs) (sym values) ∙ added.is;
      down = λ bad. added.down (subst (Has IsBad) (sym values) (inr bad));
      up = λ bad. has_rest byte (values_of behind) small (subst (Has IsBad) values (added.up bad));
    }

pub is_bad : (old new text rest : List ℕ) → Added old new text rest → 0 < length rest → IsBad (character (get_or rest 0 0) (others rest)).value → Has IsBad (values_of text)
is_bad old new text rest added some bad =
    let values = values_first rest (character (get_or rest 0 0) (others rest)) some refl in
    added.down (subst (Has IsBad) (sym values) (inl bad))

pub all_added : (old new text rest : List ℕ) → Added old new text rest → length rest ≡ 0 → (new ≡ old ++ map byte_of (values_of text)) × (Has IsBad (values_of text) → ⊥)
all_added old new text [] added none = (sym (append-nil new) ∙ added.is, added.up)
all_added old new text (c ∷ rest) added none = absurd (omega arith)
