-- The token that is read from left to right is the longest.
use Rattle.std.proofs.Common.{◌≡◌, ℕ, zero, suc, ◌+◌, ◌<◌, ◌≤◌, ◌==◌, ◌⊎◌, Bool, true, false, ◌&&◌, ◌||◌, not, cond, List, [], ◌∷◌, length, take, Option, Some, None, refl, ap, inl, inr, arith}
use Rattle.std.specs.List.{list_all, prefix_len}
use Rattle.std.specs.Char.{is_ascii_digit}
use Rattle.std.proofs.lemmas.Bool.{eqb-true}
use Rattle.std.proofs.lemmas.Bool.Decides.{nat_tests}
use Rattle.pp_token.specs.Spelling.{is_nondigit, is_name_character, number_goes_on, is_punctuator_of_1, is_punctuator_of_2, is_punctuator_of_3, is_name, goes_on, is_digits, is_number, is_empty, is_closed, is_punctuator, is_one}
use Rattle.pp_token.specs.Scanning.{name_length, number_rest, fraction_length, number_length, further, closing, begins_with_2, begins_with_3, punctuator_length}

pub not_true : (b : Bool) → (b ≡ true → ⊥) → b ≡ false
not_true true f = absurd (f refl)
not_true false f = refl

pub both : (a b : Bool) → (a && b) ≡ true → (a ≡ true) × (b ≡ true)
both true b e = (refl, e)
both false b e = cc

pub one_of : (a b : Bool) → (a || b) ≡ true → (a ≡ true) ⊎ (b ≡ true)
one_of true b e = inl refl
one_of false b e = inr e

false_true : (b : Bool) (P : Type 0) → b ≡ false → b ≡ true → P
false_true true P e f = cc
false_true false P e f = cc

arith_one : (n : ℕ) → 1 + n ≡ suc n
arith_one n = omega arith

-- names
all_within : (p : ℕ → Bool) (k : ℕ) (cs : List ℕ) → k ≤ length cs → list_all p (take k cs) ≡ true → k ≤ prefix_len p cs
all_within p zero cs low e = omega arith
all_within p (suc k) [] low e = low
all_within p (suc k) (c ∷ cs) low e =
    let parts = both (p c) (list_all p (take k cs)) e in
    let rest : k ≤ prefix_len p cs = all_within p k cs (omega arith) parts.1 in
    rw parts.0 (omega arith)

prefix_passes : (p : ℕ → Bool) (b : Bool) (c n : ℕ) (cs : List ℕ) → p c ≡ b → list_all p (take n cs) ≡ true → list_all p (take (cond b (1 + n) 0) (c ∷ cs)) ≡ true
prefix_passes p true c n cs e rest = rw (arith_one n, e) rest
prefix_passes p false c n cs e rest = refl

all_prefix : (p : ℕ → Bool) (cs : List ℕ) → list_all p (take (prefix_len p cs) cs) ≡ true
all_prefix p [] = refl
all_prefix p (c ∷ cs) = prefix_passes p (p c) c (prefix_len p cs) cs refl (all_prefix p cs)

-- numbers
number_within : (previous k : ℕ) (cs : List ℕ) → k ≤ length cs → goes_on previous (take k cs) ≡ true → k ≤ number_rest previous cs
number_within previous zero cs low e = omega arith
number_within previous (suc k) [] low e = low
number_within previous (suc k) (c ∷ cs) low e =
    let parts = both (number_goes_on previous c) (goes_on c (take k cs)) e in
    let rest : k ≤ number_rest c cs = number_within c k cs (omega arith) parts.1 in
    rw parts.0 (omega arith)

-- quotes
pub some_more : (k : ℕ) → further 1 (Some k) ≡ Some (suc k)
some_more k = ap (λ (n : ℕ). Some n) (omega arith)

pub empty_taken : (k : ℕ) (cs : List ℕ) → k ≤ length cs → is_empty (take k cs) ≡ true → k ≡ 0
empty_taken zero cs low e = refl
empty_taken (suc k) [] low e = absurd (omega arith)
empty_taken (suc k) (c ∷ cs) low e = cc

closed_step : (ends closes : Bool) (k : ℕ) (cs : List ℕ) (rest : Bool) (found : Option ℕ) → k ≤ length cs → cond ends false (cond closes (is_empty (take k cs)) rest) ≡ true → (rest ≡ true → found ≡ Some k) → cond ends None (cond closes (Some 1) (further 1 found)) ≡ Some (suc k)
closed_step true closes k cs rest found low e f = cc
closed_step false true k cs rest found low e f = rw (empty_taken k cs low e) refl
closed_step false false k cs rest found low e f = rw (f e) (some_more k)

pub closed_within : (quote : ℕ) (escaped : Bool) (k : ℕ) (cs : List ℕ) → k ≤ length cs → is_closed quote escaped (take k cs) ≡ true → closing quote escaped cs ≡ Some k
closed_within quote escaped zero cs low e = cc
closed_within quote escaped (suc k) [] low e = cc
closed_within quote escaped (suc k) (c ∷ cs) low e =
    closed_step (c == 10) (not escaped && c == quote) k cs (is_closed quote (not escaped && c == 92) (take k cs)) (closing quote (not escaped && c == 92) cs) (omega arith) e (λ f. closed_within quote (not escaped && c == 92) k cs (omega arith) f)

pub nondigit_no_digit : (c : ℕ) → is_nondigit c ≡ true → is_ascii_digit c ≡ false
unfolding is_nondigit
nondigit_no_digit c e = grind (arith, nat_tests)

pub nondigit_no_dot : (c : ℕ) → is_nondigit c ≡ true → (c == 46) ≡ false
unfolding is_nondigit
nondigit_no_dot c e = grind (arith, nat_tests)

pub digit_no_nondigit : (c : ℕ) → is_ascii_digit c ≡ true → is_nondigit c ≡ false
unfolding is_nondigit
digit_no_nondigit c e = grind (arith, nat_tests)

number_passes : (b : Bool) (previous c n : ℕ) (cs : List ℕ) → number_goes_on previous c ≡ b → goes_on c (take n cs) ≡ true → goes_on previous (take (cond b (1 + n) 0) (c ∷ cs)) ≡ true
number_passes true previous c n cs e rest = rw (arith_one n, e) rest
number_passes false previous c n cs e rest = refl

number_prefix : (previous : ℕ) (cs : List ℕ) → goes_on previous (take (number_rest previous cs) cs) ≡ true
number_prefix previous [] = refl
number_prefix previous (c ∷ cs) = number_passes (number_goes_on previous c) previous c (number_rest c cs) cs refl (number_prefix c cs)

pub further_parts : (k : ℕ) (found : Option ℕ) → further 1 found ≡ Some k → (j : ℕ) × (found ≡ Some j) × (k ≡ suc j)
further_parts k None e = cc
further_parts k (Some j) e = (j, refl, (let same : k ≡ 1 + j = cc in omega arith))

closes_step : (ends closes : Bool) (k : ℕ) (found : Option ℕ) (cs : List ℕ) (rest : ℕ → Bool) → cond ends None (cond closes (Some 1) (further 1 found)) ≡ Some k → ((j : ℕ) → found ≡ Some j → rest j ≡ true) → (j : ℕ) × (k ≡ suc j) × (cond ends false (cond closes (is_empty (take j cs)) (rest j)) ≡ true)
closes_step true closes k found cs rest e f = cc
closes_step false true k found cs rest e f = (0, (let same : k ≡ 1 = cc in omega arith), refl)
closes_step false false k found cs rest e f = let parts = further_parts k found e in (parts.0, parts.2, f parts.0 parts.1)

-- what closing finds is closed
pub closed_prefix : (quote : ℕ) (escaped : Bool) (k : ℕ) (cs : List ℕ) → closing quote escaped cs ≡ Some k → is_closed quote escaped (take k cs) ≡ true
closed_prefix quote escaped k [] e = cc
closed_prefix quote escaped k (c ∷ cs) e =
    let it = closes_step (c == 10) (not escaped && c == quote) k (closing quote (not escaped && c == 92) cs) cs (λ j. is_closed quote (not escaped && c == 92) (take j cs)) e (λ j f. closed_prefix quote (not escaped && c == 92) j cs f) in
    rw it.1 it.2

-- how long names are
pub name_within : (k : ℕ) (text : List ℕ) → k ≤ length text → is_name (take k text) ≡ true → k ≤ name_length text
unfolding is_name name_length
name_within zero text low e = omega arith
name_within (suc k) [] low e = low
name_within (suc k) (c ∷ cs) low e =
    let parts = both (is_nondigit c) (list_all is_name_character (take k cs)) e in
    let rest : k ≤ prefix_len is_name_character cs = all_within is_name_character k cs (omega arith) parts.1 in
    rw parts.0 (omega arith)

name_starts : (b : Bool) (c n : ℕ) (cs : List ℕ) → is_nondigit c ≡ b → list_all is_name_character (take n cs) ≡ true → 0 < cond b (1 + n) 0 → is_name (take (cond b (1 + n) 0) (c ∷ cs)) ≡ true
unfolding is_name
name_starts true c n cs e rest some = rw (arith_one n, e) rest
name_starts false c n cs e rest some = absurd (omega arith)

pub name_prefix : (text : List ℕ) → 0 < name_length text → is_name (take (name_length text) text) ≡ true
unfolding name_length
name_prefix [] some = absurd (omega arith)
name_prefix (c ∷ cs) some = name_starts (is_nondigit c) c (prefix_len is_name_character cs) cs refl (all_prefix is_name_character cs) some

-- how long numbers are
digits_within : (k : ℕ) (cs : List ℕ) → k ≤ length cs → is_digits (take k cs) ≡ true → suc k ≤ fraction_length cs
digits_within zero cs low e = cc
digits_within (suc k) [] low e = absurd (omega arith)
digits_within (suc k) (d ∷ ds) low e =
    let parts = both (is_ascii_digit d) (goes_on d (take k ds)) e in
    let rest : k ≤ number_rest d ds = number_within d k ds (omega arith) parts.1 in
    rw parts.0 (omega arith)

dot_no_digit : (c : ℕ) → (c == 46) ≡ true → is_ascii_digit c ≡ false
dot_no_digit c e = rw (eqb-true c 46 e) refl

pub number_length_within : (k : ℕ) (text : List ℕ) → k ≤ length text → is_number (take k text) ≡ true → k ≤ number_length text
unfolding is_number number_length
number_length_within zero text low e = omega arith
number_length_within (suc k) [] low e = low
number_length_within (suc k) (c ∷ cs) low e = elim (one_of (is_digits (c ∷ take k cs)) (c == 46 && is_digits (take k cs)) e) [
  | inl digits ↦
      let parts = both (is_ascii_digit c) (goes_on c (take k cs)) digits in
      let rest : k ≤ number_rest c cs = number_within c k cs (omega arith) parts.1 in
      rw parts.0 (omega arith)
  | inr dot ↦
      let parts = both (c == 46) (is_digits (take k cs)) dot in
      rw (dot_no_digit c parts.0, parts.0) (digits_within k cs (omega arith) parts.1)
]

pub or_true : (a b : Bool) → b ≡ true → (a || b) ≡ true
or_true true b e = refl
or_true false b e = e

pub and_true : (a b : Bool) → a ≡ true → b ≡ true → (a && b) ≡ true
and_true true b e f = f
and_true false b e f = cc

fraction_starts : (b : Bool) (d n : ℕ) (ds : List ℕ) → is_ascii_digit d ≡ b → goes_on d (take n ds) ≡ true → 0 < cond b (2 + n) 0 → (m : ℕ) × (cond b (2 + n) 0 ≡ suc m) × (is_digits (take m (d ∷ ds)) ≡ true)
fraction_starts true d n ds e rest some = (suc n, omega arith, and_true (is_ascii_digit d) (goes_on d (take n ds)) e rest)
fraction_starts false d n ds e rest some = absurd (omega arith)

fraction_prefix : (cs : List ℕ) → 0 < fraction_length cs → (m : ℕ) × (fraction_length cs ≡ suc m) × (is_digits (take m cs) ≡ true)
fraction_prefix [] some = absurd (omega arith)
fraction_prefix (d ∷ ds) some = fraction_starts (is_ascii_digit d) d (number_rest d ds) ds refl (number_prefix d ds) some

number_starts : (digit dot : Bool) (c n f : ℕ) (cs : List ℕ) → is_ascii_digit c ≡ digit → (c == 46) ≡ dot → goes_on c (take n cs) ≡ true → (0 < f → (m : ℕ) × (f ≡ suc m) × (is_digits (take m cs) ≡ true)) → 0 < cond digit (1 + n) (cond dot f 0) → is_number (take (cond digit (1 + n) (cond dot f 0)) (c ∷ cs)) ≡ true
unfolding is_number
number_starts true dot c n f cs e1 e2 rest fraction some = rw (arith_one n, e1, rest) refl
number_starts false true c n f cs e1 e2 rest fraction some = let it = fraction some in rw it.1 (or_true (is_digits (c ∷ take it.0 cs)) (c == 46 && is_digits (take it.0 cs)) (and_true (c == 46) (is_digits (take it.0 cs)) e2 it.2))
number_starts false false c n f cs e1 e2 rest fraction some = absurd (omega arith)

pub number_length_prefix : (text : List ℕ) → 0 < number_length text → is_number (take (number_length text) text) ≡ true
unfolding number_length
number_length_prefix [] some = absurd (omega arith)
number_length_prefix (c ∷ cs) some = number_starts (is_ascii_digit c) (c == 46) c (number_rest c cs) (fraction_length cs) cs refl refl (number_prefix c cs) (λ f. fraction_prefix cs f) some

-- how long punctuators are
pub punctuator_within : (k : ℕ) (text : List ℕ) → k ≤ length text → is_punctuator (take k text) ≡ true → k ≤ punctuator_length text
unfolding is_punctuator punctuator_length
punctuator_within zero text low e = omega arith
punctuator_within (suc k) [] low e = low
punctuator_within (suc zero) (a ∷ cs) low e = at_least_1 (begins_with_3 (a ∷ cs)) (begins_with_2 (a ∷ cs)) (is_punctuator_of_1 a) e where
  at_least_1 : (b3 b2 b1 : Bool) → b1 ≡ true → 1 ≤ cond b3 3 (cond b2 2 (cond b1 1 0))
  at_least_1 true b2 b1 f = omega arith
  at_least_1 false true b1 f = omega arith
  at_least_1 false false b1 f = rw f (omega arith)
punctuator_within (suc (suc k)) (a ∷ []) low e = absurd (omega arith)
punctuator_within (suc (suc zero)) (a ∷ b ∷ cs) low e = at_least_2 (begins_with_3 (a ∷ b ∷ cs)) (is_punctuator_of_2 a b) (is_punctuator_of_1 a) e where
  at_least_2 : (b3 b2 b1 : Bool) → b2 ≡ true → 2 ≤ cond b3 3 (cond b2 2 (cond b1 1 0))
  at_least_2 true b2 b1 f = omega arith
  at_least_2 false b2 b1 f = rw f (omega arith)
punctuator_within (suc (suc (suc k))) (a ∷ b ∷ []) low e = absurd (omega arith)
punctuator_within (suc (suc (suc zero))) (a ∷ b ∷ c ∷ cs) low e = rw e (omega arith)
punctuator_within (suc (suc (suc (suc k)))) (a ∷ b ∷ c ∷ []) low e = absurd (omega arith)
punctuator_within (suc (suc (suc (suc k)))) (a ∷ b ∷ c ∷ d ∷ cs) low e = cc

prefix_of_1 : (b : Bool) (a : ℕ) (cs : List ℕ) → is_punctuator_of_1 a ≡ b → 0 < cond b 1 0 → is_punctuator (take (cond b 1 0) (a ∷ cs)) ≡ true
unfolding is_punctuator
prefix_of_1 true a cs e some = e
prefix_of_1 false a cs e some = absurd (omega arith)

prefix_of_2 : (b : Bool) (a b' : ℕ) (cs : List ℕ) → is_punctuator_of_2 a b' ≡ b → 0 < cond b 2 (cond (is_punctuator_of_1 a) 1 0) → is_punctuator (take (cond b 2 (cond (is_punctuator_of_1 a) 1 0)) (a ∷ b' ∷ cs)) ≡ true
unfolding is_punctuator
prefix_of_2 true a b' cs e some = e
prefix_of_2 false a b' cs e some = prefix_of_1 (is_punctuator_of_1 a) a (b' ∷ cs) refl some

prefix_of_3 : (b : Bool) (a b' c : ℕ) (cs : List ℕ) → is_punctuator_of_3 a b' c ≡ b → 0 < cond b 3 (cond (is_punctuator_of_2 a b') 2 (cond (is_punctuator_of_1 a) 1 0)) → is_punctuator (take (cond b 3 (cond (is_punctuator_of_2 a b') 2 (cond (is_punctuator_of_1 a) 1 0))) (a ∷ b' ∷ c ∷ cs)) ≡ true
unfolding is_punctuator
prefix_of_3 true a b' c cs e some = e
prefix_of_3 false a b' c cs e some = prefix_of_2 (is_punctuator_of_2 a b') a b' (c ∷ cs) refl some

pub punctuator_prefix : (text : List ℕ) → 0 < punctuator_length text → is_punctuator (take (punctuator_length text) text) ≡ true
unfolding punctuator_length
punctuator_prefix [] some = absurd (omega arith)
punctuator_prefix (a ∷ []) some = prefix_of_1 (is_punctuator_of_1 a) a [] refl some
punctuator_prefix (a ∷ b ∷ []) some = prefix_of_2 (is_punctuator_of_2 a b) a b [] refl some
punctuator_prefix (a ∷ b ∷ c ∷ cs) some = prefix_of_3 (is_punctuator_of_3 a b c) a b c cs refl some

-- how long one character is
pub one_within : (k : ℕ) (text : List ℕ) → k ≤ length text → is_one (take k text) ≡ true → k ≤ 1
unfolding is_one
one_within zero text low e = omega arith
one_within (suc zero) text low e = omega arith
one_within (suc (suc k)) [] low e = absurd (omega arith)
one_within (suc (suc k)) (c ∷ []) low e = absurd (omega arith)
one_within (suc (suc k)) (c ∷ d ∷ ds) low e = cc
