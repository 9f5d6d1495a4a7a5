-- The token that is read from left to right is the longest.
use Rattle.std.proofs.Common.{◌≡◌, ℕ, zero, suc, ◌<◌, ◌≤◌, ◌==◌, Bool, true, false, List, [], ◌∷◌, length, take, Some, None, refl, sym, ap, ◌∙◌, subst, inl, inr, arith}
use Rattle.std.specs.Char.{is_ascii_digit}
use Rattle.std.proofs.lemmas.Bool.{eqb-true}
use Rattle.std.proofs.lemmas.Bool.{cases_lt}
use Rattle.pp_token.specs.declared.token.PpKind.{PpKind}
use Rattle.pp_token.specs.declared.token.PpKind.TheVariants as kinds
use Rattle.pp_token.specs.declared.spelling.Found.{Found}
use Rattle.pp_token.specs.declared.spelling.Quote.{Quote}
use Rattle.pp_token.specs.declared.spelling.Quote.TheVariants.{Single, Double}
use Rattle.pp_token.specs.Spelling.{is_nondigit, is_blank, is_name, is_number, is_quoted, is_punctuator, is_one, kind_by, kind_of, longest, is_token, longest_token}
use Rattle.pp_token.specs.Scanning.{name_length, number_length, fraction_length, character_of, kind_of_quote, quoted_at, punctuator_length, first_found, plain, front, or_plain}
use Rattle.pp_token.specs.Stepping.{IsMark}
use Rattle.pp_token.proofs.LongestLaws.{not_true, name_within, name_prefix, number_length_within, number_length_prefix, punctuator_within, punctuator_prefix, one_within, nondigit_no_digit, nondigit_no_dot}
use Rattle.pp_token.proofs.FrontLaws.{literal, quoted_found, literal_at, no_name, no_number, no_punctuator, dot_digit, nondigit_starts, digit_starts, same_found}

-- no token is longer
record IsMost (text : List ℕ) (n : ℕ) : Type 0 where
  names : name_length text ≤ n
  numbers : number_length text ≤ n
  punctuators : punctuator_length text ≤ n
  one : 1 ≤ n
  quotes : (found : Found) → quoted_at text ≡ Some found → found.length ≤ n

no_kind : (a b c d e f : Bool) → a ≡ false → b ≡ false → c ≡ false → d ≡ false → e ≡ false → f ≡ false → kind_by a b c d e f ≡ None
no_kind a b c d e f p q r s t u = rw (p, q, r, s, t, u) refl

longer_none : (text : List ℕ) (n k : ℕ) → IsMost text n → n < k → k ≤ length text → kind_of (take k text) ≡ None
unfolding kind_of
longer_none text n k most more low =
    no_kind (is_name (take k text)) (is_number (take k text)) (is_quoted 39 (take k text)) (is_quoted 34 (take k text)) (is_punctuator (take k text)) (is_one (take k text))
    (not_true (is_name (take k text)) (λ e. let h : k ≤ name_length text = name_within k text low e in let m : name_length text ≤ n = most.names in absurd (omega arith)))
    (not_true (is_number (take k text)) (λ e. let h : k ≤ number_length text = number_length_within k text low e in let m : number_length text ≤ n = most.numbers in absurd (omega arith)))
    (not_true (is_quoted 39 (take k text)) (λ e. let h : k ≤ n = most.quotes (record { kind = kinds.Char; length = k }) (quoted_found Single k text low e) in absurd (omega arith)))
    (not_true (is_quoted 34 (take k text)) (λ e. let h : k ≤ n = most.quotes (record { kind = kinds.Str; length = k }) (quoted_found Double k text low e) in absurd (omega arith)))
    (not_true (is_punctuator (take k text)) (λ e. let h : k ≤ punctuator_length text = punctuator_within k text low e in let m : punctuator_length text ≤ n = most.punctuators in absurd (omega arith)))
    (not_true (is_one (take k text)) (λ e. let h : k ≤ 1 = one_within k text low e in let m : 1 ≤ n = most.one in absurd (omega arith)))

pub longest_is : (test : List ℕ → Bool) (n m : ℕ) (text : List ℕ) → 0 < n → n ≤ m → test (take n text) ≡ true → ((k : ℕ) → n < k → k ≤ m → test (take k text) ≡ false) → longest test m text ≡ n
longest_is test n zero text some low e none = absurd (omega arith)
longest_is test n (suc m) text some low e none = elim (cases_lt n (suc m)) [
  | inl less ↦ rw (none (suc m) less (omega arith)) (longest_is test n m text some (omega arith) e (λ k more low'. none k more (omega arith)))
  | inr same ↦ let is : n ≡ suc m = omega arith in rw (subst (λ (x : ℕ). test (take x text) ≡ true) is e) (sym is)
]

longest_token_is : (text : List ℕ) (n : ℕ) (kind : PpKind) → 0 < n → n ≤ length text → kind_of (take n text) ≡ Some kind → IsMost text n → (let it : Found = record { kind = kind; length = n } in it) ≡ longest_token text
unfolding longest_token
longest_token_is text n kind some low e most =
    let here : is_token (take n text) ≡ true = rw e refl in
    let is : longest is_token (length text) text ≡ n = longest_is is_token n (length text) text some low here (λ k more low'. rw (longer_none text n k most more low') refl) in
    rw (is, e) refl

same_kind : (a b : PpKind) (n m : ℕ) → (let it : Found = record { kind = a; length = n } in it) ≡ record { kind = b; length = m } → a ≡ b
same_kind a b n m e = ap (λ (f : Found). f.kind) e

some_name : (c : ℕ) (cs : List ℕ) → is_nondigit c ≡ true → 0 < name_length (c ∷ cs)
unfolding name_length
some_name c cs e = rw e (omega arith)

-- a number is longer than a punctuator there
after_dot : (d : ℕ) (ds : List ℕ) → is_ascii_digit d ≡ true → punctuator_length (46 ∷ d ∷ ds) ≤ 1
after_dot d ds e = elim (punctuator_length (46 ∷ d ∷ ds)) as (λ n. punctuator_length (46 ∷ d ∷ ds) ≡ n → punctuator_length (46 ∷ d ∷ ds) ≤ 1) [
  | zero ↦ λ is. omega (arith, is)
  | suc zero ↦ λ is. omega (arith, is)
  | suc (suc k) ↦ λ is. absurd (dot_digit d (take k ds) e (subst (λ (n : ℕ). is_punctuator (take n (46 ∷ d ∷ ds)) ≡ true) is (punctuator_prefix (46 ∷ d ∷ ds) (omega (arith, is)))))
] refl

dot_beats : (cs : List ℕ) → 0 < fraction_length cs → punctuator_length (46 ∷ cs) ≤ fraction_length cs
dot_beats [] some = absurd (omega arith)
dot_beats (d ∷ ds) some = elim (is_ascii_digit d) as (λ b. is_ascii_digit d ≡ b → punctuator_length (46 ∷ d ∷ ds) ≤ fraction_length (d ∷ ds)) [
  | true ↦ λ e. let h : punctuator_length (46 ∷ d ∷ ds) ≤ 1 = after_dot d ds e in (omega arith)
  | false ↦ λ e. absurd (let none : fraction_length (d ∷ ds) ≡ 0 = rw e refl in omega arith)
] refl

number_beats_by : (digit dot : Bool) (c : ℕ) (cs : List ℕ) → is_ascii_digit c ≡ digit → (c == 46) ≡ dot → 0 < number_length (c ∷ cs) → punctuator_length (c ∷ cs) ≤ number_length (c ∷ cs)
unfolding number_length
number_beats_by true dot c cs e f some = let h : punctuator_length (c ∷ cs) ≡ 0 = no_punctuator c cs (digit_starts c e) in omega arith
number_beats_by false true c cs e f some =
    let same : c ≡ 46 = eqb-true c 46 f in
    let beaten : punctuator_length (46 ∷ cs) ≤ fraction_length cs = dot_beats cs (rw (e, f) at some) in
    rw (e, f, same) beaten
number_beats_by false false c cs e f some = absurd (let h : number_length (c ∷ cs) ≡ 0 = no_number c cs e f in omega arith)

number_beats : (c : ℕ) (cs : List ℕ) → 0 < number_length (c ∷ cs) → punctuator_length (c ∷ cs) ≤ number_length (c ∷ cs)
number_beats c cs some = number_beats_by (is_ascii_digit c) (c == 46) c cs refl refl some

-- a literal is the longest
literal_kind : (text : List ℕ) (found : Found) (quote : Quote) → quoted_at text ≡ Some found → found.length ≤ length text → name_length text < found.length → number_length text < found.length → found.kind ≡ kind_of_quote quote → is_quoted (character_of quote) (take found.length text) ≡ true → kind_of (take found.length text) ≡ Some found.kind
unfolding kind_of
literal_kind text found Single e low names numbers kind quoted =
    let n : is_name (take found.length text) ≡ false = not_true (is_name (take found.length text)) (λ f. let h : found.length ≤ name_length text = name_within found.length text low f in absurd (omega arith)) in
    let u : is_number (take found.length text) ≡ false = not_true (is_number (take found.length text)) (λ f. let h : found.length ≤ number_length text = number_length_within found.length text low f in absurd (omega arith)) in
    rw (n, u, quoted, kind) refl
literal_kind text found Double e low names numbers kind quoted =
    let n : is_name (take found.length text) ≡ false = not_true (is_name (take found.length text)) (λ f. let h : found.length ≤ name_length text = name_within found.length text low f in absurd (omega arith)) in
    let u : is_number (take found.length text) ≡ false = not_true (is_number (take found.length text)) (λ f. let h : found.length ≤ number_length text = number_length_within found.length text low f in absurd (omega arith)) in
    let s : is_quoted 39 (take found.length text) ≡ false = not_true (is_quoted 39 (take found.length text)) (λ f.
    let h : quoted_at text ≡ literal Single found.length = quoted_found Single found.length text low f in
    let same : found ≡ record { kind = kinds.Char; length = found.length } = same_found found (record { kind = kinds.Char; length = found.length }) (sym e ∙ h) in
    let other : found.kind ≡ kinds.Char = ap (λ (x : Found). x.kind) same in
    absurd (let no : kinds.Str ≡ kinds.Char = sym kind ∙ other in cc)) in
    rw (n, u, s, quoted, kind) refl

literal_longest : (text : List ℕ) (found : Found) → quoted_at text ≡ Some found → found.length ≤ length text → found ≡ longest_token text
literal_longest text found e low =
    let is = literal_at text found e in
    longest_token_is text found.length found.kind (let s : 1 < found.length = is.some in omega arith) low
    (literal_kind text found is.quote e low is.names is.numbers is.kind is.quoted)
    (record {
      names = (let h : name_length text < found.length = is.names in omega arith);
      numbers = (let h : number_length text < found.length = is.numbers in omega arith);
      punctuators = (let h : punctuator_length text < found.length = is.punctuators in omega arith);
      one = (let h : 1 < found.length = is.some in omega arith);
      quotes = λ other f. (let same : other ≡ found = same_found other found (sym f ∙ e) in let h : other.length ≡ found.length = ap (λ (x : Found). x.length) same in omega arith);
    })

some_test : (n : ℕ) → (suc n == 0) ≡ false
some_test n = not_true (suc n == 0) (λ e. let h : suc n ≡ 0 = eqb-true (suc n) 0 e in absurd (omega arith))

first_some : (n : ℕ) (kind : PpKind) (other : Found) → 0 < n → first_found n kind other ≡ record { kind = kind; length = n }
first_some zero kind other some = absurd (omega arith)
first_some (suc n) kind other some = rw (some_test n) refl

first_none : (n : ℕ) (kind : PpKind) (other : Found) → n ≡ 0 → first_found n kind other ≡ other
first_none n kind other e = rw e refl

no_quotes : (text : List ℕ) (n : ℕ) → quoted_at text ≡ None → (found : Found) → quoted_at text ≡ Some found → found.length ≤ n
no_quotes text n none found e = absurd (cc)

name_longest : (c : ℕ) (cs : List ℕ) → quoted_at (c ∷ cs) ≡ None → is_nondigit c ≡ true → name_length (c ∷ cs) ≤ length (c ∷ cs) → (let it : Found = record { kind = kinds.Name; length = name_length (c ∷ cs) } in it) ≡ longest_token (c ∷ cs)
unfolding kind_of
name_longest c cs none first low =
    let some : 0 < name_length (c ∷ cs) = some_name c cs first in
    let numbers : number_length (c ∷ cs) ≡ 0 = no_number c cs (nondigit_no_digit c first) (nondigit_no_dot c first) in
    let punctuators : punctuator_length (c ∷ cs) ≡ 0 = no_punctuator c cs (nondigit_starts c first) in
    longest_token_is (c ∷ cs) (name_length (c ∷ cs)) kinds.Name some low (rw (name_prefix (c ∷ cs) some) refl)
    (record { names = omega arith; numbers = omega arith; punctuators = omega arith; one = omega arith; quotes = no_quotes (c ∷ cs) (name_length (c ∷ cs)) none })

number_longest : (c : ℕ) (cs : List ℕ) → quoted_at (c ∷ cs) ≡ None → is_nondigit c ≡ false → 0 < number_length (c ∷ cs) → number_length (c ∷ cs) ≤ length (c ∷ cs) → (let it : Found = record { kind = kinds.Number; length = number_length (c ∷ cs) } in it) ≡ longest_token (c ∷ cs)
unfolding kind_of
number_longest c cs none first some low =
    let names : name_length (c ∷ cs) ≡ 0 = no_name c cs first in
    let punctuators : punctuator_length (c ∷ cs) ≤ number_length (c ∷ cs) = number_beats c cs some in
    let n : is_name (take (number_length (c ∷ cs)) (c ∷ cs)) ≡ false = not_true (is_name (take (number_length (c ∷ cs)) (c ∷ cs))) (λ f. let h : number_length (c ∷ cs) ≤ name_length (c ∷ cs) = name_within (number_length (c ∷ cs)) (c ∷ cs) low f in absurd (omega arith)) in
    longest_token_is (c ∷ cs) (number_length (c ∷ cs)) kinds.Number some low (rw (n, number_length_prefix (c ∷ cs) some) refl)
    (record { names = omega arith; numbers = omega arith; punctuators = punctuators; one = omega arith; quotes = no_quotes (c ∷ cs) (number_length (c ∷ cs)) none })

unquoted : (quote : Quote) (k : ℕ) (text : List ℕ) → quoted_at text ≡ None → k ≤ length text → is_quoted (character_of quote) (take k text) ≡ false
unquoted quote k text none low = not_true (is_quoted (character_of quote) (take k text)) (λ e. let h : quoted_at text ≡ literal quote k = quoted_found quote k text low e in absurd (cc))

punctuator_longest : (c : ℕ) (cs : List ℕ) → quoted_at (c ∷ cs) ≡ None → is_nondigit c ≡ false → number_length (c ∷ cs) ≡ 0 → 0 < punctuator_length (c ∷ cs) → punctuator_length (c ∷ cs) ≤ length (c ∷ cs) → (let it : Found = record { kind = kinds.Punct; length = punctuator_length (c ∷ cs) } in it) ≡ longest_token (c ∷ cs)
unfolding kind_of
punctuator_longest c cs none first numbers some low =
    let names : name_length (c ∷ cs) ≡ 0 = no_name c cs first in
    let n : is_name (take (punctuator_length (c ∷ cs)) (c ∷ cs)) ≡ false = not_true (is_name (take (punctuator_length (c ∷ cs)) (c ∷ cs))) (λ f. let h : punctuator_length (c ∷ cs) ≤ name_length (c ∷ cs) = name_within (punctuator_length (c ∷ cs)) (c ∷ cs) low f in absurd (omega arith)) in
    let u : is_number (take (punctuator_length (c ∷ cs)) (c ∷ cs)) ≡ false = not_true (is_number (take (punctuator_length (c ∷ cs)) (c ∷ cs))) (λ f. let h : punctuator_length (c ∷ cs) ≤ number_length (c ∷ cs) = number_length_within (punctuator_length (c ∷ cs)) (c ∷ cs) low f in absurd (omega arith)) in
    longest_token_is (c ∷ cs) (punctuator_length (c ∷ cs)) kinds.Punct some low (rw (n, u, unquoted Single (punctuator_length (c ∷ cs)) (c ∷ cs) none low, unquoted Double (punctuator_length (c ∷ cs)) (c ∷ cs) none low, punctuator_prefix (c ∷ cs) some) refl)
    (record { names = omega arith; numbers = omega arith; punctuators = omega arith; one = omega arith; quotes = no_quotes (c ∷ cs) (punctuator_length (c ∷ cs)) none })

one_longest : (c : ℕ) (cs : List ℕ) → quoted_at (c ∷ cs) ≡ None → is_nondigit c ≡ false → number_length (c ∷ cs) ≡ 0 → punctuator_length (c ∷ cs) ≡ 0 → is_blank c ≡ false → (c == 10) ≡ false → (let it : Found = record { kind = kinds.Other; length = 1 } in it) ≡ longest_token (c ∷ cs)
unfolding kind_of is_one
one_longest c cs none first numbers punctuators blank ends =
    let names : name_length (c ∷ cs) ≡ 0 = no_name c cs first in
    let low : 1 ≤ length (c ∷ cs) = omega arith in
    let n : is_name (c ∷ []) ≡ false = not_true (is_name (c ∷ [])) (λ f. let h : 1 ≤ name_length (c ∷ cs) = name_within 1 (c ∷ cs) low f in absurd (omega arith)) in
    let u : is_number (c ∷ []) ≡ false = not_true (is_number (c ∷ [])) (λ f. let h : 1 ≤ number_length (c ∷ cs) = number_length_within 1 (c ∷ cs) low f in absurd (omega arith)) in
    let p : is_punctuator (c ∷ []) ≡ false = not_true (is_punctuator (c ∷ [])) (λ f. let h : 1 ≤ punctuator_length (c ∷ cs) = punctuator_within 1 (c ∷ cs) low f in absurd (omega arith)) in
    let s : is_quoted 39 (c ∷ []) ≡ false = unquoted Single 1 (c ∷ cs) none low in
    let d : is_quoted 34 (c ∷ []) ≡ false = unquoted Double 1 (c ∷ cs) none low in
    longest_token_is (c ∷ cs) 1 kinds.Other (omega arith) low (rw (n, u, s, d, p, blank, ends) refl)
    (record { names = omega arith; numbers = omega arith; punctuators = omega arith; one = omega arith; quotes = no_quotes (c ∷ cs) 1 none })

unnamed_longest : (c : ℕ) (cs : List ℕ) (numbers punctuators : ℕ) → quoted_at (c ∷ cs) ≡ None → is_nondigit c ≡ false → is_blank c ≡ false → (c == 10) ≡ false → number_length (c ∷ cs) ≡ numbers → punctuator_length (c ∷ cs) ≡ punctuators → (plain (c ∷ cs)).length ≤ length (c ∷ cs) → plain (c ∷ cs) ≡ longest_token (c ∷ cs)
unfolding plain
unnamed_longest c cs zero zero none first blank ends u p low =
    rw (no_name c cs first, u, p) (one_longest c cs none first u p blank ends)
unnamed_longest c cs zero (suc k) none first blank ends u p low =
    let is : plain (c ∷ cs) ≡ record { kind = kinds.Punct; length = punctuator_length (c ∷ cs) } =
    rw (no_name c cs first, u) (first_some (punctuator_length (c ∷ cs)) kinds.Punct (record { kind = kinds.Other; length = 1 }) (omega (arith, p))) in
    let short : punctuator_length (c ∷ cs) ≤ length (c ∷ cs) = subst (λ (f : Found). f.length ≤ length (c ∷ cs)) is low in
    is ∙ punctuator_longest c cs none first u (omega (arith, p)) short
unnamed_longest c cs (suc k) punctuators none first blank ends u p low =
    let is : plain (c ∷ cs) ≡ record { kind = kinds.Number; length = number_length (c ∷ cs) } =
    rw (no_name c cs first) (first_some (number_length (c ∷ cs)) kinds.Number (first_found (punctuator_length (c ∷ cs)) kinds.Punct (record { kind = kinds.Other; length = 1 })) (omega (arith, u))) in
    let short : number_length (c ∷ cs) ≤ length (c ∷ cs) = subst (λ (f : Found). f.length ≤ length (c ∷ cs)) is low in
    is ∙ number_longest c cs none first (omega (arith, u)) short

plain_longest : (c : ℕ) (cs : List ℕ) → quoted_at (c ∷ cs) ≡ None → is_blank c ≡ false → (c == 10) ≡ false → (plain (c ∷ cs)).length ≤ length (c ∷ cs) → plain (c ∷ cs) ≡ longest_token (c ∷ cs)
unfolding plain
plain_longest c cs none blank ends low = elim (is_nondigit c) as (λ b. is_nondigit c ≡ b → plain (c ∷ cs) ≡ longest_token (c ∷ cs)) [
  | true ↦ λ e.
      let is = first_some (name_length (c ∷ cs)) kinds.Name (first_found (number_length (c ∷ cs)) kinds.Number (first_found (punctuator_length (c ∷ cs)) kinds.Punct (record { kind = kinds.Other; length = 1 }))) (some_name c cs e) in
      let short : name_length (c ∷ cs) ≤ length (c ∷ cs) = subst (λ (f : Found). f.length ≤ length (c ∷ cs)) is low in
      is ∙ name_longest c cs none e short
  | false ↦ λ e. unnamed_longest c cs (number_length (c ∷ cs)) (punctuator_length (c ∷ cs)) none e blank ends refl refl low
] refl

-- the token in front is the longest
front_longest_of : (c : ℕ) (cs : List ℕ) → is_blank c ≡ false → (c == 10) ≡ false → (front (c ∷ cs)).length ≤ length (c ∷ cs) → front (c ∷ cs) ≡ longest_token (c ∷ cs)
unfolding front plain
front_longest_of c cs blank ends low = elim (quoted_at (c ∷ cs)) as (λ o. quoted_at (c ∷ cs) ≡ o → or_plain (quoted_at (c ∷ cs)) (c ∷ cs) ≡ longest_token (c ∷ cs)) [
  | Some found ↦ λ e. rw e (literal_longest (c ∷ cs) found e (let h : (or_plain (Some found) (c ∷ cs)).length ≤ length (c ∷ cs) = (rw e at low) in h))
  | None ↦ λ e. rw e (plain_longest c cs e blank ends (let h : (plain (c ∷ cs)).length ≤ length (c ∷ cs) = (rw e at low) in h))
] refl

pub front_longest : (text : List ℕ) → IsMark text → (front text).length ≤ length text → front text ≡ longest_token text
front_longest [] mark low = absurd (let some : 0 < length (let none : List ℕ = [] in none) = mark.some in omega arith)
front_longest (c ∷ cs) mark low = front_longest_of c cs mark.no_blank mark.no_end low
