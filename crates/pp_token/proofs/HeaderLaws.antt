-- The header name that is read from left to right is the longest.
use Rattle.std.proofs.Common.{◌≡◌, ℕ, zero, suc, ◌+◌, ◌<◌, ◌≤◌, ◌==◌, Bool, true, false, ◌&&◌, cond, List, [], ◌∷◌, length, take, Option, Some, None, refl, sym, ap, ◌∙◌, subst, inl, inr, arith}
use Rattle.std.proofs.lemmas.Bool.{eqb-true}
use Rattle.pp_token.specs.declared.token.PpKind.TheVariants as kinds
use Rattle.pp_token.specs.declared.spelling.Found.{Found}
use Rattle.pp_token.specs.Spelling.{is_empty, is_delimited, is_header, longest, longest_header}
use Rattle.pp_token.specs.Scanning.{further, header_rest, header_found, header_at}
use Rattle.pp_token.proofs.LongestLaws.{not_true, both, one_of, or_true, and_true, some_more, empty_taken, further_parts}
use Rattle.pp_token.proofs.FrontLaws.{same_found}
use Rattle.pp_token.proofs.TokenLaws.{longest_is}

delimited_step : (ends closes some : Bool) (k : ℕ) (cs : List ℕ) (rest : Bool) (found : Option ℕ) → k ≤ length cs → cond ends false (cond closes (some && is_empty (take k cs)) rest) ≡ true → (rest ≡ true → found ≡ Some k) → cond ends None (cond closes (cond some (Some 1) None) (further 1 found)) ≡ Some (suc k)
delimited_step true closes some k cs rest found low e f = cc
delimited_step false true true k cs rest found low e f = rw (empty_taken k cs low e) refl
delimited_step false true false k cs rest found low e f = cc
delimited_step false false some k cs rest found low e f = rw (f e) (some_more k)

delimited_within : (close : ℕ) (some : Bool) (k : ℕ) (cs : List ℕ) → k ≤ length cs → is_delimited close some (take k cs) ≡ true → header_rest close some cs ≡ Some k
delimited_within close some zero cs low e = cc
delimited_within close some (suc k) [] low e = cc
delimited_within close some (suc k) (c ∷ cs) low e =
    delimited_step (c == 10) (c == close) some k cs (is_delimited close true (take k cs)) (header_rest close true cs) (omega arith) e (λ f. delimited_within close true k cs (omega arith) f)

delimits_step : (ends closes some : Bool) (k : ℕ) (found : Option ℕ) (cs : List ℕ) (rest : ℕ → Bool) → cond ends None (cond closes (cond some (Some 1) None) (further 1 found)) ≡ Some k → ((j : ℕ) → found ≡ Some j → rest j ≡ true) → (j : ℕ) × (k ≡ suc j) × (cond ends false (cond closes (some && is_empty (take j cs)) (rest j)) ≡ true)
delimits_step true closes some k found cs rest e f = cc
delimits_step false true true k found cs rest e f = (0, (let same : k ≡ 1 = cc in omega arith), refl)
delimits_step false true false k found cs rest e f = cc
delimits_step false false some k found cs rest e f = let parts = further_parts k found e in (parts.0, parts.2, f parts.0 parts.1)

delimited_prefix : (close : ℕ) (some : Bool) (k : ℕ) (cs : List ℕ) → header_rest close some cs ≡ Some k → is_delimited close some (take k cs) ≡ true
delimited_prefix close some k [] e = cc
delimited_prefix close some k (c ∷ cs) e =
    let it = delimits_step (c == 10) (c == close) some k (header_rest close true cs) cs (λ j. is_delimited close true (take j cs)) e (λ j f. delimited_prefix close true j cs f) in
    rw it.1 it.2

abbrev header_of : ℕ → Found
header_of n = record { kind = kinds.Header; length = n }

-- what is a header name is found
header_within : (k : ℕ) (text : List ℕ) → k ≤ length text → is_header (take k text) ≡ true → header_at text ≡ Some (header_of k)
unfolding is_header header_at
header_within zero text low e = cc
header_within (suc k) [] low e = cc
header_within (suc k) (c ∷ cs) low e = elim (one_of (c == 60 && is_delimited 62 false (take k cs)) (c == 34 && is_delimited 34 false (take k cs)) e) [
  | inl angle ↦
      let parts = both (c == 60) (is_delimited 62 false (take k cs)) angle in
      rw (parts.0, delimited_within 62 false k cs (omega arith) parts.1) (ap (λ (n : ℕ). Some (header_of n)) (omega arith))
  | inr quote ↦
      let parts = both (c == 34) (is_delimited 34 false (take k cs)) quote in
      let same : c ≡ 34 = eqb-true c 34 parts.0 in
      rw (same, delimited_within 34 false k cs (omega arith) parts.1) (ap (λ (n : ℕ). Some (header_of n)) (omega arith))
]

-- what is found is a header name
record IsFound (text : List ℕ) (found : Found) : Type 0 where
  kind : found ≡ header_of found.length
  some : 0 < found.length
  header : is_header (take found.length text) ≡ true

found_parts : (rest : Option ℕ) (found : Found) → header_found rest ≡ Some found → (n : ℕ) × (rest ≡ Some n) × (header_of (suc n) ≡ found)
found_parts None found e = cc
found_parts (Some n) found e = (n, refl, ap header_of (omega arith) ∙ same_found (header_of (1 + n)) found e)

found_with : (text : List ℕ) (n : ℕ) (found : Found) → header_of (suc n) ≡ found → is_header (take (suc n) text) ≡ true → IsFound text found
found_with text n found e is = subst (IsFound text) e (record { kind = refl; some = omega arith; header = is })

found_by : (angle quote : Bool) (c : ℕ) (cs : List ℕ) (found : Found) → (c == 60) ≡ angle → (c == 34) ≡ quote → cond angle (header_found (header_rest 62 false cs)) (cond quote (header_found (header_rest 34 false cs)) None) ≡ Some found → IsFound (c ∷ cs) found
unfolding is_header
found_by true quote c cs found e f h =
    let parts = found_parts (header_rest 62 false cs) found h in
    found_with (c ∷ cs) parts.0 found parts.2 (rw (e, delimited_prefix 62 false parts.0 cs parts.1) refl)
found_by false true c cs found e f h =
    let parts = found_parts (header_rest 34 false cs) found h in
    found_with (c ∷ cs) parts.0 found parts.2 (or_true (c == 60 && is_delimited 62 false (take parts.0 cs)) (c == 34 && is_delimited 34 false (take parts.0 cs)) (and_true (c == 34) (is_delimited 34 false (take parts.0 cs)) f (delimited_prefix 34 false parts.0 cs parts.1)))
found_by false false c cs found e f h = cc

is_found : (text : List ℕ) (found : Found) → header_at text ≡ Some found → IsFound text found
unfolding header_at
is_found [] found e = cc
is_found (c ∷ cs) found e = found_by (c == 60) (c == 34) c cs found refl refl e

none_longest : (test : List ℕ → Bool) (m : ℕ) (text : List ℕ) → ((k : ℕ) → k ≤ m → test (take k text) ≡ false) → longest test m text ≡ 0
none_longest test zero text none = refl
none_longest test (suc m) text none = rw (none (suc m) (omega arith)) (none_longest test m text (λ k low. none k (omega arith)))

pub header_none : (text : List ℕ) → header_at text ≡ None → longest_header text ≡ None
unfolding longest_header
header_none text e =
    rw (none_longest is_header (length text) text (λ k low. not_true (is_header (take k text)) (λ f. let h : header_at text ≡ Some (header_of k) = header_within k text low f in absurd (cc)))) refl

some_test : (n : ℕ) → 0 < n → (n == 0) ≡ false
some_test n some = not_true (n == 0) (λ e. let h : n ≡ 0 = eqb-true n 0 e in absurd (omega arith))

pub header_longest : (text : List ℕ) (found : Found) → header_at text ≡ Some found → found.length ≤ length text → longest_header text ≡ Some found
unfolding longest_header
header_longest text found e low =
    let is = is_found text found e in
    let most : longest is_header (length text) text ≡ found.length = longest_is is_header found.length (length text) text is.some low is.header
    (λ k more low'. not_true (is_header (take k text)) (λ f.
    let h : header_at text ≡ Some (header_of k) = header_within k text low' f in
    let same : header_of k ≡ found = same_found (header_of k) found (sym h ∙ e) in
    let long : k ≡ found.length = ap (λ (x : Found). x.length) same in
    absurd (omega arith))) in
    rw (most, some_test found.length is.some) (ap (λ (x : Found). Some x) (sym is.kind))
