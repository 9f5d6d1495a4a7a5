-- Tokens: what is read stands there, and what stands there is read.
use Rattle.std.proofs.Common.{◌≡◌, Bool, true, false, cond, ltb, ℕ, ◌-◌, ◌<◌, ◌≤◌, List, [], ◌∷◌, ◌++◌, length, take, drop, Option, Some, None, refl, sym, ap, ◌∙◌, arith, All}
use Rattle.std.specs.List.{prefix_len, AllByRecursion, AllPass}
use Rattle.std.specs.Str.{bytes_eq}
use Rattle.std.proofs.lemmas.Bool.Decides.{nat_tests}
use Rattle.std.proofs.lemmas.List.{take-append-drop, length-append, length-take, get_or-take, take_at, drop_at}
use Rattle.std.proofs.lemmas.List.Elements.{All-head, All-tail, All-from_get_or, All-weaker}
use Rattle.std.proofs.lemmas.List.Sums.{prefix_len_passes}
use Rattle.std.proofs.lemmas.Option.{cond_some, none-some, same_Some}
use Rattle.std.proofs.lemmas.Bool.{ltb-false, le-ltb}
use Rattle.std.proofs.lemmas.Slice.Eq.{bytes_eq-Decides}
use Rattle.plain_text.specs.Program.{IsBlank, Token, Spells}
use Rattle.plain_text.specs.Reading.{◌>>=◌, is_blank, skipped, behind, token_at, tokens_at}

-- ---- blanks

blank_is : (c : ℕ) → is_blank c ≡ true → IsBlank c
blank_is c e = grind (arith, nat_tests)

is_blank_from : (c : ℕ) → IsBlank c → is_blank c ≡ true
is_blank_from c blank = grind (arith, nat_tests)

-- what passes in front
pub prefix_passes : (p : ℕ → Bool) (xs : List ℕ) → AllPass p (take (prefix_len p xs) xs)
prefix_passes p xs = All-from_get_or (λ x. p x ≡ true) (take (prefix_len p xs) xs) 0 (λ i lt.
    let short : i < prefix_len p xs = omega (arith, lt, length-take (prefix_len p xs) xs) in
    rw (get_or-take (prefix_len p xs) xs i 0 short) (prefix_len_passes p xs i 0 short))

pub prefix_len-append : (p : ℕ → Bool) (xs ys : List ℕ) → AllPass p xs → prefix_len p ys ≡ 0 → prefix_len p (xs ++ ys) ≡ length xs
prefix_len-append p [] ys all none = none
prefix_len-append p (x ∷ xs) ys all none =
    let first : p x ≡ true = All-head (λ x. p x ≡ true) x xs all in
    rw first (omega (arith, prefix_len-append p xs ys (All-tail (λ x. p x ≡ true) x xs all) none))

pub skipped_takes : (text : List ℕ) → (blanks : List ℕ) × (text ≡ blanks ++ skipped text) × All IsBlank blanks
unfolding skipped
skipped_takes text =
    let all = All-weaker (λ c. is_blank c ≡ true) IsBlank blank_is _ (prefix_passes is_blank text) in
    (take (prefix_len is_blank text) text, sym (take-append-drop (prefix_len is_blank text) text), all)

pub skipped_again : (blanks rest : List ℕ) → All IsBlank blanks → prefix_len is_blank rest ≡ 0 → skipped (blanks ++ rest) ≡ rest
unfolding skipped
skipped_again blanks rest all none =
    let passes = All-weaker IsBlank (λ c. is_blank c ≡ true) is_blank_from blanks all in
    rw (prefix_len-append is_blank blanks rest passes none) (drop_at blanks rest (length blanks) refl)

-- ---- one token

-- the token is in front, with its blanks, and the rest behind them
abbrev pub Stands : Token → List ℕ → List ℕ → Type 0
Stands token text rest = (blanks : List ℕ) × (text ≡ token.spelling ++ (blanks ++ rest)) × All IsBlank blanks × (token.gap ≤ length blanks)

pub spells : (token : Token) (tokens : List Token) (text rest : List ℕ) → Stands token text rest → Spells tokens rest → Spells (token ∷ tokens) text
spells token tokens text rest stands others = (stands.0, rest, stands.1, stands.2, stands.3, others)

pub some_from : {A B : Type 0} (o : Option A) (f : A → Option B) (y : B) → (o >>= f) ≡ Some y → (x : A) × (o ≡ Some x) × (f x ≡ Some y)
some_from None f y e = absurd cc
some_from (Some x) f y e = (x, refl, e)

-- a test that did not stop reading
pub passed : {A : Type 0} (b : Bool) (o : Option A) (y : A) → cond b None o ≡ Some y → (b ≡ false) × (o ≡ Some y)
passed true o y e = absurd cc
passed false o y e = (refl, e)

behind_takes : (spelling text rest : List ℕ) → behind spelling text ≡ Some rest → text ≡ spelling ++ rest
behind_takes spelling text rest e =
    let chosen = cond_some (bytes_eq (take (length spelling) text) spelling) (drop (length spelling) text) rest e in
    let front : take (length spelling) text ≡ spelling = (bytes_eq-Decides (take (length spelling) text) spelling).0 chosen.0 in
    sym (take-append-drop (length spelling) text) ∙ rw (front, chosen.1) refl

behind_again : (spelling rest : List ℕ) → behind spelling (spelling ++ rest) ≡ Some rest
behind_again spelling rest =
    let same : bytes_eq spelling spelling ≡ true = (bytes_eq-Decides spelling spelling).1 refl in
    rw (take_at spelling rest (length spelling) refl, drop_at spelling rest (length spelling) refl, same) refl

pub token_takes : (token : Token) (text rest : List ℕ) → token_at token text ≡ Some rest → Stands token text rest
unfolding token_at
token_takes token text rest e =
    let found = some_from (behind token.spelling text) (λ after. cond (ltb (length after - length (skipped after)) token.gap) None (Some (skipped after))) rest e in
    let after = found.0 in
    let chosen = passed (ltb (length after - length (skipped after)) token.gap) (Some (skipped after)) rest found.2 in
    let same : skipped after ≡ rest = same_Some (skipped after) rest chosen.1 in
    let blanks = skipped_takes after in
    let wide : token.gap ≤ length blanks.0 = omega (arith, ltb-false _ _ chosen.0, ap length blanks.1, length-append blanks.0 (skipped after)) in
    (blanks.0, behind_takes token.spelling text after found.1 ∙ ap (λ (x : List ℕ). token.spelling ++ x) (blanks.1 ∙ ap (λ (x : List ℕ). blanks.0 ++ x) same), blanks.2, wide)

pub token_again : (token : Token) (text rest : List ℕ) → Stands token text rest → prefix_len is_blank rest ≡ 0 → token_at token text ≡ Some rest
unfolding token_at
token_again token text rest stands none =
    let wide : ltb (length (stands.0 ++ rest) - length rest) token.gap ≡ false = le-ltb _ _ (omega (arith, length-append stands.0 rest, stands.3)) in
    rw (stands.1, behind_again token.spelling (stands.0 ++ rest), skipped_again stands.0 rest stands.2 none, wide) refl

-- ---- one token after the other

-- no blank is in front of the token
abbrev pub IsSolid : Token → Type 0
IsSolid token = (others : List ℕ) → prefix_len is_blank (token.spelling ++ others) ≡ 0

abbrev pub AllSolid : List Token → Type 0
AllSolid tokens = AllByRecursion IsSolid tokens

pub solid-append : (tokens more : List Token) → AllSolid tokens → AllSolid more → AllSolid (tokens ++ more)
solid-append [] more solid others = others
solid-append (token ∷ tokens) more solid others = (solid.0, solid-append tokens more solid.1 others)

pub solid_front : (tokens : List Token) (text : List ℕ) → AllSolid tokens → Spells tokens text → prefix_len is_blank text ≡ 0
solid_front [] text solid spelled = rw spelled refl
solid_front (token ∷ tokens) text solid spelled = rw spelled.2 (solid.0 (spelled.0 ++ spelled.1))

found_first : (tokens : List Token) (found : Option (List ℕ)) (rest : List ℕ) → tokens_at tokens found ≡ Some rest → (text : List ℕ) × (found ≡ Some text) × (tokens_at tokens (Some text) ≡ Some rest)
found_first [] found rest e = (rest, e, refl)
found_first (token ∷ tokens) None rest e = let never = found_first tokens None rest e in absurd (none-some never.0 never.1)
found_first (token ∷ tokens) (Some text) rest e = (text, refl, e)

pub tokens_take : (tokens more : List Token) (text rest : List ℕ) → tokens_at tokens (Some text) ≡ Some rest → Spells more rest → Spells (tokens ++ more) text
tokens_take [] more text rest e spelled = let same : text ≡ rest = same_Some text rest e in rw same spelled
tokens_take (token ∷ tokens) more text rest e spelled =
    let first = found_first tokens (token_at token text) rest e in
    spells token (tokens ++ more) text first.0 (token_takes token text first.0 first.1) (tokens_take tokens more first.0 rest first.2 spelled)

pub tokens_again : (tokens more : List Token) (text : List ℕ) → AllSolid tokens → AllSolid more → Spells (tokens ++ more) text → (rest : List ℕ) × (tokens_at tokens (Some text) ≡ Some rest) × Spells more rest
tokens_again [] more text solid others spelled = (text, refl, spelled)
tokens_again (token ∷ tokens) more text solid others spelled =
    let rest = spelled.1 in
    let none = solid_front (tokens ++ more) rest (solid-append tokens more solid.1 others) spelled.5 in
    let first : token_at token text ≡ Some rest = token_again token text rest (spelled.0, spelled.2, spelled.3, spelled.4) none in
    let then = tokens_again tokens more rest solid.1 others spelled.5 in
    (then.0, ap (tokens_at tokens) first ∙ then.1, then.2)
