-- Taking preprocessing tokens one after the other.
use Rattle.std.proofs.Common.{◌≡◌, ℕ, suc, ◌+◌, ◌<◌, ◌≤◌, ◌⊎◌, List, [], ◌∷◌, ◌++◌, length, drop, get_or, Option, Some, None, Result, Ok, Err, inl, inr, refl, sym, ap, subst, ◌∙◌, append_assoc, arith}
use Rattle.std.specs.Prelude.{IfOk}
use Rattle.std.proofs.lemmas.List.{append-nil}
use Rattle.std.proofs.Math.ListN.{drop_of_length-le}
use Rattle.std.proofs.Math.Seq.{drop-cons}
use Rattle.fsc_base.specs.declared.place.Place.{Place}
use Rattle.fsc_base.specs.declared.place.Broken.{Broken}
use Rattle.fsc_base.specs.declared.place.Refused.{Refused}
use Rattle.fsc_base.specs.declared.place.Refused.TheVariants as refusals
use Rattle.pp_token.specs.declared.token.PpKind.{PpKind}
use Rattle.pp_token.specs.declared.token.PpKind.TheVariants as pp
use Rattle.pp_token.specs.declared.token.PpToken.{PpToken}
use Rattle.c_lexer.specs.declared.keyword.Keyword.{Keyword as Word}
use Rattle.c_lexer.specs.declared.lexing.Lexer.{Lexer}
use Rattle.c_lexer.specs.declared.lexing.OpenString.{OpenString}
use Rattle.c_lexer.specs.declared.punctuator.Punctuator.{Punctuator}
use Rattle.c_lexer.specs.declared.token.TokenKind.{TokenKind}
use Rattle.c_lexer.specs.declared.token.TokenKind.TheVariants.{Name, Keyword, Int, Char, Str, Punct, End}
use Rattle.c_lexer.specs.declared.token.Token.{Token}
use Rattle.c_lexer.specs.Keywords.{keyword_of}
use Rattle.c_lexer.specs.Numbers.{Integer, integer_of}
use Rattle.c_lexer.specs.Punctuators.{punctuator_of}
use Rattle.c_lexer.specs.Lexing.{named, numbered, punctuated, kind_of, string_of, string_at, joined_with, joined, with_token, tokens_of, Has, IsLong, HasBreak, HasLong, Lexed, EndsWith, IsPpEnd, IsEnd}
use Rattle.c_lexer.specs.Answers.{IsUnbroken, IsBreak, IsSingle, IsRefusal, IsBegun, behind, whole, AreShort, IsLongAt, Took, Stops, finished}
use Rattle.c_lexer.proofs.RowLaws.{unbroken}

-- ---- some element

has_left : {X : Type 0} (P : X → Type 0) (xs ys : List X) → Has P xs → Has P (xs ++ ys)
has_left P [] ys h = elim h [ ]
has_left P (x ∷ xs) ys (inl h) = inl h
has_left P (x ∷ xs) ys (inr h) = inr (has_left P xs ys h)

has_right : {X : Type 0} (P : X → Type 0) (xs ys : List X) → Has P ys → Has P (xs ++ ys)
has_right P [] ys h = h
has_right P (x ∷ xs) ys h = inr (has_right P xs ys h)

has_parts : {X : Type 0} (P : X → Type 0) (xs ys : List X) → Has P (xs ++ ys) → Has P xs ⊎ Has P ys
has_parts P [] ys h = inr h
has_parts P (x ∷ xs) ys (inl h) = inl (inl h)
has_parts P (x ∷ xs) ys (inr h) = elim (has_parts P xs ys h) [ inl left ↦ inl (inr left) | inr right ↦ inr right ]

-- ---- strings that are joined

joined_twice_with : (a b : List ℕ) (p q : Place) (kind : TokenKind) (next : Token) (rest : List Token) → joined a p (joined_with b q kind next rest) ≡ joined_with (a ++ b) p kind next rest
joined_twice_with a b p q (Name n) next rest = refl
joined_twice_with a b p q (Keyword k) next rest = refl
joined_twice_with a b p q (Int v t) next rest = refl
joined_twice_with a b p q (Char v) next rest = refl
joined_twice_with a b p q (Str more) next rest = ap (λ (bytes : List ℕ). string_at bytes p ∷ rest) (sym (append_assoc a b more))
joined_twice_with a b p q (Punct s) next rest = refl
joined_twice_with a b p q End next rest = refl

joined_twice : (a b : List ℕ) (p q : Place) (rest : List Token) → joined a p (joined b q rest) ≡ joined (a ++ b) p rest
joined_twice a b p q [] = refl
joined_twice a b p q (next ∷ rest) = joined_twice_with a b p q next.kind next rest

-- no string
abbrev IsOther : TokenKind → Type 0
IsOther (Str bytes) = ⊥
IsOther _ = Unit {0}

before_other : (a : List ℕ) (p : Place) (kind : TokenKind) (next : Token) (rest : List Token) → IsOther kind → joined_with a p kind next rest ≡ string_at a p ∷ next ∷ rest
before_other a p (Name n) next rest other = refl
before_other a p (Keyword k) next rest other = refl
before_other a p (Int v t) next rest other = refl
before_other a p (Char v) next rest other = refl
before_other a p (Str more) next rest other = absurd other
before_other a p (Punct s) next rest other = refl
before_other a p End next rest other = refl

named_other : (text : List ℕ) (found : Option Word) → IsOther (named text found)
named_other text None = tt
named_other text (Some keyword) = tt

numbered_other : (found : Option Integer) → IsOther (numbered found)
numbered_other None = tt
numbered_other (Some constant) = tt

punctuated_other : (found : Option Punctuator) → IsOther (punctuated found)
punctuated_other None = tt
punctuated_other (Some punctuator) = tt

single_other : (kind : PpKind) (text : List ℕ) → IsSingle kind → IsOther (kind_of kind text)
single_other pp.Header text single = tt
single_other pp.Name text single = named_other text (keyword_of text)
single_other pp.Number text single = numbered_other (integer_of text)
single_other pp.Char text single = tt
single_other pp.Str text single = absurd single
single_other pp.Punct text single = punctuated_other (punctuator_of text)
single_other pp.Other text single = tt
single_other pp.LineEnd text single = absurd single
single_other pp.End text single = tt

abbrev single_token : PpToken → Token
single_token token = record { kind = kind_of token.kind token.text; place = token.place }

with_single : (kind : PpKind) (token : PpToken) (rest : List Token) → IsSingle kind → with_token kind token rest ≡ record { kind = kind_of kind token.text; place = token.place } ∷ rest
with_single pp.Header token rest single = refl
with_single pp.Name token rest single = refl
with_single pp.Number token rest single = refl
with_single pp.Char token rest single = refl
with_single pp.Str token rest single = absurd single
with_single pp.Punct token rest single = refl
with_single pp.Other token rest single = refl
with_single pp.LineEnd token rest single = absurd single
with_single pp.End token rest single = refl

-- what is not finished, before a token that is no string
behind_single : (begun : Option OpenString) (next : Token) (rest : List Token) → IsOther next.kind → behind begun (next ∷ rest) ≡ finished begun ++ next ∷ rest
behind_single None next rest other = refl
behind_single (Some string) next rest other = before_other string.bytes.items string.place next.kind next rest other

behind_end : (begun : Option OpenString) → behind begun [] ≡ finished begun
behind_end None = refl
behind_end (Some string) = refl

-- ---- strings that are not too long

short_append : (xs ys : List Token) → AreShort xs → AreShort ys → AreShort (xs ++ ys)
short_append xs ys short others = λ broken long.
    elim (has_parts (λ (token : Token). (token.place ≡ broken.place) × IsLong token.kind) xs ys long.1) [
      | inl left ↦ short broken (long.0, left)
      | inr right ↦ others broken (long.0, right)
    ]

other_short : (kind : TokenKind) → IsOther kind → IsLong kind → ⊥
other_short (Name n) other long = long
other_short (Keyword k) other long = long
other_short (Int v t) other long = long
other_short (Char v) other long = long
other_short (Str more) other long = other
other_short (Punct s) other long = long
other_short End other long = long

single_short : (token : Token) → IsOther token.kind → AreShort (token ∷ [])
single_short token other = λ broken long. elim long.1 [ inl here ↦ other_short token.kind other here.1 | inr nothing ↦ nothing ]

long_between : (refused : Refused) (xs ys zs : List Token) → IsLongAt refused ys → IsLongAt refused (xs ++ (ys ++ zs))
long_between refusals.NoMemory xs ys zs long = tt
long_between (refusals.Broken broken) xs ys zs long =
    let P : Token → Type 0 = λ token. (token.place ≡ broken.place) × IsLong token.kind in
    (long.0, has_right P xs (ys ++ zs) (has_left P ys zs long.1))

-- ---- one token

pub took_line_end : (lexer : Lexer) (token : PpToken) → token.kind ≡ pp.LineEnd → Took lexer lexer token
took_line_end lexer token is = record {
  moves = λ rest. rw is refl;
  short = λ short. short;
  unbroken = rw is (unbroken pp.LineEnd token.text (λ h. h) (λ h. h) (λ h. h) (λ h. h) (λ h. h));
}

begun_moves : (begun : Option OpenString) (place : Place) (string : OpenString) (bytes : List ℕ) (rest : List Token) → IsBegun begun place string → joined (string.bytes.items ++ bytes) string.place rest ≡ behind begun (joined bytes place rest)
begun_moves None place string bytes rest is =
    rw (is.0, is.1) refl
begun_moves (Some found) place string bytes rest is =
    rw is (sym (joined_twice found.bytes.items bytes found.place place rest))

pub took_string : (old new : Lexer) (token : PpToken) (string longer : OpenString) → token.kind ≡ pp.Str → new.done ≡ old.done → new.unfinished ≡ Some longer → longer.place ≡ string.place → longer.bytes.items ≡ string.bytes.items ++ string_of token.text → IsBegun old.unfinished token.place string → IsUnbroken pp.Str token.text → Took old new token
took_string old new token string longer is kept now place bytes begun good = record {
  moves = λ rest. rw (kept, now, is, place, bytes) (ap (λ (ts : List Token). old.done.items ++ ts) (begun_moves old.unfinished token.place string (string_of token.text) rest begun));
  short = λ short. rw kept short;
  unbroken = rw is good;
}

pub took_single : (old mid new : Lexer) (token : PpToken) (kind : TokenKind) → IsSingle token.kind → (kind ≡ kind_of token.kind token.text) × IsUnbroken token.kind token.text → (mid.unfinished ≡ None) × (mid.done.items ≡ old.done.items ++ finished old.unfinished) × AreShort (finished old.unfinished) → new.unfinished ≡ mid.unfinished → new.done.items ≡ mid.done.items ++ record { kind = kind; place = token.place } ∷ [] → Took old new token
took_single old mid new token kind single is finishes kept pushed =
    let other = single_other token.kind token.text single in
    let next = single_token token in
    let done : new.done.items ≡ (old.done.items ++ finished old.unfinished) ++ next ∷ [] = rw (pushed, finishes.1, is.0) refl in
    let none : new.unfinished ≡ None = kept ∙ finishes.0 in
    record {
      moves = λ rest.
          rw (none, done) (append_assoc (old.done.items ++ finished old.unfinished) (next ∷ []) rest ∙ append_assoc old.done.items (finished old.unfinished) (next ∷ rest)
          ∙ ap (λ (ts : List Token). old.done.items ++ ts) (sym (behind_single old.unfinished next rest other))
          ∙ ap (λ (ts : List Token). old.done.items ++ behind old.unfinished ts) (sym (with_single token.kind token rest single)));
      short = λ short. rw done (short_append (old.done.items ++ finished old.unfinished) (next ∷ []) (short_append old.done.items (finished old.unfinished) short finishes.2) (single_short next other));
      unbroken = is.1;
    }

pub stops_long : (old : Lexer) (token : PpToken) (refused : Refused) → IsSingle token.kind → IsLongAt refused (finished old.unfinished) → Stops old token refused
stops_long old token refused single long =
    let next = single_token token in
    inr (λ rest.
    let is : whole old (with_token token.kind token rest) ≡ old.done.items ++ (finished old.unfinished ++ next ∷ rest) =
    ap (λ (ts : List Token). old.done.items ++ behind old.unfinished ts) (with_single token.kind token rest single)
    ∙ ap (λ (ts : List Token). old.done.items ++ ts) (behind_single old.unfinished next rest (single_other token.kind token.text single)) in
    subst (IsLongAt refused) (sym is) (long_between refused old.done.items (finished old.unfinished) (next ∷ rest) long))

-- ---- all tokens

-- these tokens of the list are still to come
pub record SoFar (list rest : List PpToken) (lexer : Lexer) : Type 0 where
  pub are : whole lexer (tokens_of rest) ≡ tokens_of list
  pub short : AreShort lexer.done.items
  pub down : (broken : Broken) → HasBreak broken rest → HasBreak broken list
  pub up : (broken : Broken) → HasBreak broken list → HasBreak broken rest

goes_on : (list rest : List PpToken) (token : PpToken) (old new : Lexer) → SoFar list (token ∷ rest) old → Took old new token → SoFar list rest new
goes_on list rest token old new so_far took = record {
  are = took.moves (tokens_of rest) ∙ so_far.are;
  short = took.short so_far.short;
  down = λ broken has. so_far.down broken (inr has);
  up = λ broken has. elim (so_far.up broken has) [ inl here ↦ absurd (took.unbroken broken.rule here.1) | inr others ↦ others ];
}

is_refusal_long : (refused : Refused) (list : List PpToken) → IsLongAt refused (tokens_of list) → IsRefusal list refused
is_refusal_long refusals.NoMemory list long = tt
is_refusal_long (refusals.Broken broken) list long = inr long

is_refusal_break : (refused : Refused) (list rest : List PpToken) (token : PpToken) → ((broken : Broken) → HasBreak broken (token ∷ rest) → HasBreak broken list) → IsBreak token.kind token.text token.place refused → IsRefusal list refused
is_refusal_break refusals.NoMemory list rest token down breaks = tt
is_refusal_break (refusals.Broken broken) list rest token down breaks = inl (down broken (inl (sym breaks.0, breaks.1)))

ends_early : (list rest : List PpToken) (token : PpToken) (old : Lexer) (refused : Refused) → SoFar list (token ∷ rest) old → Stops old token refused → IsRefusal list refused
ends_early list rest token old refused so_far (inl breaks) = is_refusal_break refused list rest token so_far.down breaks
ends_early list rest token old refused so_far (inr long) = is_refusal_long refused list (subst (IsLongAt refused) so_far.are (long (tokens_of rest)))

pub ends_long : (list : List PpToken) (lexer : Lexer) (refused : Refused) → SoFar list [] lexer → IsLongAt refused (finished lexer.unfinished) → IsRefusal list refused
ends_long list lexer refused so_far long =
    let all : lexer.done.items ++ (finished lexer.unfinished ++ []) ≡ tokens_of list =
    ap (λ (ts : List Token). lexer.done.items ++ ts) (append-nil (finished lexer.unfinished) ∙ sym (behind_end lexer.unfinished)) ∙ so_far.are in
    is_refusal_long refused list (subst (IsLongAt refused) all (long_between refused lexer.done.items (finished lexer.unfinished) [] long))

pub ends : (list : List PpToken) (lexer new : Lexer) → SoFar list [] lexer → (new.unfinished ≡ None) × (new.done.items ≡ lexer.done.items ++ finished lexer.unfinished) × AreShort (finished lexer.unfinished) → Lexed list new.done.items
ends list lexer new so_far finishes =
    let are : new.done.items ≡ tokens_of list = finishes.1 ∙ ap (λ (ts : List Token). lexer.done.items ++ ts) (sym (behind_end lexer.unfinished)) ∙ so_far.are in
    record {
      are = are;
      unbroken = λ broken has. elim has [
        | inl breaks ↦ so_far.up broken breaks
        | inr long ↦ short_append lexer.done.items (finished lexer.unfinished) so_far.short finishes.2 broken (subst (λ (ts : List Token). HasLong broken ts) (sym are ∙ finishes.1) long)
      ];
    }

pub starts : (list : List PpToken) (lexer : Lexer) → lexer.done.items ≡ [] → lexer.unfinished ≡ None → SoFar list list lexer
starts list lexer none finished = record {
  are = rw (none, finished) refl;
  short = rw none (λ broken long. long.1);
  down = λ broken has. has;
  up = λ broken has. has;
}

-- ---- where the loop stands

next_token : (list : List PpToken) (i : ℕ) (token : PpToken) → i < length list → token ≡ get_or list i token → drop i list ≡ token ∷ drop (i + 1) list
next_token list i token lt is =
    let more : i + 1 ≡ suc i = omega arith in
    drop-cons list i token lt ∙ ap (λ (x : PpToken). x ∷ drop (suc i) list) (sym is) ∙ ap (λ (n : ℕ). token ∷ drop n list) (sym more)

pub goes_on_at : (list items : List PpToken) (i : ℕ) (token : PpToken) (old new : Lexer) → items ≡ list → i < length items → token ≡ get_or items i token → SoFar list (drop i list) old → Took old new token → SoFar list (drop (i + 1) list) new
goes_on_at list items i token old new same lt is so_far took =
    let next = next_token list i token (rw (← same) lt) (rw (← same) is) in
    goes_on list (drop (i + 1) list) token old new (subst (λ (rest : List PpToken). SoFar list rest old) next so_far) took

pub ends_early_at : (list items : List PpToken) (i : ℕ) (token : PpToken) (old : Lexer) (refused : Refused) → items ≡ list → i < length items → token ≡ get_or items i token → SoFar list (drop i list) old → Stops old token refused → IsRefusal list refused
ends_early_at list items i token old refused same lt is so_far stops =
    let next = next_token list i token (rw (← same) lt) (rw (← same) is) in
    ends_early list (drop (i + 1) list) token old refused (subst (λ (rest : List PpToken). SoFar list rest old) next so_far) stops

pub all_taken : (list items : List PpToken) (i : ℕ) (lexer : Lexer) → items ≡ list → length items ≤ i → SoFar list (drop i list) lexer → SoFar list [] lexer
all_taken list items i lexer same le so_far =
    subst (λ (rest : List PpToken). SoFar list rest lexer) (drop_of_length-le list (rw (← same) le)) so_far

-- ---- the last token

ends_cons : {X : Type 0} (P : X → Type 0) (x : X) (xs : List X) → EndsWith P xs → EndsWith P (x ∷ xs)
ends_cons P x xs ends = (x ∷ ends.0, ends.1, ap (λ ys. x ∷ ys) ends.2, ends.3)

joined_ends : (bytes : List ℕ) (place : Place) (front : List Token) (last : Token) → IsEnd last → EndsWith IsEnd (joined bytes place (front ++ last ∷ []))
joined_ends bytes place [] last is =
    let apart : joined bytes place (last ∷ []) ≡ string_at bytes place ∷ last ∷ [] = rw is refl in (string_at bytes place ∷ [], last, apart, is)
joined_ends bytes place (next ∷ front) last is = by next.kind
  where
    plain : EndsWith IsEnd (string_at bytes place ∷ next ∷ (front ++ last ∷ []))
    plain = (string_at bytes place ∷ next ∷ front, last, refl, is)

    by : (kind : TokenKind) → EndsWith IsEnd (joined_with bytes place kind next (front ++ last ∷ []))
    by (Name n) = plain
    by (Keyword k) = plain
    by (Int v t) = plain
    by (Char v) = plain
    by (Str more) = (string_at (bytes ++ more) place ∷ front, last, refl, is)
    by (Punct s) = plain
    by End = plain

with_token_ends : (kind : PpKind) (token : PpToken) (rest : List Token) → EndsWith IsEnd rest → EndsWith IsEnd (with_token kind token rest)
with_token_ends pp.Header token rest ends = ends_cons IsEnd _ rest ends
with_token_ends pp.Name token rest ends = ends_cons IsEnd _ rest ends
with_token_ends pp.Number token rest ends = ends_cons IsEnd _ rest ends
with_token_ends pp.Char token rest ends = ends_cons IsEnd _ rest ends
with_token_ends pp.Str token rest ends =
    subst (λ (ts : List Token). EndsWith IsEnd (joined (string_of token.text) token.place ts)) (sym ends.2) (joined_ends (string_of token.text) token.place ends.0 ends.1 ends.3)
with_token_ends pp.Punct token rest ends = ends_cons IsEnd _ rest ends
with_token_ends pp.Other token rest ends = ends_cons IsEnd _ rest ends
with_token_ends pp.LineEnd token rest ends = ends
with_token_ends pp.End token rest ends = ends_cons IsEnd _ rest ends

last_is_end : (front : List PpToken) (last : PpToken) → last.kind ≡ pp.End → EndsWith IsEnd (tokens_of (front ++ last ∷ []))
last_is_end [] last is = rw is ([], record { kind = End; place = last.place }, refl, refl)
last_is_end (token ∷ front) last is = with_token_ends token.kind token (tokens_of (front ++ last ∷ [])) (last_is_end front last is)

pub tokens_end : (list : List PpToken) (tokens : List Token) → Lexed list tokens → EndsWith IsPpEnd list → EndsWith IsEnd tokens
tokens_end list tokens lexed ends =
    subst (EndsWith IsEnd) (sym lexed.are) (subst (λ (ts : List PpToken). EndsWith IsEnd (tokens_of ts)) (sym ends.2) (last_is_end ends.0 ends.1 ends.3))

pub all_end : (list : List PpToken) (r : Result (List Token) Refused) → IfOk r (λ tokens. Lexed list tokens) → EndsWith IsPpEnd list → IfOk r (λ tokens. EndsWith IsEnd tokens)
all_end list (Ok tokens) lexed ends = tokens_end list tokens lexed ends
all_end list (Err refused) lexed ends = lexed

pub one_list : (list : List PpToken) (tokens others : List Token) → Lexed list tokens → Lexed list others → tokens ≡ others
one_list list tokens others a b = a.are ∙ sym b.are
