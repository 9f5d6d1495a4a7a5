-- Words as texts, one by one.
use Rattle.std.proofs.Common.{◌≡◌, ◌∙◌, ◌+◌, ◌<◌, ◌≤◌, ap, ℕ, suc, List, [], ◌∷◌, ◌++◌, map, length, take, Result, Ok, Err, IfErr, IsErrAnd, sym, subst, arith}
use Rattle.std.proofs.Math.Seq.{take-suc}
use Rattle.std.proofs.lemmas.List.{map-append, take_all}
use Rattle.std.proofs.lemmas.List.Elements.{All-push}
use Rattle.std.specs.List.{All, slice_index_or}
use Rattle.std.specs.Str.{IsUtf8}
use Rattle.std.specs.Borrow.{Bor}
use Rattle.clap.specs.Words.{Text}
use Rattle.command_line.specs.declared.refusal.WordsNo.{WordsNo}
use Rattle.command_line.specs.declared.refusal.WordsNo.TheVariants.{Usage}

pub take_more : (words : List Text) (i : ℕ) (word : Text) → i < length words → word ≡ slice_index_or words i word → take (i + 1) words ≡ take i words ++ word ∷ []
take_more words i word lt is =
    let one : i + 1 ≡ suc i = omega arith in
    rw one (take-suc words i word lt ∙ ap (λ (w : Text). take i words ++ w ∷ []) (sym is))

pub texts_more : (words : List Text) (i : ℕ) (word : Text) (texts : List (Bor Text)) (text : Bor Text) → i < length words
    → word ≡ slice_index_or words i word → text.now ≡ word → map (λ t. t.now) texts ≡ take i words → map (λ t. t.now) (texts ++ text ∷ []) ≡ take (i + 1) words
texts_more words i word texts text lt is same so_far =
    map-append (λ (t : Bor Text). t.now) texts (text ∷ []) ∙ ap (λ w. map (λ (t : Bor Text). t.now) texts ++ w ∷ []) same
    ∙ ap (λ front. front ++ word ∷ []) so_far ∙ sym (take_more words i word lt is)

pub utf8_more : (words : List Text) (i : ℕ) (word : Text) → i < length words → word ≡ slice_index_or words i word → IsUtf8 word
    → All IsUtf8 (take i words) → All IsUtf8 (take (i + 1) words)
utf8_more words i word lt is utf8 so_far =
    subst (λ (ws : List Text). All IsUtf8 ws) (sym (take_more words i word lt is)) (All-push IsUtf8 (take i words) word so_far utf8)

pub utf8_all : (words : List Text) (i : ℕ) → length words ≤ i → All IsUtf8 (take i words) → All IsUtf8 words
utf8_all words i past so_far = subst (λ (ws : List Text). All IsUtf8 ws) (take_all i words past) so_far

-- a word that is not UTF-8
pub usage_here : {T : Type 0} (r : Result T WordsNo) (why : WordsNo) (words : List Text) (i : ℕ) (word : Text) → i < length words
    → word ≡ slice_index_or words i word → (why ≡ Usage → IsUtf8 word → ⊥) → IsErrAnd r (λ given. given ≡ why)
    → IfErr r (λ given. given ≡ Usage → All IsUtf8 words → ⊥)
usage_here (Ok x) why words i word lt is bad made = tt
usage_here (Err given) why words i word lt is bad made =
    λ usage all. bad (sym made ∙ usage) (subst IsUtf8 (sym is) (all i word lt))
