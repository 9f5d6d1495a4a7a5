use Rattle.std.proofs.Common.{◌≡◌, ℕ, List, [], ◌∷◌, Option, Some, None, map, option_map, find, cond, true, false, ap, ◌∙◌, refl, rules}
use Rattle.std.specs.Str.{bytes_eq}
use Rattle.c_lexer.specs.declared.keyword.Keyword.{Keyword}
use Rattle.c_lexer.specs.declared.keyword.Spelled.{Spelled}
use Rattle.c_lexer.specs.Keywords.{keywords}
use Rattle.c_lexer.proofs.keyword.read_keyword.Goals as goal

abbrev entry_of : Spelled → List ℕ × Keyword
entry_of entry = (entry.spelling.now, entry.keyword)

find-map : (text : List ℕ) (entries : List Spelled) → option_map entry_of (find (λ (entry : Spelled). bytes_eq entry.spelling.now text) entries) ≡ find (λ (entry : List ℕ × Keyword). bytes_eq entry.0 text) (map entry_of entries)
find-map text [] = refl
find-map text (e ∷ es) =
    elim (bytes_eq e.spelling.now text) as (λ b. option_map entry_of (cond b (Some e) (find (λ (entry : Spelled). bytes_eq entry.spelling.now text) es)) ≡ cond b (Some (entry_of e)) (find (λ (entry : List ℕ × Keyword). bytes_eq entry.0 text) (map entry_of es))) [ true ↦ refl | false ↦ find-map text es ]

pub returns : goal.returns
unfolding keywords
returns c =
    let entry = ap (λ (found : Option Spelled). option_map entry_of found) c.in_ok-found.ensures in
    let listed = rw (find-map c.args.text.now) at entry in
    ap (λ (found : Option (List ℕ × Keyword)). option_map (λ (entry : List ℕ × Keyword). entry.1) found) listed

pub returns-in_err-found : goal.returns-in_err-found
unfolding keywords
returns-in_err-found c =
    let entry = ap (λ (found : Option Spelled). option_map entry_of found) c.in_err-found.ensures in
    let listed = rw (find-map c.args.text.now) at entry in
    let none : c.from_residual.result ≡ None = search rules in
    none ∙ ap (λ (found : Option (List ℕ × Keyword)). option_map (λ (entry : List ℕ × Keyword). entry.1) found) listed
