use Rattle.std.proofs.Common.{◌≡◌, ℕ, List, [], ◌∷◌, Option, Some, map, option_map, find, cond, true, false, ap, refl}
use Rattle.std.specs.Str.{bytes_eq}
use Rattle.c_lexer.specs.declared.punctuator.Punctuator.{Punctuator}
use Rattle.c_lexer.specs.declared.punctuator.Spelled.{Spelled}
use Rattle.c_lexer.specs.Punctuators.{punctuators}
use Rattle.c_lexer.proofs.punctuator.read_punctuator.Goals as goal

abbrev entry_of : Spelled → List ℕ × Punctuator
entry_of entry = (entry.spelling.now, entry.punctuator)

find-map : (text : List ℕ) (entries : List Spelled) → option_map entry_of (find (λ (entry : Spelled). bytes_eq entry.spelling.now text) entries) ≡ find (λ (entry : List ℕ × Punctuator). bytes_eq entry.0 text) (map entry_of entries)
find-map text [] = refl
find-map text (e ∷ es) =
    elim (bytes_eq e.spelling.now text) as (λ b. option_map entry_of (cond b (Some e) (find (λ (entry : Spelled). bytes_eq entry.spelling.now text) es)) ≡ cond b (Some (entry_of e)) (find (λ (entry : List ℕ × Punctuator). bytes_eq entry.0 text) (map entry_of es))) [ true ↦ refl | false ↦ find-map text es ]

pub returns : goal.returns
unfolding punctuators
returns c =
    let entry = ap (λ (found : Option Spelled). option_map entry_of found) c.in_ok-found.ensures in
    let listed = rw (find-map c.args.text.now) at entry in
    ap (λ (found : Option (List ℕ × Punctuator)). option_map (λ (entry : List ℕ × Punctuator). entry.1) found) listed
