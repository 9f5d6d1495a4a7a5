use Rattle.std.proofs.Common.{◌≡◌, ℕ, List, [], ◌∷◌, Option, Some, map, option_map, find, cond, true, false, ap, refl}
use Rattle.std.specs.Str.{bytes_eq}
use Rattle.libc_wrap.specs.declared.headers.BuiltIn.{BuiltIn}
use Rattle.libc_wrap.specs.Header.{headers}
use Rattle.libc_wrap.proofs.headers.header.Goals as goal

abbrev entry_of : BuiltIn → List ℕ × List ℕ
entry_of header = (header.name.now, header.text.now)

found-map : (name : List ℕ) (entries : List BuiltIn) → option_map entry_of (find (λ (header : BuiltIn). bytes_eq header.name.now name) entries) ≡ find (λ (entry : List ℕ × List ℕ). bytes_eq entry.0 name) (map entry_of entries)
found-map name [] = refl
found-map name (e ∷ es) =
    elim (bytes_eq e.name.now name) as (λ b. option_map entry_of (cond b (Some e) (find (λ (header : BuiltIn). bytes_eq header.name.now name) es)) ≡ cond b (Some (entry_of e)) (find (λ (entry : List ℕ × List ℕ). bytes_eq entry.0 name) (map entry_of es))) [ true ↦ refl | false ↦ found-map name es ]

pub returns : goal.returns
unfolding headers
returns c =
    let entry = ap (λ (found : Option BuiltIn). option_map entry_of found) c.in_ok-found.ensures in
    let listed = rw (found-map c.as_slice.result.now) at entry in
    rw (← c.as_slice.ensures) (ap (λ (found : Option (List ℕ × List ℕ)). option_map (λ (entry : List ℕ × List ℕ). entry.1) found) listed)
