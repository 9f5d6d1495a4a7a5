use Rattle.std.proofs.Common.{◌≡◌, ◌<◌, length, get_or, refl, List, ℕ, [], map, sym, Bor}
use Rattle.std.proofs.lemmas.List.{get_or-map}
use Rattle.libc_wrap.specs.declared.library.LibraryUnit.{LibraryUnit}
use Rattle.libc_wrap.specs.Library.{names}
use Rattle.libc_wrap.proofs.library.library_names.Goals as goal

names_at : (units : List LibraryUnit) (k : ℕ) (d : LibraryUnit) → k < length units → map (λ (name : Bor (List ℕ)). name.now) (get_or units k d).names.now ≡ get_or (map (λ (u : LibraryUnit). map (λ (name : Bor (List ℕ)). name.now) u.names.now) units) k []
names_at units k d lt = sym (get_or-map (λ (u : LibraryUnit). map (λ (name : Bor (List ℕ)). name.now) u.names.now) units k d [] lt)

pub returns : goal.returns
unfolding names
returns c = let lt : c.args.k < 37 = c.requires in rw names_at refl
