use Rattle.std.proofs.Common.{◌≡◌, ℕ, ◌<◌, List, [], length, map, get_or, sym, refl}
use Rattle.std.proofs.lemmas.List.{get_or-map}
use Rattle.libc_wrap.specs.declared.library.LibraryUnit.{LibraryUnit}
use Rattle.libc_wrap.specs.Library.{texts}
use Rattle.libc_wrap.proofs.library.library_text.Goals as goal

text_at : (units : List LibraryUnit) (k : ℕ) (d : LibraryUnit) → k < length units → (get_or units k d).text.now ≡ get_or (map (λ (u : LibraryUnit). u.text.now) units) k []
text_at units k d lt = sym (get_or-map (λ (u : LibraryUnit). u.text.now) units k d [] lt)

pub returns : goal.returns
unfolding texts
returns c = let lt : c.args.k < 37 = c.requires in rw text_at refl
