-- The entries of a table of files, by the bytes of their names.
use Rattle.std.specs.Prelude.{ℕ, List, map}
use Rattle.std.specs.declared.alloc.Global.{Global}
use Rattle.std.specs.declared.vec.Vec.{Vec}

-- each name as its bytes
abbrev pub named : List (Vec ℕ Global × List ℕ) → List (List ℕ × List ℕ)
named entries = map (λ entry. (entry.0.items, entry.1)) entries
