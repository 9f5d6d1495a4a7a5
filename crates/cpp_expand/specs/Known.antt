-- What is known of the macros that are defined.
use Rattle.std.specs.Prelude.{◌≡◌, ℕ, ℤ, Bool, List, is_some, nat_eq}
use Rattle.std.specs.Cmp.Lexicographic.{pointwise}
use Rattle.indexmap.specs.IndexMap.{get_by}
use Rattle.cpp_expand.specs.declared.macros.Macros.{Macros}

-- whether the name is a macro
abbrev pub is_macro : Macros → List ℕ → Bool
is_macro macros name = is_some (get_by (λ key. pointwise nat_eq name key.items) macros.table)

-- the same macros, the same file and the same shift of lines
pub record SameMacros (before after : Macros) : Type 0 where
  pub table : after.table.entries ≡ before.table.entries
  pub file : after.file ≡ before.file
  pub shift : after.shift ≡ before.shift

-- the same macros, with a file and a shift of lines
pub record Located (name : List ℕ) (add : ℤ) (before after : Macros) : Type 0 where
  pub table : after.table ≡ before.table
  pub file : after.file ≡ name
  pub shift : after.shift ≡ add
