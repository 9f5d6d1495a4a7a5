-- Which names stand for types. A typedef name is an ordinary identifier (C90 6.5.6, 6.1.2.3): what it stands for is what its
-- innermost visible declaration says (6.1.2.1).
use Rattle.std.specs.Prelude.{ℕ, Bool, false, List, [], ◌∷◌, Option, Some, None, cond}
use Rattle.std.specs.Str.{bytes_eq}
use Rattle.c_syntax.specs.declared.expression.Declarator.{Declarator}
use Rattle.c_syntax.specs.Declarators.{name_of}

-- the declaration of an ordinary identifier: whether it is a typedef
pub record Declared : Type 0 where
  pub name : List ℕ
  pub is_type : Bool

-- what one scope declares, the latest first
abbrev pub Scope : Type 0
Scope = List Declared

-- the scopes that are open, the innermost first
abbrev pub Scopes : Type 0
Scopes = List Scope

-- whether a name stands for a type: as the latest of these declarations of it says, and where none declares it, as outside
abbrev pub type_in : Scope → List ℕ → (outside : Bool) → Bool
type_in [] name outside = outside
type_in (latest ∷ earlier) name outside = cond (bytes_eq latest.name name) latest.is_type (type_in earlier name outside)

-- the same of open scopes; a name that nothing declares stands for none
abbrev pub is_type : Scopes → List ℕ → Bool
is_type [] name = false
is_type (inner ∷ outer) name = type_in inner name (is_type outer name)

-- a name is declared in the innermost scope
abbrev pub declaring : List ℕ → (is_typedef : Bool) → Scopes → Scopes
declaring name is_typedef [] = (record { name = name; is_type = is_typedef } ∷ []) ∷ []
declaring name is_typedef (inner ∷ outer) = (record { name = name; is_type = is_typedef } ∷ inner) ∷ outer

-- what declares nothing leaves the scopes as they are
abbrev pub declaring_one : Option (List ℕ) → (is_typedef : Bool) → Scopes → Scopes
declaring_one None is_typedef names = names
declaring_one (Some name) is_typedef names = declaring name is_typedef names

-- the name of a declarator is declared, where it has one
abbrev pub declaring_by : Declarator → (is_typedef : Bool) → Scopes → Scopes
declaring_by declarator is_typedef names = declaring_one (name_of declarator) is_typedef names
