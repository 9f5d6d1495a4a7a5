-- What a declarator declares.
use Rattle.std.specs.Prelude.{ℕ, List, [], ◌∷◌, Option, Some, None}
use Rattle.c_syntax.specs.declared.expression.Declarator.{Declarator, out-Declarator}
use Rattle.c_syntax.specs.declared.expression.Part.{Part, out-Part}
use Rattle.c_syntax.specs.declared.expression.PartForm.{PartForm}
use Rattle.c_syntax.specs.declared.expression.PartForm.TheVariants as form

-- the name of a part, where it is one
abbrev pub plain_name : PartForm → Option (List ℕ)
plain_name (form.Plain name) = Some name
plain_name _ = None

-- the name of the innermost part
abbrev pub innermost_name : List Part → Option (List ℕ)
innermost_name [] = None
innermost_name (part ∷ parts) = plain_name (out-Part part).form

abbrev pub name_of : Declarator → Option (List ℕ)
name_of declarator = innermost_name (out-Declarator declarator).parts
