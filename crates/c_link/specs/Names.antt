-- Names with external linkage (C90 6.1.2.2): what declares, defines and uses them.
use Rattle.std.specs.Prelude.{ℕ, ◌&&◌, Bool, true, false, List}
use Rattle.std.specs.List.{list_any}
use Rattle.std.specs.Str.{bytes_eq}
use Rattle.c_ops.specs.declared.linkage.Linkage.{Linkage}
use Rattle.c_ops.specs.declared.linkage.Linkage.TheVariants.{External, Internal}
use Rattle.c_ops.specs.declared.linkage.Definition.{Definition}
use Rattle.c_ops.specs.declared.linkage.Definition.TheVariants.{Missing, Function, Object}
use Rattle.c_link.specs.Views.{LinkSymbol, LinkView}

abbrev pub is_external : Linkage → Bool
is_external External = true
is_external Internal = false

abbrev pub is_defined : Definition → Bool
is_defined Missing = false
is_defined (Function i) = true
is_defined (Object i) = true

abbrev pub is_function : Definition → Bool
is_function (Function i) = true
is_function (Object i) = false
is_function Missing = false

-- the symbol is this name, with external linkage
abbrev pub names : (name : List ℕ) → LinkSymbol → Bool
names name symbol = is_external symbol.linkage && bytes_eq symbol.name name

-- it is the name, and defined
abbrev pub is_definition_of : (name : List ℕ) → LinkSymbol → Bool
is_definition_of name symbol = names name symbol && is_defined symbol.definition

-- the unit defines the name with external linkage
abbrev pub defines : (name : List ℕ) → LinkView → Bool
defines name unit = list_any (is_definition_of name) unit.symbols

-- the unit defines it as a function
abbrev pub defines_function : (name : List ℕ) → LinkView → Bool
defines_function name unit = list_any (λ (symbol : LinkSymbol). names name symbol && is_function symbol.definition) unit.symbols

-- the unit uses it
abbrev pub uses : (name : List ℕ) → LinkView → Bool
uses name unit = list_any (λ (symbol : LinkSymbol). names name symbol && symbol.is_used) unit.symbols
