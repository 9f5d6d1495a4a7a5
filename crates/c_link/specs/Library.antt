-- Which units of the library a program gets.
use Rattle.std.specs.Prelude.{ℕ, ◌&&◌, not, Bool, List, ◌++◌, filter}
use Rattle.std.specs.List.{list_any}
use Rattle.c_link.specs.Views.{LinkSymbol, LinkView}
use Rattle.c_link.specs.Names.{is_external, is_defined, defines, uses}

-- a user's unit uses this name, and none defines it
abbrev pub is_wanted : (users : List LinkView) → (name : List ℕ) → Bool
is_wanted users name = list_any (uses name) users && not (list_any (defines name) users)

-- the symbol is defined with external linkage under a name that is wanted
abbrev pub serves : (users : List LinkView) → LinkSymbol → Bool
serves users symbol = is_external symbol.linkage && (is_defined symbol.definition && is_wanted users symbol.name)

-- A unit of the library is added where it defines a wanted name. What it uses itself wants nothing.
abbrev pub is_added : (users : List LinkView) → LinkView → Bool
is_added users unit = list_any (serves users) unit.symbols

-- the units of the library that are added, in its order
abbrev pub added_units : (users library : List LinkView) → List LinkView
added_units users library = filter (is_added users) library

-- all units in link order: the user's, and then those that are added
abbrev pub all_units : (users library : List LinkView) → List LinkView
all_units users library = users ++ added_units users library
