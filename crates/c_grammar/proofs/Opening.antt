-- What external declarations begin with.
use Rattle.std.proofs.Common.{◌≡◌, Bool, true, false, List, [], ◌∷◌, ◌++◌, Option, refl}
use Rattle.fsc_base.specs.declared.place.Place.{Place}
use Rattle.c_lexer.specs.declared.token.Token.{Token}
use Rattle.c_lexer.specs.declared.token.TokenKind.{TokenKind}
use Rattle.c_lexer.specs.declared.token.TokenKind.TheVariants as kind
use Rattle.c_syntax.specs.declared.expression.Specifier.{Specifier}
use Rattle.c_syntax.specs.declared.expression.Declarator.{Declarator}
use Rattle.c_syntax.specs.declared.expression.Part.{Part}
use Rattle.c_syntax.specs.declared.expression.Pointer.{Pointer}
use Rattle.c_syntax.specs.declared.declaration.Declaration.{Declaration}
use Rattle.c_syntax.specs.declared.unit.External.{External}
use Rattle.c_syntax.specs.declared.unit.Tree.{Tree}
use Rattle.c_grammar.specs.Names.{Scope, Scopes}
use Rattle.c_grammar.specs.Tokens.{Starts}
use Rattle.c_grammar.specs.Trees.{has_type}
use Rattle.c_grammar.specs.Parts.{Manner, Named, has_name, DerivesPointers, one, more}
use Rattle.c_grammar.specs.Repeating.{more as several}
use Rattle.c_grammar.specs.Expressions.{DerivesSpecifier, storage, type, qualifier, alias, record_tag, record_body, enum_tag, enum_body, DerivesSpecifiers, no_specifiers, more_specifiers, DerivesDirect, declared_name, nothing, group, array, sized_array, function, unlisted, listed, DerivesDeclarator, direct, pointers}
use Rattle.c_grammar.specs.Declarations.{DerivesDeclaration, bare, declares}
use Rattle.c_grammar.specs.Units.{function as function_of, DerivesExternal, definition, declaration, Derives, unit}

-- whether there is a token, and the first is not the end
abbrev pub opens : List Token → Bool
opens [] = false
opens (first ∷ rest) = elim first.kind as (λ (x : TokenKind). Bool) [ kind.End ↦ false | _ ↦ true ]

opens_append : (front behind : List Token) → opens front ≡ true → opens (front ++ behind) ≡ true
opens_append [] behind i = cc i
opens_append (first ∷ rest) behind i = i

-- ---- specifiers

of_specifier : (names : Scopes) (tokens : List Token) (s : Specifier) (after : Scopes) → DerivesSpecifier names tokens s after → opens tokens ≡ true
of_specifier _ _ _ _ (storage i) = refl
of_specifier _ _ _ _ (type i) = refl
of_specifier _ _ _ _ (qualifier i) = refl
of_specifier _ _ _ _ (alias i) = refl
of_specifier _ _ _ _ (record_tag i) = refl
of_specifier _ _ _ _ (record_body q r i a b) = refl
of_specifier _ _ _ _ enum_tag = refl
of_specifier _ _ _ _ (enum_body q r a b) = refl

-- where there are none, what stands behind them is first
of_specifiers : (allows_storage typed : Bool) (names : Scopes) (tokens : List Token) (specifiers : List Specifier) (after : Scopes) (behind : List Token)
    → DerivesSpecifiers allows_storage typed names tokens specifiers after → opens behind ≡ true → opens (tokens ++ behind) ≡ true
of_specifiers _ _ _ _ _ _ behind no_specifiers i = i
of_specifiers _ _ _ _ _ _ behind (more_specifiers {allows_storage} {typed} {names} {between} {after} {tokens} {rest} {s} {others} a is b) i =
    opens_append (tokens ++ rest) behind (opens_append tokens rest (of_specifier names tokens s between a))

-- where one is there, it is first
of_some : (allows_storage typed : Bool) (names : Scopes) (tokens : List Token) (specifiers : List Specifier) (after : Scopes) (place : Place)
    → DerivesSpecifiers allows_storage typed names tokens specifiers after → Starts tokens place → opens tokens ≡ true
of_some _ _ _ _ _ _ place no_specifiers i = absurd i
of_some _ _ _ _ _ _ place (more_specifiers {allows_storage} {typed} {names} {between} {after} {tokens} {rest} {s} {others} a is b) i =
    opens_append tokens rest (of_specifier names tokens s between a)

-- ---- declarators with a name

of_direct : (manner : Manner) (names : Scopes) (tokens : List Token) (parts : List Part) (around : Option Scope) (after : Scopes)
    → DerivesDirect manner names tokens parts around after → has_name manner ≡ true → opens tokens ≡ true
of_direct _ _ _ _ _ _ (declared_name i) n = refl
of_direct _ _ _ _ _ _ nothing n = cc n
of_direct _ _ _ _ _ _ (group q i d) n = refl
of_direct _ _ _ _ _ _ (array {manner} {names} {after} {tokens} {parts} {around} p q d) n = opens_append tokens _ (of_direct manner names tokens parts around after d n)
of_direct _ _ _ _ _ _ (sized_array {manner} {names} {between} {after} {tokens} {size} {parts} {around} {e} p q d a) n = opens_append tokens _ (of_direct manner names tokens parts around between d n)
of_direct _ _ _ _ _ _ (function {manner} {names} {between} {after} {tokens} {list} {end} {parts} {around} p q d a b) n = opens_append tokens _ (of_direct manner names tokens parts around between d n)
of_direct _ _ _ _ _ _ (unlisted {manner} {names} {after} {tokens} {parts} {around} p q d) n = opens_append tokens _ (of_direct manner names tokens parts around after d n)
of_direct _ _ _ _ _ _ (listed {manner} {names} {after} {tokens} {list} {parts} {around} p q i d a) n = opens_append tokens _ (of_direct manner names tokens parts around after d n)

of_pointers : (tokens : List Token) (stars : List Pointer) → DerivesPointers tokens stars → opens tokens ≡ true
of_pointers _ _ (one a) = refl
of_pointers _ _ (more a b) = refl

of_declarator : (manner : Manner) (names : Scopes) (tokens : List Token) (declarator : Declarator) (around : Option Scope) (after : Scopes)
    → DerivesDeclarator manner names tokens declarator around after → has_name manner ≡ true → opens tokens ≡ true
of_declarator _ _ _ _ _ _ (direct {manner} {names} {after} {tokens} {parts} {around} place d i) n = of_direct manner names tokens parts around after d n
of_declarator _ _ _ _ _ _ (pointers {manner} {names} {after} {stars} {tokens} {pointers = list} place a d i) n = opens_append stars tokens (of_pointers stars list a)

-- ---- external declarations

of_declaration : (names : Scopes) (tokens : List Token) (d : Declaration) (after : Scopes) → DerivesDeclaration names tokens d after → opens tokens ≡ true
of_declaration _ _ _ _ (bare {names} {after} {list} {specifiers} {place} p a i) = opens_append list _ (of_some true false names list specifiers after place a i)
of_declaration _ _ _ _ (declares {names} {between} {after} {list} {behind} {specifiers} {inits} {place} p a b i) = opens_append list _ (of_some true false names list specifiers between place a i)

of_external : (names : Scopes) (tokens : List Token) (x : External) (after : Scopes) → DerivesExternal names tokens x after → opens tokens ≡ true
of_external _ _ _ _ (declaration {names} {after} {tokens} {d} a) = of_declaration names tokens d after a
of_external _ _ _ _ (definition (function_of {names} {first} {second} {third} {after} {list} {tokens} {old} {block} {specifiers} {declarator} {around} a d b e i)) =
    of_specifiers true false names list specifiers first _ a (opens_append tokens _ (of_declarator (Named (has_type specifiers)) first tokens declarator around second d refl))

-- no tree derives from the end alone, whatever stands behind it
pub opens_unit : (tokens : List Token) (tree : Tree) → Derives tokens tree → opens tokens ≡ true
opens_unit _ _ (unit p (several {names} {between} {after} {tokens} {rest} {x} {others} a b)) =
    opens_append (tokens ++ rest) _ (opens_append tokens rest (of_external names tokens x between a))
