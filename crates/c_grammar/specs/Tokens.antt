-- Tokens as productions write them, and which operator or keyword of the tree one spells.
use Rattle.std.specs.Prelude.{◌≡◌, ℕ, List, [], ◌∷◌, Option, Some, None}
use Rattle.fsc_base.specs.declared.place.Place.{Place}
use Rattle.c_lexer.specs.declared.token.Token.{Token}
use Rattle.c_lexer.specs.declared.token.TokenKind.{TokenKind}
use Rattle.c_lexer.specs.declared.token.TokenKind.TheVariants as kind
use Rattle.c_lexer.specs.declared.keyword.Keyword.{Keyword}
use Rattle.c_lexer.specs.declared.keyword.Keyword.TheVariants as keyword
use Rattle.c_lexer.specs.declared.punctuator.Punctuator.{Punctuator}
use Rattle.c_lexer.specs.declared.punctuator.Punctuator.TheVariants as punct
use Rattle.c_syntax.specs.declared.operator.Binary.{Binary}
use Rattle.c_syntax.specs.declared.operator.Binary.TheVariants as binary
use Rattle.c_syntax.specs.declared.operator.Unary.{Unary}
use Rattle.c_syntax.specs.declared.operator.Unary.TheVariants as unary
use Rattle.c_syntax.specs.declared.operator.Step.{Step}
use Rattle.c_syntax.specs.declared.operator.Step.TheVariants.{Increment, Decrement}
use Rattle.c_syntax.specs.declared.operator.Storage.{Storage}
use Rattle.c_syntax.specs.declared.operator.Storage.TheVariants as storage
use Rattle.c_syntax.specs.declared.operator.TypeKeyword.{TypeKeyword}
use Rattle.c_syntax.specs.declared.operator.TypeKeyword.TheVariants as type
use Rattle.c_syntax.specs.declared.operator.Qualifier.{Qualifier}
use Rattle.c_syntax.specs.declared.operator.Qualifier.TheVariants.{Const, Volatile}
use Rattle.c_syntax.specs.declared.operator.RecordKind.{RecordKind}
use Rattle.c_syntax.specs.declared.operator.RecordKind.TheVariants.{Struct, Union}

-- ---- tokens

abbrev pub token : TokenKind → Place → Token
token what place = record { kind = what; place = place }

abbrev pub sign : Punctuator → Place → Token
sign punctuator place = token (kind.Punct punctuator) place

abbrev pub word : Keyword → Place → Token
word keyword place = token (kind.Keyword keyword) place

abbrev pub named : List ℕ → Place → Token
named name place = token (kind.Name name) place

-- there are tokens, and the first stands at the place
abbrev pub Starts : List Token → Place → Type 0
Starts [] place = ⊥
Starts (first ∷ rest) place = first.place ≡ place

-- where the first token stands, behind which a token stands at this place
abbrev pub start_before : List Token → Place → Place
start_before [] behind = behind
start_before (first ∷ rest) behind = first.place

-- ---- operators

-- between two operands (C90 6.3.5 to 6.3.14)
unfoldable pub binary_of : Punctuator → Option Binary
binary_of punct.OrOr = Some binary.LogicalOr
binary_of punct.AndAnd = Some binary.LogicalAnd
binary_of punct.Bar = Some binary.Or
binary_of punct.Caret = Some binary.ExclusiveOr
binary_of punct.Ampersand = Some binary.And
binary_of punct.EqualEqual = Some binary.Equal
binary_of punct.NotEqual = Some binary.Unequal
binary_of punct.Less = Some binary.Less
binary_of punct.Greater = Some binary.Greater
binary_of punct.LessEqual = Some binary.NotGreater
binary_of punct.GreaterEqual = Some binary.NotLess
binary_of punct.ShiftLeft = Some binary.ShiftLeft
binary_of punct.ShiftRight = Some binary.ShiftRight
binary_of punct.Plus = Some binary.Add
binary_of punct.Minus = Some binary.Subtract
binary_of punct.Star = Some binary.Multiply
binary_of punct.Slash = Some binary.Divide
binary_of punct.Percent = Some binary.Remainder
binary_of _ = None

-- between the sides of an assignment: = is none of them, and each other one is the operator of a compound one (6.3.16)
unfoldable pub assignment_of : Punctuator → Option (Option Binary)
assignment_of punct.Assign = Some None
assignment_of punct.StarAssign = Some (Some binary.Multiply)
assignment_of punct.SlashAssign = Some (Some binary.Divide)
assignment_of punct.PercentAssign = Some (Some binary.Remainder)
assignment_of punct.PlusAssign = Some (Some binary.Add)
assignment_of punct.MinusAssign = Some (Some binary.Subtract)
assignment_of punct.ShiftLeftAssign = Some (Some binary.ShiftLeft)
assignment_of punct.ShiftRightAssign = Some (Some binary.ShiftRight)
assignment_of punct.AndAssign = Some (Some binary.And)
assignment_of punct.CaretAssign = Some (Some binary.ExclusiveOr)
assignment_of punct.OrAssign = Some (Some binary.Or)
assignment_of _ = None

-- before an operand (6.3.3.2, 6.3.3.3)
unfoldable pub unary_of : Punctuator → Option Unary
unary_of punct.Ampersand = Some unary.Address
unary_of punct.Star = Some unary.Indirection
unary_of punct.Plus = Some unary.Plus
unary_of punct.Minus = Some unary.Minus
unary_of punct.Tilde = Some unary.Complement
unary_of punct.Exclamation = Some unary.Not
unary_of _ = None

-- before or behind an operand (6.3.2.4, 6.3.3.1)
unfoldable pub step_of : Punctuator → Option Step
step_of punct.Increment = Some Increment
step_of punct.Decrement = Some Decrement
step_of _ = None

-- ---- keywords of specifiers

-- 6.5.1
unfoldable pub storage_of : Keyword → Option Storage
storage_of keyword.Typedef = Some storage.Typedef
storage_of keyword.Extern = Some storage.Extern
storage_of keyword.Static = Some storage.Static
storage_of keyword.Auto = Some storage.Auto
storage_of keyword.Register = Some storage.Register
storage_of _ = None

-- 6.5.2
unfoldable pub type_of : Keyword → Option TypeKeyword
type_of keyword.Void = Some type.Void
type_of keyword.Char = Some type.Char
type_of keyword.Short = Some type.Short
type_of keyword.Int = Some type.Int
type_of keyword.Long = Some type.Long
type_of keyword.Float = Some type.Float
type_of keyword.Double = Some type.Double
type_of keyword.Signed = Some type.Signed
type_of keyword.Unsigned = Some type.Unsigned
type_of _ = None

-- 6.5.2.1
unfoldable pub record_of : Keyword → Option RecordKind
record_of keyword.Struct = Some Struct
record_of keyword.Union = Some Union
record_of _ = None

-- 6.5.3
unfoldable pub qualifier_of : Keyword → Option Qualifier
qualifier_of keyword.Const = Some Const
qualifier_of keyword.Volatile = Some Volatile
qualifier_of _ = None
