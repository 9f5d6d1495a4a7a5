-- Integral constant expressions and their values (C90 6.3, 6.4 and 6.8.1).
use Rattle.std.specs.Prelude.{◌≡◌, ◌&&◌, ◌||◌, not, Bool, false, List, [], ◌∷◌, ◌++◌, Option, Some, None}
use Rattle.c_lexer.specs.declared.punctuator.Punctuator.{Punctuator}
use Rattle.c_lexer.specs.declared.punctuator.Punctuator.TheVariants as token
use Rattle.cpp_cond.specs.declared.term.Term.{Term}
use Rattle.cpp_cond.specs.declared.term.Term.TheVariants.{Operand, Operator}
use Rattle.cpp_cond.specs.declared.value.Value.{Value}
use Rattle.cpp_cond.specs.declared.operator.Unary.{Unary}
use Rattle.cpp_cond.specs.declared.operator.Unary.TheVariants as unary
use Rattle.cpp_cond.specs.declared.operator.Binary.{Binary}
use Rattle.cpp_cond.specs.declared.operator.Binary.TheVariants as binary
use Rattle.cpp_cond.specs.declared.operator.Level.{Level}
use Rattle.cpp_cond.specs.declared.operator.Level.TheVariants as level
use Rattle.cpp_cond.specs.Values.{truth, is_true, joint, unary_value, binary_value, choice_of}

-- how the operators are spelled
abbrev pub unary_of : Punctuator → Option Unary
unary_of token.Plus = Some unary.Plus
unary_of token.Minus = Some unary.Minus
unary_of token.Tilde = Some unary.Complement
unary_of token.Exclamation = Some unary.Not
unary_of _ = None

abbrev pub binary_of : Punctuator → Option Binary
binary_of token.Star = Some binary.Multiply
binary_of token.Slash = Some binary.Divide
binary_of token.Percent = Some binary.Remainder
binary_of token.Plus = Some binary.Add
binary_of token.Minus = Some binary.Subtract
binary_of token.ShiftLeft = Some binary.ShiftLeft
binary_of token.ShiftRight = Some binary.ShiftRight
binary_of token.Less = Some binary.Less
binary_of token.Greater = Some binary.Greater
binary_of token.LessEqual = Some binary.NotGreater
binary_of token.GreaterEqual = Some binary.NotLess
binary_of token.EqualEqual = Some binary.Equal
binary_of token.NotEqual = Some binary.Unequal
binary_of token.Ampersand = Some binary.And
binary_of token.Caret = Some binary.ExclusiveOr
binary_of token.Bar = Some binary.Or
binary_of _ = None

-- the level of an operator
abbrev pub level_of : Binary → Level
level_of binary.Multiply = level.Multiplicative
level_of binary.Divide = level.Multiplicative
level_of binary.Remainder = level.Multiplicative
level_of binary.Add = level.Additive
level_of binary.Subtract = level.Additive
level_of binary.ShiftLeft = level.Shift
level_of binary.ShiftRight = level.Shift
level_of binary.Less = level.Relational
level_of binary.Greater = level.Relational
level_of binary.NotGreater = level.Relational
level_of binary.NotLess = level.Relational
level_of binary.Equal = level.Equality
level_of binary.Unequal = level.Equality
level_of binary.And = level.And
level_of binary.ExclusiveOr = level.ExclusiveOr
level_of binary.Or = level.Or

-- the level of its operands on the right, one tighter
abbrev pub tighter : Level → Level
tighter level.Enclosing = level.Conditional
tighter level.Conditional = level.LogicalOr
tighter level.LogicalOr = level.LogicalAnd
tighter level.LogicalAnd = level.Or
tighter level.Or = level.ExclusiveOr
tighter level.ExclusiveOr = level.And
tighter level.And = level.Equality
tighter level.Equality = level.Relational
tighter level.Relational = level.Shift
tighter level.Shift = level.Additive
tighter level.Additive = level.Multiplicative
tighter level.Multiplicative = level.Unary
tighter level.Unary = level.Unary

-- The terms are an expression of that level, with that value. `live` says whether the expression is evaluated: only what is
-- evaluated can't divide by zero.
pub data Computes : (live : Bool) → Level → List Term → Value → Type 0 where
  -- a constant, or a name that is left after expansion
  operand : (live : Bool) (value : Value) → Computes live level.Unary (Operand value ∷ []) value
  parenthesis : (live : Bool) (inside : List Term) (value : Value) → Computes live level.Conditional inside value
      → Computes live level.Unary (Operator token.LeftParenthesis ∷ inside ++ Operator token.RightParenthesis ∷ []) value
  one : (live : Bool) (spelling : Punctuator) (operator : Unary) (operand : List Term) (value : Value) → unary_of spelling ≡ Some operator
      → Computes live level.Unary operand value → Computes live level.Unary (Operator spelling ∷ operand) (unary_value operator value)
  two : (live : Bool) (spelling : Punctuator) (operator : Binary) (left right : List Term) (a b value : Value) → binary_of spelling ≡ Some operator
      → Computes live (level_of operator) left a → Computes live (tighter (level_of operator)) right b → binary_value operator a b ≡ Some value
      → Computes live (level_of operator) (left ++ Operator spelling ∷ right) value
  -- a division by zero that is not evaluated
  unused : (spelling : Punctuator) (operator : Binary) (left right : List Term) (a b : Value) → binary_of spelling ≡ Some operator
      → Computes false (level_of operator) left a → Computes false (tighter (level_of operator)) right b → binary_value operator a b ≡ None
      → Computes false (level_of operator) (left ++ Operator spelling ∷ right) (joint a b a.bits)
  both : (live : Bool) (left right : List Term) (a b : Value) → Computes live level.LogicalAnd left a → Computes (live && is_true a) level.Or right b
      → Computes live level.LogicalAnd (left ++ Operator token.AndAnd ∷ right) (truth (is_true a && is_true b))
  either : (live : Bool) (left right : List Term) (a b : Value) → Computes live level.LogicalOr left a → Computes (live && not (is_true a)) level.LogicalAnd right b
      → Computes live level.LogicalOr (left ++ Operator token.OrOr ∷ right) (truth (is_true a || is_true b))
  choice : (live : Bool) (condition first second : List Term) (c a b : Value) → Computes live level.LogicalOr condition c
      → Computes (live && is_true c) level.Conditional first a → Computes (live && not (is_true c)) level.Conditional second b
      → Computes live level.Conditional (condition ++ (Operator token.Question ∷ (first ++ (Operator token.Colon ∷ second)))) (choice_of (is_true c) a b)
  -- an expression of a tighter level
  looser : (live : Bool) (looser : Level) (terms : List Term) (value : Value) → Computes live (tighter looser) terms value → Computes live looser terms value
