-- How tightly the forms of an expression bind: the productions of C90 6.3, the tightest first. A form of one level stands for one
-- of each looser level.
use Rattle.std.specs.Prelude.{ℕ}
use Rattle.c_syntax.specs.declared.operator.Binary.{Binary}
use Rattle.c_syntax.specs.declared.operator.Binary.TheVariants.{LogicalOr, LogicalAnd, Or, ExclusiveOr, And, Equal, Unequal, Less, Greater, NotGreater, NotLess, ShiftLeft, ShiftRight, Add, Subtract, Multiply, Divide, Remainder}

-- 6.3.1
abbrev pub primary : ℕ
primary = 0

-- 6.3.2
abbrev pub postfix : ℕ
postfix = 1

-- 6.3.3
abbrev pub unary : ℕ
unary = 2

-- 6.3.4
abbrev pub cast : ℕ
cast = 3

-- 6.3.5
abbrev pub multiplicative : ℕ
multiplicative = 4

-- 6.3.6
abbrev pub additive : ℕ
additive = 5

-- 6.3.7
abbrev pub shift : ℕ
shift = 6

-- 6.3.8
abbrev pub relational : ℕ
relational = 7

-- 6.3.9
abbrev pub equality : ℕ
equality = 8

-- 6.3.10
abbrev pub bitwise_and : ℕ
bitwise_and = 9

-- 6.3.11
abbrev pub exclusive_or : ℕ
exclusive_or = 10

-- 6.3.12
abbrev pub inclusive_or : ℕ
inclusive_or = 11

-- 6.3.13
abbrev pub logical_and : ℕ
logical_and = 12

-- 6.3.14
abbrev pub logical_or : ℕ
logical_or = 13

-- 6.3.15, and 6.4: a constant expression is a conditional one
abbrev pub conditional : ℕ
conditional = 14

-- 6.3.16
abbrev pub assignment : ℕ
assignment = 15

-- 6.3.17
abbrev pub expression : ℕ
expression = 16

-- the level of the form that an operator with two operands makes
unfoldable pub level_of : Binary → ℕ
level_of Multiply = multiplicative
level_of Divide = multiplicative
level_of Remainder = multiplicative
level_of Add = additive
level_of Subtract = additive
level_of ShiftLeft = shift
level_of ShiftRight = shift
level_of Less = relational
level_of Greater = relational
level_of NotGreater = relational
level_of NotLess = relational
level_of Equal = equality
level_of Unequal = equality
level_of And = bitwise_and
level_of ExclusiveOr = exclusive_or
level_of Or = inclusive_or
level_of LogicalAnd = logical_and
level_of LogicalOr = logical_or
