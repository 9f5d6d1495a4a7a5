-- The usual arithmetic conversions (C90 6.2.1), and what operators ask of their operands and give (C90 6.3.3 to 6.3.14).
use Rattle.std.specs.Prelude.{◌≡◌, ℕ, ◌==◌, Bool, true, false, List, Option, Some, None}
use Rattle.c_lexer.specs.declared.token.BasicType.{BasicType}
use Rattle.c_lexer.specs.declared.token.BasicType.TheVariants as constant
use Rattle.c_syntax.specs.declared.operator.Binary.{Binary}
use Rattle.c_syntax.specs.declared.operator.Binary.TheVariants as binary
use Rattle.c_syntax.specs.declared.operator.Unary.{Unary}
use Rattle.c_syntax.specs.declared.operator.Unary.TheVariants as unary
use Rattle.c_ops.specs.declared.operators.Operator.{Operator}
use Rattle.c_ops.specs.declared.operators.Operator.TheVariants as operator
use Rattle.c_ops.specs.declared.operators.UnaryOperator.{UnaryOperator}
use Rattle.c_ops.specs.declared.operators.UnaryOperator.TheVariants as one
use Rattle.c_types.specs.declared.node.Basic.{Basic}
use Rattle.c_types.specs.declared.node.Basic.TheVariants.{Int, Unsigned, Long, UnsignedLong}
use Rattle.c_types.specs.declared.node.TypeNode.{TypeNode}
use Rattle.c_types.specs.declared.node.TypeNode.TheVariants as node
use Rattle.c_types.specs.Nodes.{node_at}
use Rattle.c_tree.specs.declared.expression.Conversion.{Conversion}
use Rattle.c_tree.specs.declared.expression.TExpr.{TExpr}
use Rattle.c_tree.specs.declared.expression.Form.TheVariants as form
use Rattle.c_tree.specs.Programs.{bare_node}
use Rattle.c_tree.specs.SoundTypes.{is_conversion}
use Rattle.c_typed.specs.Settings.{tree, kind_of, start_of, type_of}

-- ---- types

-- the number that stands for this arithmetic type, which each table has once
abbrev pub Is : List TypeNode → Basic → (kind : ℕ) → Type 0
Is types b kind = node_at types kind ≡ node.Basic b

-- the arithmetic type of an integer; an enum counts as int (6.5.2.2)
abbrev pub basic_in : TypeNode → Option Basic
basic_in (node.Basic b) = Some b
basic_in (node.Enum tag) = Some Int
basic_in _ = None

abbrev pub basic_of : List TypeNode → TExpr → Option Basic
basic_of types t = basic_in (type_of types t)

-- of an integer constant (6.1.3.2)
abbrev pub basic_of_constant : BasicType → Basic
basic_of_constant constant.Int = Int
basic_of_constant constant.Unsigned = Unsigned
basic_of_constant constant.Long = Long
basic_of_constant constant.UnsignedLong = UnsignedLong

-- ---- conversions

-- the integral promotions: int has all values of the types that are narrower (6.2.1.1)
abbrev pub promoted : Basic → Basic
promoted Unsigned = Unsigned
promoted Long = Long
promoted UnsignedLong = UnsignedLong
promoted _ = Int

-- the common type of two promoted operands: long does not have all values of unsigned (6.2.1.5)
abbrev pub common : (left right : Basic) → Basic
common UnsignedLong _ = UnsignedLong
common _ UnsignedLong = UnsignedLong
common Long Unsigned = UnsignedLong
common Unsigned Long = UnsignedLong
common Long _ = Long
common _ Long = Long
common Unsigned _ = Unsigned
common _ Unsigned = Unsigned
common _ _ = Int

abbrev pub usual : (left right : Basic) → Basic
usual left right = common (promoted left) (promoted right)

-- a value as one of an arithmetic type: itself where it has that type, and else below a conversion
pub data Converted (types : List TypeNode) : (kind : ℕ) → TExpr → TExpr → Type 0 where
  same : {kind : ℕ} {t : TExpr} → (kind_of t == kind) ≡ true → Converted types kind t t
  other : {kind : ℕ} {t : TExpr} (c : Conversion) → (kind_of t == kind) ≡ false → is_conversion types (bare_node types kind) c ≡ true
      → Converted types kind t (tree (form.Convert t c) kind (start_of t))

-- ---- operators with one operand

-- + - ~, which want an integer (6.3.3.3)
abbrev pub integer_operator : Unary → Option UnaryOperator
integer_operator unary.Plus = Some one.Plus
integer_operator unary.Minus = Some one.Minus
integer_operator unary.Complement = Some one.Complement
integer_operator _ = None

-- ---- operators with two operands

-- what an operator asks of numbers and gives
pub data Group : Type 0 where
  -- scalars, each tested for 0: an int (6.3.13, 6.3.14)
  Logical : Group
  -- converted to their common type, which the result has (6.3.5, 6.3.6, 6.3.10 to 6.3.12)
  Arithmetic : Group
  -- each promoted; the left one's type (6.3.7)
  Shift : Group
  -- converted to their common type; an int (6.3.8, 6.3.9)
  Comparison : Group

abbrev pub group_of : Binary → Group
group_of binary.LogicalOr = Logical
group_of binary.LogicalAnd = Logical
group_of binary.Equal = Comparison
group_of binary.Unequal = Comparison
group_of binary.Less = Comparison
group_of binary.Greater = Comparison
group_of binary.NotGreater = Comparison
group_of binary.NotLess = Comparison
group_of binary.ShiftLeft = Shift
group_of binary.ShiftRight = Shift
group_of _ = Arithmetic

-- an operator that wants integers, and takes no pointer
abbrev pub wants_integers : Binary → Bool
wants_integers binary.Or = true
wants_integers binary.ExclusiveOr = true
wants_integers binary.And = true
wants_integers binary.ShiftLeft = true
wants_integers binary.ShiftRight = true
wants_integers binary.Multiply = true
wants_integers binary.Divide = true
wants_integers binary.Remainder = true
wants_integers _ = false

-- in the tree, on numbers with a sign or without
abbrev pub operator_of : Binary → (is_signed : Bool) → Option Operator
operator_of binary.LogicalOr _ = None
operator_of binary.LogicalAnd _ = None
operator_of binary.Or _ = Some operator.Or
operator_of binary.ExclusiveOr _ = Some operator.Xor
operator_of binary.And _ = Some operator.And
operator_of binary.Equal _ = Some operator.Equal
operator_of binary.Unequal _ = Some operator.Unequal
operator_of binary.Less true = Some operator.Less
operator_of binary.Less false = Some operator.LessUnsigned
operator_of binary.Greater true = Some operator.Greater
operator_of binary.Greater false = Some operator.GreaterUnsigned
operator_of binary.NotGreater true = Some operator.NotGreater
operator_of binary.NotGreater false = Some operator.NotGreaterUnsigned
operator_of binary.NotLess true = Some operator.NotLess
operator_of binary.NotLess false = Some operator.NotLessUnsigned
operator_of binary.ShiftLeft _ = Some operator.ShiftLeft
operator_of binary.ShiftRight true = Some operator.ShiftRight
operator_of binary.ShiftRight false = Some operator.ShiftRightUnsigned
operator_of binary.Add _ = Some operator.Add
operator_of binary.Subtract _ = Some operator.Subtract
operator_of binary.Multiply _ = Some operator.Multiply
operator_of binary.Divide true = Some operator.Divide
operator_of binary.Divide false = Some operator.DivideUnsigned
operator_of binary.Remainder true = Some operator.Remainder
operator_of binary.Remainder false = Some operator.RemainderUnsigned
