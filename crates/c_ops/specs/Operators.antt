-- What each operator gives. None is a division by zero.
use Rattle.std.specs.Prelude.{Option, Some}
use Rattle.fsc_base.specs.declared.word.Word.{Word}
use Rattle.c_ops.specs.declared.operators.Operator.{Operator}
use Rattle.c_ops.specs.declared.operators.Operator.TheVariants as operator
use Rattle.c_ops.specs.declared.operators.UnaryOperator.{UnaryOperator}
use Rattle.c_ops.specs.declared.operators.UnaryOperator.TheVariants as one
use Rattle.c_ops.specs.declared.operators.Binary.{Binary}
use Rattle.c_ops.specs.declared.operators.Binary.TheVariants as binary
use Rattle.c_ops.specs.declared.operators.Unary.{Unary}
use Rattle.c_ops.specs.declared.operators.Unary.TheVariants as unary
use Rattle.c_ops.specs.Words.{sum_of, difference_of, product_of, quotient_of, unsigned_quotient_of, remainder_of, unsigned_remainder_of, and_of, or_of, xor_of, shifted_left_of, shifted_right_of, unsigned_shifted_right_of, equal_of, unequal_of, less_of, unsigned_less_of, not_greater_of, unsigned_not_greater_of, minus_of, complement_of, not_of}

-- of C
unfoldable pub operated : Operator → (left right : Word) → Option Word
operated operator.Add left right = Some (sum_of left right)
operated operator.Subtract left right = Some (difference_of left right)
operated operator.Multiply left right = Some (product_of left right)
operated operator.Divide left right = quotient_of left right
operated operator.DivideUnsigned left right = unsigned_quotient_of left right
operated operator.Remainder left right = remainder_of left right
operated operator.RemainderUnsigned left right = unsigned_remainder_of left right
operated operator.And left right = Some (and_of left right)
operated operator.Or left right = Some (or_of left right)
operated operator.Xor left right = Some (xor_of left right)
operated operator.ShiftLeft left right = Some (shifted_left_of left right)
operated operator.ShiftRight left right = Some (shifted_right_of left right)
operated operator.ShiftRightUnsigned left right = Some (unsigned_shifted_right_of left right)
operated operator.Equal left right = Some (equal_of left right)
operated operator.Unequal left right = Some (unequal_of left right)
operated operator.Less left right = Some (less_of left right)
operated operator.LessUnsigned left right = Some (unsigned_less_of left right)
operated operator.Greater left right = Some (less_of right left)
operated operator.GreaterUnsigned left right = Some (unsigned_less_of right left)
operated operator.NotGreater left right = Some (not_greater_of left right)
operated operator.NotGreaterUnsigned left right = Some (unsigned_not_greater_of left right)
operated operator.NotLess left right = Some (not_greater_of right left)
operated operator.NotLessUnsigned left right = Some (unsigned_not_greater_of right left)

unfoldable pub turned : UnaryOperator → Word → Word
turned one.Plus word = word
turned one.Minus word = minus_of word
turned one.Complement word = complement_of word
turned one.Not word = not_of word

-- of fat code
unfoldable pub binary_of : Binary → (left right : Word) → Option Word
binary_of binary.Add left right = Some (sum_of left right)
binary_of binary.Subtract left right = Some (difference_of left right)
binary_of binary.Multiply left right = Some (product_of left right)
binary_of binary.Divide left right = quotient_of left right
binary_of binary.DivideUnsigned left right = unsigned_quotient_of left right
binary_of binary.Remainder left right = remainder_of left right
binary_of binary.RemainderUnsigned left right = unsigned_remainder_of left right
binary_of binary.And left right = Some (and_of left right)
binary_of binary.Or left right = Some (or_of left right)
binary_of binary.Xor left right = Some (xor_of left right)
binary_of binary.ShiftLeft left right = Some (shifted_left_of left right)
binary_of binary.ShiftRight left right = Some (shifted_right_of left right)
binary_of binary.ShiftRightUnsigned left right = Some (unsigned_shifted_right_of left right)
binary_of binary.Equal left right = Some (equal_of left right)
binary_of binary.Unequal left right = Some (unequal_of left right)
binary_of binary.Less left right = Some (less_of left right)
binary_of binary.LessUnsigned left right = Some (unsigned_less_of left right)
binary_of binary.NotGreater left right = Some (not_greater_of left right)
binary_of binary.NotGreaterUnsigned left right = Some (unsigned_not_greater_of left right)

unfoldable pub unary_of : Unary → Word → Word
unary_of unary.Minus word = minus_of word
unary_of unary.Complement word = complement_of word
unary_of unary.Not word = not_of word
