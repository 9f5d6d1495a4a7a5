-- The numbers of flags and enums.
use Rattle.std.specs.Prelude.{ℕ, Bool, true, false}
use Rattle.fsc_base.specs.declared.word.Width.{Width}
use Rattle.fsc_base.specs.declared.word.Width.TheVariants as width
use Rattle.fsc_base.specs.declared.word.WordKind.{WordKind}
use Rattle.fsc_base.specs.declared.word.WordKind.TheVariants.{Fat, Narrow}
use Rattle.c_ops.specs.declared.linkage.Linkage.{Linkage}
use Rattle.c_ops.specs.declared.linkage.Linkage.TheVariants.{External, Internal}
use Rattle.c_ops.specs.declared.operators.Binary.{Binary}
use Rattle.c_ops.specs.declared.operators.Binary.TheVariants as binary
use Rattle.c_ops.specs.declared.operators.Unary.{Unary}
use Rattle.c_ops.specs.declared.operators.Unary.TheVariants as unary
use Rattle.c_ops.specs.declared.primitive.Primitive.{Primitive}
use Rattle.c_ops.specs.declared.primitive.Primitive.TheVariants as primitive
use Rattle.c_types.specs.declared.node.Basic.{Basic}
use Rattle.c_types.specs.declared.node.Basic.TheVariants as basic

abbrev pub flag_tag : Bool → ℕ
flag_tag false = 0
flag_tag true = 1

abbrev pub kind_tag : WordKind → ℕ
kind_tag Narrow = 0
kind_tag Fat = 1

abbrev pub linkage_tag : Linkage → ℕ
linkage_tag External = 0
linkage_tag Internal = 1

-- a width in bytes
abbrev pub width_tag : Width → ℕ
width_tag width.One = 1
width_tag width.Two = 2
width_tag width.Four = 4

abbrev pub basic_tag : Basic → ℕ
basic_tag basic.Char = 0
basic_tag basic.SignedChar = 1
basic_tag basic.UnsignedChar = 2
basic_tag basic.Short = 3
basic_tag basic.UnsignedShort = 4
basic_tag basic.Int = 5
basic_tag basic.Unsigned = 6
basic_tag basic.Long = 7
basic_tag basic.UnsignedLong = 8

abbrev pub unary_tag : Unary → ℕ
unary_tag unary.Minus = 0
unary_tag unary.Complement = 1
unary_tag unary.Not = 2

abbrev pub binary_tag : Binary → ℕ
binary_tag binary.Add = 0
binary_tag binary.Subtract = 1
binary_tag binary.Multiply = 2
binary_tag binary.Divide = 3
binary_tag binary.DivideUnsigned = 4
binary_tag binary.Remainder = 5
binary_tag binary.RemainderUnsigned = 6
binary_tag binary.And = 7
binary_tag binary.Or = 8
binary_tag binary.Xor = 9
binary_tag binary.ShiftLeft = 10
binary_tag binary.ShiftRight = 11
binary_tag binary.ShiftRightUnsigned = 12
binary_tag binary.Equal = 13
binary_tag binary.Unequal = 14
binary_tag binary.Less = 15
binary_tag binary.LessUnsigned = 16
binary_tag binary.NotGreater = 17
binary_tag binary.NotGreaterUnsigned = 18

abbrev pub primitive_tag : Primitive → ℕ
primitive_tag primitive.Put = 0
primitive_tag primitive.Get = 1
primitive_tag primitive.Alloc = 2
primitive_tag primitive.Release = 3
primitive_tag primitive.Size = 4
primitive_tag primitive.Copy = 5
primitive_tag primitive.Exit = 6
primitive_tag primitive.Abort = 7
primitive_tag primitive.Extra = 8
