-- A pointer that is a number for a while, and one whose bytes are copied one by one, worked through.
use Rattle.std.specs.Prelude.{◌≡◌, ℕ, List, [], ◌∷◌, ◌++◌, codes, Some, None, true, false}
use Rattle.fsc_base.specs.declared.word.Width.TheVariants as width
use Rattle.fsc_base.specs.declared.word.WordKind.TheVariants.{Fat}
use Rattle.fsc_base.specs.declared.end.End.TheVariants as end
use Rattle.c_ops.specs.declared.operators.Operator.TheVariants as operator
use Rattle.c_types.specs.declared.node.TypeNode.TheVariants.{Array, Pointer}
use Rattle.c_tree.specs.declared.expression.Access.{Access}
use Rattle.c_tree.specs.declared.expression.Access.TheVariants.{Scalar}
use Rattle.c_tree.specs.declared.expression.CompoundOp.TheVariants.{Plain}
use Rattle.c_tree.specs.declared.expression.Conversion.TheVariants.{Keep, Decide}
use Rattle.c_tree.specs.declared.expression.Side.TheVariants.{Left}
use Rattle.c_tree.specs.declared.expression.TExpr.{TExpr}
use Rattle.c_tree.specs.declared.expression.Form.TheVariants as form
use Rattle.c_tree.specs.declared.statement.TStatement.{TStatement}
use Rattle.c_tree.specs.declared.statement.TStatement.TheOpen.TStatement-F.{For}
use Rattle.c_tree.specs.declared.unit.EntryOf.TheVariants as of
use Rattle.c_tree.specs.declared.unit.TypedFunction.{TypedFunction}
use Rattle.c_tree.specs.declared.unit.TypedUnit.{TypedUnit}
use Rattle.c_tree.specs.Rows.{Row, Todo, Gives, Locates, Stays, Indexes, Casts, Operates, Reads, Stores, InSlot, InMemory, Peeks, Increments, Drops, Loops, Returns}
use Rattle.c_tree.specs.Samples.{rows, codes_of, expression, number, int, int_access, pointer_access, local, value, assignment, binary, statement, does, gives, block, int_function, function_symbol, unit, end_at, watch_of}

-- ---- int main(void){int a[4];long n;int *p;a[2]=5;n=(long)(a+1);p=(int*)(n+4);return *p;}

-- long is type 8, int[4] type 11 and int * type 12
abbrev pub a : TExpr
a = expression 12 (form.Decay (local 11 0))

abbrev pub a_2 : TExpr
a_2 = expression int (form.Index a (number 2) Left 4)

abbrev pub n : TExpr
n = local 8 1

-- (long)(a+1)
abbrev pub a_number : TExpr
a_number = expression 8 (form.Convert (expression 12 (form.PointerAdd a (number 1) Left 4)) Keep)

-- (int*)(n+4)
abbrev pub a_pointer : TExpr
a_pointer = expression 12 (form.Convert
    (expression 8 (form.Binary operator.Add (expression 8 (form.Value n int_access)) (expression 8 (form.Convert (number 4) Keep)))) (Decide int))

abbrev pub at_p : TExpr
at_p = expression int (form.Deref (expression 12 (form.Value (local 12 2) pointer_access)))

abbrev pub numbers_main : TypedFunction
numbers_main = record {
  symbol = 0;
  parameters = 0;
  locals = 11 ∷ 8 ∷ 12 ∷ [];
  entries = record { of = of.Local 0; kind = 11; size = 16 } ∷ [];
  labels = 0;
  body = block (
      does (assignment a_2 (number 5)) ∷ does (expression 8 (form.Assign n a_number int_access))
      ∷ does (expression 12 (form.Assign (local 12 2) a_pointer pointer_access)) ∷ gives (value at_p) ∷ []);
}

abbrev pub numbers : TypedUnit
numbers = unit (int_function ∷ Array int 4 ∷ Pointer int ∷ []) (function_symbol (codes "main") 10 0 ∷ []) (numbers_main ∷ [])

abbrev pub NumbersRows : Type 0
NumbersRows = codes_of numbers ≡ rows (
    Locates 0 ∷ Stays ∷ Gives 2 ∷ Indexes Left 4 ∷ Gives 5 ∷ Stores (InMemory int 0) int_access ∷ Drops
    ∷ Stays ∷ Locates 0 ∷ Stays ∷ Gives 1 ∷ Indexes Left 4 ∷ Stays ∷ Stores (InSlot 1) int_access ∷ Drops
    ∷ Stays ∷ Stays ∷ Reads (InSlot 1) int_access ∷ Gives 4 ∷ Stays ∷ Operates operator.Add ∷ Casts int ∷ Stores (InSlot 2) pointer_access ∷ Drops
    ∷ Stays ∷ Reads (InSlot 2) pointer_access ∷ Stays ∷ Reads (InMemory int 0) int_access ∷ Returns ∷ Gives 0 ∷ Returns ∷ []
    ) ∷ []

abbrev pub NumbersEnd : Type 0
NumbersEnd = end_at numbers 37 ≡ Some (end.Exit 5)

abbrev pub NumbersGoOn : Type 0
NumbersGoOn = end_at numbers 36 ≡ None

-- both accesses are near
abbrev pub NumbersWatch : Type 0
NumbersWatch = watch_of numbers 37 ≡ record { shapes = None ∷ Some (Fat ∷ []) ∷ []; away = 0 }

-- ---- int main(void){int x;int *p;int *q;int i;p=&x;for(i=0;i<4;i++)((char*)&q)[i]=((char*)&p)[i];return *q;}

-- char is type 1, int * type 11, int ** type 12 and char * type 13
abbrev pub char_access : Access
char_access = Scalar width.One false

abbrev pub i : TExpr
i = local int 3

-- ((char*)&l)[i] of the local with a number
abbrev pub byte_of : ℕ → TExpr
byte_of l = expression 1 (form.Index
    (expression 13 (form.Convert (expression 12 (form.AddressOf (local 11 l))) (Decide 1))) (value i) Left 1)

abbrev pub copies_byte : TStatement
copies_byte = does (expression 1 (form.Assign (byte_of 2) (expression 1 (form.Value (byte_of 1) char_access)) char_access))

abbrev pub is_below : TExpr
is_below = binary operator.Less (value i) (number 4)

abbrev pub goes_up : TExpr
goes_up = expression int (form.Step i (Plain operator.Add) false int_access)

abbrev pub copies_bytes : TStatement
copies_bytes = statement (For (Some (assignment i (number 0))) (Some is_below) (Some goes_up) copies_byte)

abbrev pub at_q : TExpr
at_q = expression int (form.Deref (expression 11 (form.Value (local 11 2) pointer_access)))

abbrev pub bytes_main : TypedFunction
bytes_main = record {
  symbol = 0;
  parameters = 0;
  locals = int ∷ 11 ∷ 11 ∷ int ∷ [];
  entries =
      record { of = of.Local 0; kind = int; size = 4 } ∷ record { of = of.Local 1; kind = 11; size = 4 }
      ∷ record { of = of.Local 2; kind = 11; size = 4 } ∷ [];
  labels = 0;
  body = block (
      does (expression 11 (form.Assign (local 11 1) (expression 11 (form.AddressOf (local int 0))) pointer_access))
      ∷ copies_bytes ∷ gives (value at_q) ∷ []);
}

abbrev pub bytes : TypedUnit
bytes = unit (int_function ∷ Pointer int ∷ Pointer 11 ∷ Pointer 1 ∷ []) (function_symbol (codes "main") 10 0 ∷ []) (bytes_main ∷ [])

abbrev pub byte_rows : (entry : ℕ) → List Row
byte_rows entry = Locates entry ∷ Stays ∷ Casts 1 ∷ Stays ∷ Reads (InSlot 3) int_access ∷ Indexes Left 1 ∷ []

abbrev pub before_rows : Todo
before_rows = rows (Stays ∷ Peeks (InSlot 3) int_access ∷ Increments (InSlot 3) (Plain operator.Add) false int_access ∷ Drops ∷ [])

abbrev pub test_rows : Todo
test_rows = rows (Stays ∷ Reads (InSlot 3) int_access ∷ Gives 4 ∷ Operates operator.Less ∷ [])

abbrev pub copy_rows : Todo
copy_rows = rows (byte_rows 2 ++ byte_rows 1 ++ (Reads (InMemory 1 0) char_access ∷ Stores (InMemory 1 0) char_access ∷ Drops ∷ []))

abbrev pub BytesRows : Type 0
BytesRows = codes_of bytes ≡ rows (
    Locates 1 ∷ Locates 0 ∷ Stays ∷ Stores (InMemory 11 0) pointer_access ∷ Drops
    ∷ Stays ∷ Gives 0 ∷ Stores (InSlot 3) int_access ∷ Drops ∷ Loops true before_rows test_rows copy_rows
    ∷ Locates 2 ∷ Reads (InMemory 11 0) pointer_access ∷ Stays ∷ Reads (InMemory int 0) int_access ∷ Returns ∷ Gives 0 ∷ Returns ∷ []
    ) ∷ []

-- the value was copied, and the base was lost
abbrev pub BytesEnd : Type 0
BytesEnd = end_at bytes 130 ≡ Some (end.Access 0 65552 4)

abbrev pub BytesGoOn : Type 0
BytesGoOn = end_at bytes 129 ≡ None

-- a read and a write of one byte of a fat block in each turn, and the access that fails
abbrev pub BytesWatch : Type 0
BytesWatch = watch_of bytes 130 ≡ record { shapes = None ∷ Some (Fat ∷ []) ∷ Some (Fat ∷ []) ∷ Some (Fat ∷ []) ∷ []; away = 9 }
