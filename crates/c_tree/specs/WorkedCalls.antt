-- A call by value of a struct, and a variadic function, worked through.
use Rattle.std.specs.Prelude.{◌≡◌, ℕ, List, [], ◌∷◌, ◌++◌, codes, Some, None, true, false}
use Rattle.fsc_base.specs.declared.end.End.TheVariants as end
use Rattle.c_ops.specs.declared.operators.Operator.TheVariants as operator
use Rattle.c_ops.specs.declared.primitive.Primitive.TheVariants as primitive
use Rattle.c_types.specs.declared.node.Field.{Field}
use Rattle.c_types.specs.declared.node.TypeNode.{TypeNode}
use Rattle.c_types.specs.declared.node.TypeNode.TheVariants.{Function, Pointer, Struct}
use Rattle.c_tree.specs.declared.expression.CompoundOp.TheVariants.{Plain, PointerPlus}
use Rattle.c_tree.specs.declared.expression.Conversion.TheVariants.{Decide}
use Rattle.c_tree.specs.declared.expression.TExpr.{TExpr}
use Rattle.c_tree.specs.declared.expression.Form.TheVariants as form
use Rattle.c_tree.specs.declared.statement.Piece.{Piece}
use Rattle.c_tree.specs.declared.statement.TStatement.TheOpen.TStatement-F.{Initialise, While, ReturnRecord}
use Rattle.c_tree.specs.declared.unit.EntryOf.TheVariants as of
use Rattle.c_tree.specs.declared.unit.TypedFunction.{TypedFunction}
use Rattle.c_tree.specs.declared.unit.TypedUnit.{TypedUnit}
use Rattle.c_tree.specs.declared.expression.Symbol.TheVariants.{Named}
use Rattle.c_tree.specs.Rows.{Row, Todo, done, Gives, Names, Locates, Stays, Moves, Lowers, Casts, Reads, Stores, InSlot, InMemory, Peeks, Combines, Increments, Operates, Copies, CopiesOut, Drops, Receives, Calls, Performs, Sets, Loops, Returns}
use Rattle.c_tree.specs.Samples.{rows, codes_of, expression, number, int, int_access, pointer_access, local, value, assignment, compound, binary, called, statement, does, gives, block, int_function, function_symbol, unit, end_at}

-- ---- struct s{int a;int b;};struct s f();struct s f(struct s x){x.a=x.a+x.b;return x;}
-- ---- int main(void){struct s y;y.a=2;y.b=3;y=f(y);return y.a*10+y.b;}

-- struct s is type 10, its function type 12, and a pointer to that 13
abbrev pub s : ℕ
s = 10

abbrev pub field : (name : List ℕ) → Field
field name = record { name = name; kind = int; first = 0; count = 0 }

abbrev pub struct_types : List TypeNode
struct_types =
    Struct (record { tag = codes "s"; is_complete = true; fields = field (codes "a") ∷ field (codes "b") ∷ [] })
    ∷ int_function ∷ Function s true (s ∷ []) false ∷ Pointer 12 ∷ []

-- the first local, and its members
abbrev pub whole : TExpr
whole = local s 0

abbrev pub a : TExpr
a = expression int (form.Dot whole (record { offset = 0; «record» = s }))

abbrev pub b : TExpr
b = expression int (form.Dot whole (record { offset = 4; «record» = s }))

abbrev pub struct_f : TypedFunction
struct_f = record {
  symbol = 0;
  parameters = 1;
  locals = s ∷ [];
  entries = record { of = of.Local 0; kind = s; size = 8 } ∷ [];
  labels = 0;
  body = block (does (assignment a (binary operator.Add (value a) (value b))) ∷ statement (ReturnRecord whole 8) ∷ []);
}

-- y = f(y)
abbrev pub calls_f : TExpr
calls_f = expression s (form.AssignRecord whole (expression s (form.CallRecord (called 13 12 0) (whole ∷ []) 0)) 8)

abbrev pub struct_main : TypedFunction
struct_main = record {
  symbol = 1;
  parameters = 0;
  locals = s ∷ [];
  entries = record { of = of.Local 0; kind = s; size = 8 } ∷ record { of = of.Call 0; kind = s; size = 8 } ∷ [];
  labels = 0;
  body = block (
      does (assignment a (number 2)) ∷ does (assignment b (number 3)) ∷ does calls_f
      ∷ gives (binary operator.Add (binary operator.Multiply (value a) (number 10)) (value b)) ∷ []);
}

abbrev pub structs : TypedUnit
structs = unit struct_types (function_symbol (codes "f") 12 0 ∷ function_symbol (codes "main") 11 1 ∷ []) (struct_f ∷ struct_main ∷ [])

-- the address of a member of the first local, and its value
abbrev pub at_member : ℕ → List Row
at_member offset = Locates 0 ∷ Moves offset ∷ []

abbrev pub of_member : ℕ → List Row
of_member offset = at_member offset ++ (Reads (InMemory s offset) int_access ∷ [])

abbrev pub stores_in : ℕ → List Row
stores_in offset = Stores (InMemory s offset) int_access ∷ Drops ∷ []

abbrev pub StructsRows : Type 0
StructsRows = codes_of structs ≡
    rows (at_member 0 ++ of_member 0 ++ of_member 4 ++ (Operates operator.Add ∷ stores_in 0)
    ++ (Locates 0 ∷ CopiesOut 8 ∷ Returns ∷ Gives 0 ∷ Returns ∷ []))
    ∷ rows (at_member 0 ++ (Gives 2 ∷ stores_in 0) ++ at_member 4 ++ (Gives 3 ∷ stores_in 4)
    ++ (Locates 0 ∷ Names (Named 0) ∷ Stays ∷ Locates 0 ∷ Receives 1 1 ∷ Calls 2 ∷ Copies 8 ∷ Drops ∷ [])
    ++ of_member 0 ++ (Gives 10 ∷ Operates operator.Multiply ∷ []) ++ of_member 4
    ++ (Operates operator.Add ∷ Returns ∷ Gives 0 ∷ Returns ∷ []))
    ∷ []

abbrev pub StructsEnd : Type 0
StructsEnd = end_at structs 83 ≡ Some (end.Exit 53)

abbrev pub StructsGoOn : Type 0
StructsGoOn = end_at structs 82 ≡ None

-- ---- #include <stdarg.h>
-- ---- int f(int n,...){va_list a;int s=0;va_start(a,n);while(n--)s+=va_arg(a,int);return s;}int main(void){return f(4,1,2,4);}

-- f's type is 11, a pointer to it 12, char * 13 and int * 14
abbrev pub variadic_types : List TypeNode
variadic_types = int_function ∷ Function int true (int ∷ []) true ∷ Pointer 11 ∷ Pointer 1 ∷ Pointer int ∷ []

abbrev pub n : TExpr
n = local int 0

abbrev pub list : TExpr
list = local 13 1

abbrev pub sum : TExpr
sum = local int 2

-- a = __fsc_va()
abbrev pub starts : TExpr
starts = expression 13 (form.Assign list (expression 13 (form.Primitive primitive.Extra [])) pointer_access)

-- n--
abbrev pub counts_down : TExpr
counts_down = expression int (form.Step n (Plain operator.Subtract) false int_access)

-- *(int*)((a += 4) - 4)
abbrev pub steps_on : TExpr
steps_on = expression 13 (form.Compound list (PointerPlus 1) (number 4) pointer_access)

abbrev pub next_argument : TExpr
next_argument = value (expression int (form.Deref (
    expression 14 (form.Convert (expression 13 (form.PointerMinus steps_on (number 4) 1)) (Decide int)))))

abbrev pub zero_piece : Piece
zero_piece = record { offset = 0; size = 4; first = 0; count = 0; is_record = false; value = number 0 }

abbrev pub variadic_f : TypedFunction
variadic_f = record {
  symbol = 0;
  parameters = 1;
  locals = int ∷ 13 ∷ int ∷ [];
  entries = [];
  labels = 0;
  body = block (
      statement (Initialise 2 4 false (zero_piece ∷ []))
      ∷ does starts ∷ statement (While counts_down (does (compound sum operator.Add next_argument))) ∷ gives (value sum) ∷ []);
}

abbrev pub variadic_main : TypedFunction
variadic_main = record {
  symbol = 1;
  parameters = 0;
  locals = [];
  entries = [];
  labels = 0;
  body = block (gives (expression int (form.Call (called 12 11 0) (number 4 ∷ number 1 ∷ number 2 ∷ number 4 ∷ []))) ∷ []);
}

abbrev pub variadic : TypedUnit
variadic = unit variadic_types (function_symbol (codes "f") 11 0 ∷ function_symbol (codes "main") 10 1 ∷ []) (variadic_f ∷ variadic_main ∷ [])

abbrev pub down_rows : Todo
down_rows = rows (Stays ∷ Peeks (InSlot 0) int_access ∷ Increments (InSlot 0) (Plain operator.Subtract) false int_access ∷ [])

abbrev pub sum_rows : Todo
sum_rows = rows (
    Stays ∷ Peeks (InSlot 2) int_access
    ∷ Stays ∷ Peeks (InSlot 1) pointer_access ∷ Gives 4 ∷ Combines (InSlot 1) (PointerPlus 1) pointer_access
    ∷ Gives 4 ∷ Lowers 1 ∷ Casts int ∷ Stays ∷ Reads (InMemory int 0) int_access
    ∷ Combines (InSlot 2) (Plain operator.Add) int_access ∷ Drops ∷ [])

abbrev pub VariadicRows : Type 0
VariadicRows = codes_of variadic ≡
    rows (
    Gives 0 ∷ Sets 2 ∷ Stays ∷ Performs primitive.Extra ∷ Stores (InSlot 1) pointer_access ∷ Drops
    ∷ Loops true done down_rows sum_rows ∷ Stays ∷ Reads (InSlot 2) int_access ∷ Returns ∷ Gives 0 ∷ Returns ∷ [])
    ∷ rows (Names (Named 0) ∷ Stays ∷ Gives 4 ∷ Gives 1 ∷ Gives 2 ∷ Gives 4 ∷ Calls 4 ∷ Returns ∷ Gives 0 ∷ Returns ∷ [])
    ∷ []

-- the fourth word is taken past the end of the block of three extra words
abbrev pub VariadicEnds : Type 0
VariadicEnds = end_at variadic 92 ≡ Some (end.Access 3 12 4)

abbrev pub VariadicGoesOn : Type 0
VariadicGoesOn = end_at variadic 91 ≡ None
