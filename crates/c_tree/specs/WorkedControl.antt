-- int main(void){int i,s;s=0;for(i=0;i<5;i++)switch(i){case 1:s+=1;case 2:s+=10;break;default:s+=100;}return s;}, worked through.
use Rattle.std.specs.Prelude.{◌≡◌, ℕ, List, [], ◌∷◌, ◌++◌, codes, Some, None, true, false}
use Rattle.fsc_base.specs.declared.end.End.TheVariants as end
use Rattle.c_ops.specs.declared.operators.Operator.TheVariants as operator
use Rattle.c_tree.specs.declared.expression.CompoundOp.TheVariants.{Plain}
use Rattle.c_tree.specs.declared.expression.TExpr.{TExpr}
use Rattle.c_tree.specs.declared.expression.Form.TheVariants as form
use Rattle.c_tree.specs.declared.statement.TStatement.{TStatement}
use Rattle.c_tree.specs.declared.statement.TStatement.TheOpen.TStatement-F.{For, Switch, Case, Default, Break}
use Rattle.c_tree.specs.declared.unit.TypedFunction.{TypedFunction}
use Rattle.c_tree.specs.declared.unit.TypedUnit.{TypedUnit}
use Rattle.c_tree.specs.Rows.{Row, Todo, Gives, Stays, Stores, InSlot, Peeks, Combines, Increments, Reads, Operates, Drops, CaseHere, DefaultHere, Breaks, Selects, Loops, Returns}
use Rattle.c_tree.specs.Samples.{rows, codes_of, expression, number, int, int_access, local, value, assignment, compound, binary, statement, does, gives, block, int_function, function_symbol, unit, end_at}

abbrev pub i : TExpr
i = local int 0

abbrev pub s : TExpr
s = local int 1

-- s += n;
abbrev pub adds : ℕ → TStatement
adds n = does (compound s operator.Add (number n))

abbrev pub cases : TStatement
cases = statement (Switch (value i) (block (
    statement (Case 1 (adds 1)) ∷ statement (Case 2 (adds 10)) ∷ statement Break ∷ statement (Default (adds 100)) ∷ [])))

-- i < 5, and i++
abbrev pub is_below : TExpr
is_below = binary operator.Less (value i) (number 5)

abbrev pub goes_up : TExpr
goes_up = expression int (form.Step i (Plain operator.Add) false int_access)

abbrev pub loop : TStatement
loop = statement (For (Some (assignment i (number 0))) (Some is_below) (Some goes_up) cases)

abbrev pub control_main : TypedFunction
control_main = record {
  symbol = 0;
  parameters = 0;
  locals = int ∷ int ∷ [];
  entries = [];
  labels = 0;
  body = block (does (assignment s (number 0)) ∷ loop ∷ gives (value s) ∷ []);
}

abbrev pub control : TypedUnit
control = unit (int_function ∷ []) (function_symbol (codes "main") 10 0 ∷ []) (control_main ∷ [])

-- s += n;
abbrev pub add_rows : ℕ → List Row
add_rows n = Stays ∷ Peeks (InSlot 1) int_access ∷ Gives n ∷ Combines (InSlot 1) (Plain operator.Add) int_access ∷ Drops ∷ []

-- s = 0; and i = 0;
abbrev pub zero_rows : (slot : ℕ) → List Row
zero_rows slot = Stays ∷ Gives 0 ∷ Stores (InSlot slot) int_access ∷ Drops ∷ []

abbrev pub before_rows : Todo
before_rows = rows (Stays ∷ Peeks (InSlot 0) int_access ∷ Increments (InSlot 0) (Plain operator.Add) false int_access ∷ Drops ∷ [])

abbrev pub test_rows : Todo
test_rows = rows (Stays ∷ Reads (InSlot 0) int_access ∷ Gives 5 ∷ Operates operator.Less ∷ [])

abbrev pub case_rows : Todo
case_rows = rows ((CaseHere 1 ∷ add_rows 1) ++ (CaseHere 2 ∷ add_rows 10) ++ (Breaks ∷ DefaultHere ∷ add_rows 100))

abbrev pub loop_rows : Todo
loop_rows = rows (Stays ∷ Reads (InSlot 0) int_access ∷ Selects (1 ∷ 2 ∷ []) case_rows ∷ [])

abbrev pub ControlRows : Type 0
ControlRows = codes_of control ≡ rows (
    zero_rows 1 ++ zero_rows 0
    ++ (Loops true before_rows test_rows loop_rows ∷ Stays ∷ Reads (InSlot 1) int_access ∷ Returns ∷ Gives 0 ∷ Returns ∷ [])
    ) ∷ []

-- 100 for each of 0, 3 and 4; 11 for 1, which falls through; 10 for 2; the low 8 bits of 321
abbrev pub ControlEnds : Type 0
ControlEnds = end_at control 137 ≡ Some (end.Exit 65)

abbrev pub ControlGoesOn : Type 0
ControlGoesOn = end_at control 136 ≡ None
