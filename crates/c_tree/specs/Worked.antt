-- Small programs, worked through: how they end, and at which cost.
use Rattle.std.specs.Prelude.{◌≡◌, [], ◌∷◌, codes, Some, None}
use Rattle.fsc_base.specs.declared.word.WordKind.TheVariants.{Fat}
use Rattle.fsc_base.specs.declared.end.End.TheVariants as end
use Rattle.c_types.specs.declared.node.TypeNode.TheVariants.{Array, Pointer}
use Rattle.c_tree.specs.declared.expression.TExpr.{TExpr}
use Rattle.c_tree.specs.declared.expression.Form.TheVariants as form
use Rattle.c_tree.specs.declared.expression.Side.TheVariants.{Left}
use Rattle.c_tree.specs.declared.statement.TStatement.TheOpen.TStatement-F.{Expression, Compound, ReturnValue}
use Rattle.c_tree.specs.declared.unit.EntryOf.TheVariants as of
use Rattle.c_tree.specs.declared.unit.TypedFunction.{TypedFunction}
use Rattle.c_tree.specs.declared.unit.TypedUnit.{TypedUnit}
use Rattle.c_tree.specs.Rows.{Gives, Locates, Stays, Indexes, Stores, InMemory, Drops, Returns}
use Rattle.c_tree.specs.Samples.{rows, codes_of, expression, number, int, int_access, statement, int_function, function_symbol, unit, end_at, watch_of}

-- ---- int main(void){return 7;}

abbrev pub seven_main : TypedFunction
seven_main = record {
  symbol = 0;
  parameters = 0;
  locals = [];
  entries = [];
  labels = 0;
  body = statement (Compound (statement (ReturnValue (number 7)) ∷ []));
}

abbrev pub seven : TypedUnit
seven = unit (int_function ∷ []) (function_symbol (codes "main") 10 0 ∷ []) (seven_main ∷ [])

abbrev pub SevenRows : Type 0
SevenRows = codes_of seven ≡ rows (Gives 7 ∷ Returns ∷ Gives 0 ∷ Returns ∷ []) ∷ []

-- the call of main, the number, the return and the exit
abbrev pub SevenEnds : Type 0
SevenEnds = end_at seven 4 ≡ Some (end.Exit 7)

abbrev pub SevenGoesOn : Type 0
SevenGoesOn = end_at seven 3 ≡ None

-- ---- int main(void){int a[3];a[3]=1;return 0;}

-- int[3] is type 11, int * type 12
abbrev pub past_a : TExpr
past_a = expression int (form.Index (expression 12 (form.Decay (expression 11 (form.Local 0)))) (number 3) Left 4)

abbrev pub past_end_main : TypedFunction
past_end_main = record {
  symbol = 0;
  parameters = 0;
  locals = 11 ∷ [];
  entries = record { of = of.Local 0; kind = 11; size = 12 } ∷ [];
  labels = 0;
  body = statement (Compound (
      statement (Expression (expression int (form.Assign past_a (number 1) int_access)))
      ∷ statement (ReturnValue (number 0))
      ∷ []));
}

abbrev pub past_end : TypedUnit
past_end = unit (int_function ∷ Array int 3 ∷ Pointer int ∷ []) (function_symbol (codes "main") 10 0 ∷ []) (past_end_main ∷ [])

abbrev pub PastEndRows : Type 0
PastEndRows = codes_of past_end ≡ rows (
    Locates 0 ∷ Stays ∷ Gives 3 ∷ Indexes Left 4 ∷ Gives 1 ∷ Stores (InMemory int 0) int_access ∷ Drops ∷ Gives 0 ∷ Returns ∷ Gives 0 ∷ Returns ∷ []
    ) ∷ []

-- the call, a's block of 3 words, its address, the array as a pointer, 3, the subscript, 1, and the store, which ends the run
abbrev pub PastEndEnds : Type 0
PastEndEnds = end_at past_end 11 ≡ Some (end.Access 2 12 4)

abbrev pub PastEndGoesOn : Type 0
PastEndGoesOn = end_at past_end 10 ≡ None

-- the store is an access that is away
abbrev pub PastEndWatch : Type 0
PastEndWatch = watch_of past_end 11 ≡ record { shapes = None ∷ Some (Fat ∷ []) ∷ []; away = 1 }
