-- Runs of small programs to their ends, with what they cost.
use Rattle.std.specs.Prelude.{◌≡◌, ℕ, List, [], ◌∷◌, codes, Option, Some, None, Bool, true, false}
use Rattle.fsc_base.specs.declared.end.End.{End}
use Rattle.fsc_base.specs.declared.end.End.TheVariants as end
use Rattle.fsc_base.specs.declared.word.Width.TheVariants.{One, Four}
use Rattle.fsc_base.specs.declared.word.WordKind.TheVariants.{Fat, Narrow}
use Rattle.c_ops.specs.declared.linkage.Linkage.TheVariants.{External}
use Rattle.c_ops.specs.declared.linkage.Definition.TheVariants as definition
use Rattle.c_ops.specs.declared.operators.Binary.TheVariants as binary
use Rattle.c_ops.specs.declared.primitive.Primitive.TheVariants as primitive
use Rattle.c_ops.specs.Runs.{At}
use Rattle.c_shapes.specs.Runs.{Seen}
use Rattle.c_link.specs.Linked.{program_of}
use Rattle.fat_code.specs.declared.op.Op.{Op}
use Rattle.fat_code.specs.declared.op.Op.TheVariants as op
use Rattle.fat_code.specs.declared.program.ProgramParts.{ProgramParts}
use Rattle.fat_code.specs.declared.unit.FatParts.{FatParts}
use Rattle.fat_code.specs.declared.unit.FatSymbol.{FatSymbol}
use Rattle.fat_code.specs.Views.{fat_view}
use Rattle.fat_code.specs.States.{FatState}
use Rattle.fat_code.specs.Machine.{FatRun, fat_watch}
use Rattle.fat_code.specs.FaultLaws.{unit_of, function_of, returns_seven, returns_sum}

-- ---- programs

-- the program that linking makes of one unit
abbrev pub program_with : FatParts → ProgramParts
program_with unit =
    let linked = program_of (fat_view unit ∷ []) in
    record { units = unit ∷ []; functions = linked.functions; symbols = linked.symbols; objects = linked.objects; heap = linked.heap; entry = linked.entry }

-- how a run ended, if it did, what it cost, and what it wrote
pub record Outcome : Type 0 where
  pub end : Option End
  pub cost : ℕ
  pub written : List ℕ

abbrev pub outcome_of : At (Seen FatState) → Outcome
outcome_of run = record { end = run.end; cost = run.cost; written = run.written }

abbrev pub outcome : Option End → (cost : ℕ) → (written : List ℕ) → Outcome
outcome end cost written = record { end = end; cost = cost; written = written }

-- ---- return 7

-- The call costs 8, the number 1, the return 8 and the exit 1. One less, and the end has not come.
abbrev pub RunsSeven : Type 0
RunsSeven =
    (outcome_of (FatRun (program_with (unit_of returns_seven)) [] 1000) ≡ outcome (Some (end.Exit 7)) 18 [])
    × (outcome_of (FatRun (program_with (unit_of returns_seven)) [] 17) ≡ outcome None 17 [])

-- ---- int f(int a,int b){return a+b;}int main(void){return f(2,3);}

abbrev pub symbol_of : (name : List ℕ) → (used : Bool) → (function : ℕ) → FatSymbol
symbol_of name used function = record { name = name; linkage = External; kind = 10; used = used; definition = definition.Function function }

abbrev pub calls_sum : List Op
calls_sum = op.Symbol 0 0 ∷ op.Number 2 ∷ op.Number 3 ∷ op.Call 2 ∷ op.Return ∷ op.Label 0 ∷ op.Number 0 ∷ op.Return ∷ []

abbrev pub sum_unit : FatParts
sum_unit = record (unit_of returns_seven) {
  symbols = symbol_of (codes "f") true 0 ∷ symbol_of (codes "main") false 1 ∷ [];
  functions = record (function_of returns_sum) { parameters = 2 } ∷ function_of calls_sum ∷ [];
}

-- main 8, its three words 3, f 8, its sum 3, two returns 16 and the exit 1
abbrev pub RunsSum : Type 0
RunsSum = outcome_of (FatRun (program_with sum_unit) [] 1000) ≡ outcome (Some (end.Exit 5)) 39 []

-- ---- int main(void){int a[3];a[3]=1;return 0;}

abbrev pub stores_behind : List Op
stores_behind =
    op.Entry 0 ∷ op.Number 3 ∷ op.Number 4 ∷ op.Binary binary.Multiply ∷ op.Binary binary.Add ∷ op.Number 1 ∷ op.Store Four 1 0 ∷ op.Drop
    ∷ op.Number 0 ∷ op.Return ∷ op.Label 0 ∷ op.Number 0 ∷ op.Return ∷ []

abbrev pub array_unit : FatParts
array_unit =
    record (unit_of returns_seven) { functions = record (function_of stores_behind) { entries = record { size = 12; shape = 1 } ∷ [] } ∷ [] }

-- The call costs 8, the block 8 and its 3 words, and each of seven operations 1. Block 1 is main, and block 2 the array, of one fat
-- word; the store is behind it, and so it is away.
abbrev pub RunsBehind : Type 0
RunsBehind =
    (outcome_of (FatRun (program_with array_unit) [] 1000) ≡ outcome (Some (end.Access 2 12 4)) 26 [])
    × (fat_watch (program_with array_unit) [] 1000 ≡ record { shapes = None ∷ Some (Fat ∷ []) ∷ []; away = 1 })

-- ---- int main(void){return __fsc_put(__fsc_get());}

abbrev pub echoes : List Op
echoes = op.Primitive primitive.Get ∷ op.Primitive primitive.Put ∷ op.Return ∷ op.Label 0 ∷ op.Number 0 ∷ op.Return ∷ []

-- on the input "h", and on none
abbrev pub RunsEcho : Type 0
RunsEcho =
    (outcome_of (FatRun (program_with (unit_of echoes)) (codes "h") 1000) ≡ outcome (Some (end.Exit 104)) 19 (codes "h"))
    × (outcome_of (FatRun (program_with (unit_of echoes)) [] 1000) ≡ outcome (Some (end.Exit 255)) 19 (255 ∷ []))

-- ---- char *p=__fsc_alloc(3);p[2]=1;return p[3]; with p in slot 0

abbrev pub allocates_three : List Op
allocates_three =
    op.Number 3 ∷ op.Primitive primitive.Alloc ∷ op.Cast 0 ∷ op.SlotSet 0 ∷ op.Drop
    ∷ op.SlotGet 0 ∷ op.Number 2 ∷ op.Binary binary.Add ∷ op.Number 1 ∷ op.Narrow One false ∷ op.Store One 0 0 ∷ op.Drop
    ∷ op.SlotGet 0 ∷ op.Number 3 ∷ op.Binary binary.Add ∷ op.Load One false 0 0 ∷ op.Return ∷ op.Label 0 ∷ op.Number 0 ∷ op.Return ∷ []

-- The conversion decides the block as one narrow word; the store is near, and the load behind the end is away. The call costs 8, the
-- number 1, the allocation 8 and 1 word, and fourteen operations 1 each.
abbrev pub RunsAllocated : Type 0
RunsAllocated =
    (outcome_of (FatRun (program_with (unit_of allocates_three)) [] 1000) ≡ outcome (Some (end.Access 2 3 1)) 32 [])
    × (fat_watch (program_with (unit_of allocates_three)) [] 1000 ≡ record { shapes = None ∷ Some (Narrow ∷ []) ∷ []; away = 1 })

-- ---- other ends

-- a call of a number, a division by 0, an exit, and a call of itself without an end
abbrev pub RunsToEnds : Type 0
RunsToEnds =
    (outcome_of (FatRun (program_with (unit_of (op.Number 1 ∷ op.Call 0 ∷ op.Return ∷ []))) [] 1000) ≡ outcome (Some (end.Call 0 1)) 10 [])
    × (outcome_of (FatRun (program_with (unit_of (op.Number 1 ∷ op.Number 0 ∷ op.Binary binary.Divide ∷ op.Return ∷ []))) [] 1000)
    ≡ outcome (Some end.Divide) 11 [])
    × (outcome_of (FatRun (program_with (unit_of (op.Number 259 ∷ op.Primitive primitive.Exit ∷ op.Return ∷ []))) [] 1000)
    ≡ outcome (Some (end.Exit 3)) 10 [])
    × (outcome_of (FatRun (program_with (unit_of (op.Primitive primitive.Abort ∷ op.Return ∷ []))) [] 1000) ≡ outcome (Some end.Abort) 9 [])
