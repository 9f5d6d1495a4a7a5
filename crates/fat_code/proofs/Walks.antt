-- Walking along rows of faults.
use Rattle.std.proofs.Common.{◌≡◌, ℕ, zero, suc, ◌+◌, ◌*◌, ◌<◌, ◌≤◌, Bool, true, false, cond, List, [], ◌∷◌, ◌++◌, length, drop, get_or, sum_by, Option, Some, None, Result, Ok, Err, refl, sym, ap, subst, ◌∙◌, arith}
use Rattle.std.proofs.lemmas.List.{drop_more, drop_all}
use Rattle.std.proofs.lemmas.List.Sums.{sum_by-drop_more, sum_by-cons, sum_by_more}
use Rattle.fat_code.specs.declared.fault.CheckNo.{CheckNo}
use Rattle.fat_code.specs.declared.fault.CheckNo.TheVariants.{Fault, NoMemory}
use Rattle.fat_code.specs.declared.fault.UnitFault.{UnitFault}
use Rattle.fat_code.specs.Rows.{Row, first_fault, rows_from}
use Rattle.std.specs.Prelude.{slice_get}
use Rattle.fat_code.specs.declared.function_check.Counts.{Counts}
use Rattle.fat_code.specs.declared.op.Op.{Op}
use Rattle.fat_code.specs.declared.unit.FatFunction.{FatFunction}
use Rattle.fat_code.specs.declared.unit.FatParts.{FatParts}
use Rattle.fat_code.specs.Heights.{reached_behind}
use Rattle.fat_code.specs.Lengths.{op_bytes}
use Rattle.fat_code.specs.FunctionRows.{function_rows}
use Rattle.fat_code.specs.TypeRows.{four_bytes}
use Rattle.fat_code.specs.OpRows.{is_wrong_end, height_rows, number_rows, ops_from}
use Rattle.fat_code.specs.Walking.{IsFirst, Checks, HasWalked, HasWalkedOps, HasSummed, is_wrong_end_by, height_rows_by, function_rows_by}

-- ---- rows that are joined

cond_none : (holds : Bool) (found : UnitFault × ℕ) (rest : Option (UnitFault × ℕ)) → cond holds (Some found) rest ≡ None → (holds ≡ false) × (rest ≡ None)
cond_none true found rest e = absurd cc
cond_none false found rest e = (refl, e)

cond_some : (holds : Bool) (first found : UnitFault × ℕ) (rest more : Option (UnitFault × ℕ)) → (rest ≡ Some found → more ≡ Some found)
    → cond holds (Some first) rest ≡ Some found → cond holds (Some first) more ≡ Some found
cond_some true first found rest more step e = e
cond_some false first found rest more step e = step e

-- where none of the first rows holds, the fault is that of the others
pub after_none : (one other : List Row) → first_fault one ≡ None → first_fault (one ++ other) ≡ first_fault other
after_none [] other none = refl
after_none (first ∷ rest) other none =
    let parts = cond_none first.holds (first.fault, first.offset) (first_fault rest) none in
    rw parts.0 (after_none rest other parts.1)

-- the others are not asked where one of the first rows holds
pub after_some : (one other : List Row) (found : UnitFault × ℕ) → first_fault one ≡ Some found → first_fault (one ++ other) ≡ Some found
after_some [] other found some = absurd cc
after_some (first ∷ rest) other found some =
    cond_some first.holds (first.fault, first.offset) found (first_fault rest) (first_fault (rest ++ other)) (after_some rest other found) some

pub first_front : (one other : List Row) (refusal : CheckNo) → IsFirst one refusal → IsFirst (one ++ other) refusal
first_front one other (Fault fault offset) is = after_some one other (fault, offset) is
first_front one other NoMemory is = tt

pub first_behind : (one other : List Row) (refusal : CheckNo) → first_fault one ≡ None → IsFirst other refusal → IsFirst (one ++ other) refusal
first_behind one other (Fault fault offset) none is = after_none one other none ∙ is
first_behind one other NoMemory none is = tt

pub none_joined : (one other : List Row) → first_fault one ≡ None → first_fault other ≡ None → first_fault (one ++ other) ≡ None
none_joined one other none also = after_none one other none ∙ also

pub checks_behind : (one other : List Row) (behind : ℕ) (result : Result ℕ CheckNo) → first_fault one ≡ None → Checks other behind result
    → Checks (one ++ other) behind result
checks_behind one other behind (Ok at) none is = (is.0, none_joined one other none is.1)
checks_behind one other behind (Err refusal) none is = first_behind one other refusal none is

-- the same fault, told of rows that have the same
first_same : (one other : List Row) (refusal : CheckNo) → first_fault one ≡ first_fault other → IsFirst other refusal → IsFirst one refusal
first_same one other (Fault fault offset) same is = same ∙ is
first_same one other NoMemory same is = tt

pub checks_moved : (rows : List Row) (there behind : ℕ) (result : Result ℕ CheckNo) → Checks [] there result → there ≡ behind → first_fault rows ≡ None
    → Checks rows behind result
checks_moved rows there behind (Ok at) is same none = (is.0 ∙ same, none)
checks_moved rows there behind (Err (Fault fault offset)) is same none = absurd cc
checks_moved rows there behind (Err NoMemory) is same none = tt

pub three_second : (one two three : List Row) (refusal : CheckNo) → first_fault one ≡ None → IsFirst two refusal → IsFirst (one ++ two ++ three) refusal
three_second one two three refusal none first = first_front (one ++ two) three refusal (first_behind one two refusal none first)

pub three_whole : (one two three : List Row) (there behind : ℕ) (result : Result ℕ CheckNo) → first_fault one ≡ None → first_fault two ≡ None
    → Checks three there result → there ≡ behind → Checks (one ++ two ++ three) behind result
three_whole one two three there behind result none also checks same =
    checks_behind (one ++ two) three behind result (none_joined one two none also) (subst (λ (x : ℕ). Checks three x result) same checks)

-- ---- lists

pub walked_begin : {T : Type 0} (rows : (index at : ℕ) → T → List Row) (bytes : T → ℕ) (items : List T) (start : ℕ)
    → HasWalked rows bytes items start 0 start
walked_begin rows bytes items start = record { same = refl; place = refl }

-- the rows of the rest are those of the item with the index, and those behind it
rest_rows : {T : Type 0} (rows : (index at : ℕ) → T → List Row) (bytes : T → ℕ) (items : List T) (index at : ℕ) (item : T)
    → index < length items → item ≡ get_or items index item
    → rows_from rows bytes index at (drop index items) ≡ rows index at item ++ rows_from rows bytes (index + 1) (at + bytes item) (drop (index + 1) items)
rest_rows rows bytes items index at item lt is =
    let step : drop index items ≡ item ∷ drop (index + 1) items = drop_more items index item lt ∙ ap (λ (x : _). x ∷ drop (index + 1) items) (sym is) in
    ap (λ (xs : List _). rows_from rows bytes index at xs) step

pub walked_next : {T : Type 0} (rows : (index at : ℕ) → T → List Row) (bytes : T → ℕ) (items : List T) (start index at next : ℕ) (item : T)
    → index < length items → item ≡ get_or items index item → HasWalked rows bytes items start index at
    → next ≡ at + bytes item → first_fault (rows index at item) ≡ None → HasWalked rows bytes items start (index + 1) next
walked_next rows bytes items start index at next item lt is walked step none =
    let rest = rest_rows rows bytes items index at item lt is in
    let sums : sum_by bytes (drop index items) ≡ bytes (get_or items index item) + sum_by bytes (drop (index + 1) items) = sum_by-drop_more bytes items index item lt in
    let same_item : bytes (get_or items index item) ≡ bytes item = ap bytes (sym is) in
    let place = walked.place in
    record {
      same = rw step (walked.same ∙ ap first_fault rest ∙ after_none (rows index at item) (rows_from rows bytes (index + 1) (at + bytes item) (drop (index + 1) items)) none);
      place = omega arith;
    }

pub walked_fault : {T : Type 0} (rows : (index at : ℕ) → T → List Row) (bytes : T → ℕ) (items : List T) (start index at : ℕ) (item : T) (refusal : CheckNo)
    → index < length items → item ≡ get_or items index item → HasWalked rows bytes items start index at
    → IsFirst (rows index at item) refusal → IsFirst (rows_from rows bytes 0 start items) refusal
walked_fault rows bytes items start index at item refusal lt is walked first =
    let others = rows_from rows bytes (index + 1) (at + bytes item) (drop (index + 1) items) in
    first_same (rows_from rows bytes 0 start items) (rows index at item ++ others) refusal (walked.same ∙ ap first_fault (rest_rows rows bytes items index at item lt is))
    (first_front (rows index at item) others refusal first)

pub walked_end : {T : Type 0} (rows : (index at : ℕ) → T → List Row) (bytes : T → ℕ) (items : List T) (start index at : ℕ)
    → length items ≤ index → HasWalked rows bytes items start index at
    → (at ≡ start + sum_by bytes items) × (first_fault (rows_from rows bytes 0 start items) ≡ None)
walked_end rows bytes items start index at le walked =
    let none = drop_all index items le in
    let place : start + sum_by bytes items ≡ at + sum_by bytes (drop index items) = walked.place in
    let last : start + sum_by bytes items ≡ at + 0 = place ∙ ap (λ (xs : List _). at + sum_by bytes xs) none in
    (omega arith, walked.same ∙ ap (λ (xs : List _). first_fault (rows_from rows bytes index at xs)) none)

pub four_each : (numbers : List ℕ) → sum_by four_bytes numbers ≡ 4 * length numbers
four_each [] = refl
four_each (number ∷ numbers) =
    let rest = four_each numbers in
    let step = sum_by-cons four_bytes number numbers in
    omega arith

-- ---- operations

-- within a list it does not matter what stands for what is not there
get_or_default : {T : Type 0} (xs : List T) (i : ℕ) (d e : T) → i < length xs → get_or xs i d ≡ get_or xs i e
get_or_default [] i d e lt = absurd (omega arith)
get_or_default (x ∷ xs) zero d e lt = refl
get_or_default (x ∷ xs) (suc i) d e lt = get_or_default xs i d e (omega arith)

-- what stands behind an operation is judged by the next one alone
same_end : (this : Op) (rest : List Op) → is_wrong_end this rest ≡ is_wrong_end_by this (slice_get rest 0)
same_end this [] = refl
same_end this (next ∷ rest) = refl

next_is : (ops : List Op) (index : ℕ) → slice_get ops index ≡ slice_get (drop index ops) 0
next_is ops zero = refl
next_is [] (suc index) = refl
next_is (this ∷ ops) (suc index) = next_is ops index

same_heights : (ops : List Op) (reached : Option ℕ) (at : ℕ) (this : Op) (rest : List Op) (next : Option Op) → next ≡ slice_get rest 0
    → height_rows ops reached at this rest ≡ height_rows_by ops reached at this next
same_heights ops reached at this rest next is = rw (is, ← same_end this rest) refl

-- the rows of the operation with an index
abbrev pub rows_of_op : FatParts → FatFunction → (reached : Option ℕ) → (at : ℕ) → Op → Option Op → List Row
rows_of_op unit function reached at this next = height_rows_by function.ops reached at this next ++ number_rows unit function at this

rest_ops : (unit : FatParts) (function : FatFunction) (index at : ℕ) (reached : Option ℕ) (this : Op) (next : Option Op)
    → index < length function.ops → this ≡ get_or function.ops index this → next ≡ slice_get function.ops (index + 1)
    → first_fault (ops_from unit function reached at (drop index function.ops))
    ≡ first_fault (rows_of_op unit function reached at this next ++ ops_from unit function (reached_behind reached this) (at + op_bytes this) (drop (index + 1) function.ops))
rest_ops unit function index at reached this next lt is follows =
    let rest = drop (index + 1) function.ops in
    let step : drop index function.ops ≡ this ∷ rest = drop_more function.ops index this lt ∙ ap (λ (x : Op). x ∷ rest) (sym is) in
    let behind = ops_from unit function (reached_behind reached this) (at + op_bytes this) rest in
    let heights : height_rows function.ops reached at this rest ≡ height_rows_by function.ops reached at this next =
    same_heights function.ops reached at this rest next (follows ∙ next_is function.ops (index + 1)) in
    ap (λ (xs : List Op). first_fault (ops_from unit function reached at xs)) step
    ∙ ap (λ (rows : List Row). first_fault (rows ++ (number_rows unit function at this ++ behind))) heights

pub ops_begin : (unit : FatParts) (function : FatFunction) (start : ℕ) → HasWalkedOps unit function start 0 start (Some 0)
ops_begin unit function start = record { same = refl; place = refl }

pub ops_next : (unit : FatParts) (function : FatFunction) (start index at behind : ℕ) (reached : Option ℕ) (this : Op) (next : Option Op)
    → index < length function.ops → this ≡ get_or function.ops index this → next ≡ slice_get function.ops (index + 1)
    → HasWalkedOps unit function start index at reached → behind ≡ at + op_bytes this
    → first_fault (rows_of_op unit function reached at this next) ≡ None
    → HasWalkedOps unit function start (index + 1) behind (reached_behind reached this)
ops_next unit function start index at behind reached this next lt is follows walked step none =
    let sums : sum_by op_bytes (drop index function.ops) ≡ op_bytes (get_or function.ops index this) + sum_by op_bytes (drop (index + 1) function.ops)
    = sum_by-drop_more op_bytes function.ops index this lt in
    let same_op : op_bytes (get_or function.ops index this) ≡ op_bytes this = ap op_bytes (sym is) in
    let place = walked.place in
    record {
      same = rw step (walked.same ∙ rest_ops unit function index at reached this next lt is follows
          ∙ after_none (rows_of_op unit function reached at this next)
          (ops_from unit function (reached_behind reached this) (at + op_bytes this) (drop (index + 1) function.ops)) none);
      place = omega arith;
    }

pub ops_fault : (unit : FatParts) (function : FatFunction) (start index at : ℕ) (reached : Option ℕ) (this : Op) (next : Option Op) (refusal : CheckNo)
    → index < length function.ops → this ≡ get_or function.ops index this → next ≡ slice_get function.ops (index + 1)
    → HasWalkedOps unit function start index at reached → IsFirst (rows_of_op unit function reached at this next) refusal
    → IsFirst (ops_from unit function (Some 0) start function.ops) refusal
ops_fault unit function start index at reached this next refusal lt is follows walked first =
    let behind = ops_from unit function (reached_behind reached this) (at + op_bytes this) (drop (index + 1) function.ops) in
    first_same (ops_from unit function (Some 0) start function.ops) (rows_of_op unit function reached at this next ++ behind) refusal
    (walked.same ∙ rest_ops unit function index at reached this next lt is follows)
    (first_front (rows_of_op unit function reached at this next) behind refusal first)

-- the same with the operation read from the list
pub get_next : (unit : FatParts) (function : FatFunction) (start index at behind : ℕ) (reached : Option ℕ) (ops : List Op) (none_there : Op) (next : Option Op)
    → ops ≡ function.ops → index < length ops → next ≡ slice_get ops (index + 1)
    → HasWalkedOps unit function start index at reached → behind ≡ at + op_bytes (get_or ops index none_there)
    → first_fault (rows_of_op unit function reached at (get_or ops index none_there) next) ≡ None
    → HasWalkedOps unit function start (index + 1) behind (reached_behind reached (get_or ops index none_there))
get_next unit function start index at behind reached ops none_there next same lt follows walked step none =
    let this = get_or ops index none_there in
    ops_next unit function start index at behind reached this next (subst (λ (xs : List Op). index < length xs) same lt)
    (subst (λ (xs : List Op). this ≡ get_or xs index this) same (get_or_default ops index none_there this lt))
    (subst (λ (xs : List Op). next ≡ slice_get xs (index + 1)) same follows) walked step none

pub get_fault : (unit : FatParts) (function : FatFunction) (start index at : ℕ) (reached : Option ℕ) (ops : List Op) (none_there : Op) (next : Option Op) (refusal : CheckNo)
    → ops ≡ function.ops → index < length ops → next ≡ slice_get ops (index + 1)
    → HasWalkedOps unit function start index at reached → IsFirst (rows_of_op unit function reached at (get_or ops index none_there) next) refusal
    → IsFirst (ops_from unit function (Some 0) start function.ops) refusal
get_fault unit function start index at reached ops none_there next refusal same lt follows walked first =
    let this = get_or ops index none_there in
    ops_fault unit function start index at reached this next refusal (subst (λ (xs : List Op). index < length xs) same lt)
    (subst (λ (xs : List Op). this ≡ get_or xs index this) same (get_or_default ops index none_there this lt))
    (subst (λ (xs : List Op). next ≡ slice_get xs (index + 1)) same follows) walked first

pub ops_end : (unit : FatParts) (function : FatFunction) (start index at : ℕ) (reached : Option ℕ) → length function.ops ≤ index
    → HasWalkedOps unit function start index at reached
    → (at ≡ start + sum_by op_bytes function.ops) × (first_fault (ops_from unit function (Some 0) start function.ops) ≡ None)
ops_end unit function start index at reached le walked =
    let none = drop_all index function.ops le in
    let place : start + sum_by op_bytes function.ops ≡ at + sum_by op_bytes (drop index function.ops) = walked.place in
    let last : start + sum_by op_bytes function.ops ≡ at + 0 = place ∙ ap (λ (xs : List Op). at + sum_by op_bytes xs) none in
    (omega arith, walked.same ∙ ap (λ (xs : List Op). first_fault (ops_from unit function reached at xs)) none)

-- ---- counts

pub summed_next : (functions : List FatFunction) (index : ℕ) (function : FatFunction) (before behind : Counts)
    → index < length functions → function ≡ get_or functions index function → HasSummed functions index before
    → behind.entries ≡ before.entries + length function.entries → behind.ops ≡ before.ops + length function.ops
    → HasSummed functions (index + 1) behind
summed_next functions index function before behind lt is summed entries ops =
    let e = sum_by_more (λ (f : FatFunction). length f.entries) functions index function lt in
    let o = sum_by_more (λ (f : FatFunction). length f.ops) functions index function lt in
    let same_entries : length (get_or functions index function).entries ≡ length function.entries = ap (λ (f : FatFunction). length f.entries) (sym is) in
    let same_ops : length (get_or functions index function).ops ≡ length function.ops = ap (λ (f : FatFunction). length f.ops) (sym is) in
    let was_entries = summed.entries in
    let was_ops = summed.ops in
    record { entries = omega arith; ops = omega arith }

pub same_function : (unit : FatParts) (index at : ℕ) (function : FatFunction) (counts : Counts) → HasSummed unit.functions (index + 1) counts
    → function_rows unit index at function ≡ function_rows_by unit counts.entries counts.ops at function
same_function unit index at function counts summed = rw (summed.entries, summed.ops) refl
