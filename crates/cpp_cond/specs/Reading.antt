-- Expressions read from left to right, by precedence. A construct that waits for its last operand is pending.
use Rattle.std.specs.Prelude.{ℕ, ◌&&◌, ◌||◌, not, nat_lt, Bool, true, false, List, [], ◌∷◌, Option, Some, None, if◌then◌else◌}
use Rattle.std.specs.Option.{option_and_then}
use Rattle.c_lexer.specs.declared.punctuator.Punctuator.{Punctuator}
use Rattle.c_lexer.specs.declared.punctuator.Punctuator.TheVariants as token
use Rattle.cpp_cond.specs.declared.evaluation.Pending.{Pending}
use Rattle.cpp_cond.specs.declared.evaluation.Whole.{Whole}
use Rattle.cpp_cond.specs.declared.evaluation.Pending.TheVariants.{Parenthesis, Unary, Binary, LogicalAnd, LogicalOr, Question, Colon}
use Rattle.cpp_cond.specs.declared.term.Term.{Term}
use Rattle.cpp_cond.specs.declared.term.Term.TheVariants.{Operand, Operator}
use Rattle.cpp_cond.specs.declared.value.Value.{Value}
use Rattle.cpp_cond.specs.declared.operator.Unary.{Unary as UnaryOperator}
use Rattle.cpp_cond.specs.declared.operator.Binary.{Binary as BinaryOperator}
use Rattle.cpp_cond.specs.declared.operator.Level.{Level}
use Rattle.cpp_cond.specs.declared.operator.Level.TheVariants as level
use Rattle.cpp_cond.specs.Expressions.{unary_of, binary_of, level_of}
use Rattle.cpp_cond.specs.Values.{truth, is_true, joint, unary_value, binary_value, choice_of}

-- how tight a level is
abbrev pub rank : Level → ℕ
rank level.Enclosing = 0
rank level.Conditional = 1
rank level.LogicalOr = 2
rank level.LogicalAnd = 3
rank level.Or = 4
rank level.ExclusiveOr = 5
rank level.And = 6
rank level.Equality = 7
rank level.Relational = 8
rank level.Shift = 9
rank level.Additive = 10
rank level.Multiplicative = 11
rank level.Unary = 12

-- how tightly a construct holds its last operand
abbrev pub holds_at : Pending → Level
holds_at Parenthesis = level.Enclosing
holds_at (Unary operator) = level.Unary
holds_at (Binary operator left) = level_of operator
holds_at (LogicalAnd left live) = level.LogicalAnd
holds_at (LogicalOr left live) = level.LogicalOr
holds_at (Question condition live) = level.Enclosing
holds_at (Colon condition first live) = level.Conditional

-- a construct with its last operand
abbrev pub divided : Bool → Value → Option Value → Option Whole
divided live unused (Some value) = Some (record { value = value; is_live = live })
divided true unused None = None
divided false unused None = Some (record { value = unused; is_live = false })

unfoldable pub completed : Bool → Pending → Value → Option Whole
completed live Parenthesis last = None
completed live (Unary operator) last = Some (record { value = unary_value operator last; is_live = live })
completed live (Binary operator left) last = divided live (joint left last left.bits) (binary_value operator left last)
completed _ (LogicalAnd left live) last = Some (record { value = truth (left && is_true last); is_live = live })
completed _ (LogicalOr left live) last = Some (record { value = truth (left || is_true last); is_live = live })
completed live (Question condition outer) last = None
completed _ (Colon condition first live) last = Some (record { value = choice_of condition first last; is_live = live })

-- an operand, and what waits around it, the innermost first
pub record Held : Type 0 where
  pub value : Value
  pub live : Bool
  pub pending : List Pending

-- those that hold the operand at least as tightly as a level are completed, the innermost first
unfoldable pub complete : Level → List Pending → Bool → Value → Option Held
complete level [] live value = Some (record { value = value; live = live; pending = [] })
complete level (innermost ∷ outer) live value =
    if nat_lt (rank (holds_at innermost)) (rank level)
    then Some (record { value = value; live = live; pending = innermost ∷ outer })
    else option_and_then (λ (whole : Whole). complete level outer whole.is_live whole.value) (completed live innermost value)

-- what was read: what waits, the operand that was read last, and whether what comes next is evaluated
pub record Reading : Type 0 where
  pub pending : List Pending
  pub operand : Option Value
  pub live : Bool

abbrev pub start : Reading
start = record { pending = []; operand = None; live = true }

-- a construct waits for its next operand
abbrev pub waiting : Pending → Bool → List Pending → Reading
waiting innermost live outer = record { pending = innermost ∷ outer; operand = None; live = live }

-- ---- where an operand has to begin

abbrev pub opened_by : Reading → Option UnaryOperator → Punctuator → Option Reading
opened_by reading (Some operator) punctuator = Some (record reading { pending = Unary operator ∷ reading.pending })
opened_by reading None token.LeftParenthesis = Some (record reading { pending = Parenthesis ∷ reading.pending })
opened_by reading None _ = None

abbrev pub opened : Reading → Punctuator → Option Reading
opened reading punctuator = opened_by reading (unary_of punctuator) punctuator

abbrev pub begin : Reading → Term → Option Reading
begin reading (Operand value) = Some (record reading { operand = Some value })
begin reading (Operator punctuator) = opened reading punctuator

-- ---- behind an operand

abbrev pub binary_begun : BinaryOperator → Option Held → Option Reading
binary_begun operator None = None
binary_begun operator (Some held) = Some (waiting (Binary operator held.value) held.live held.pending)

abbrev pub and_begun : Option Held → Option Reading
and_begun None = None
and_begun (Some held) = Some (waiting (LogicalAnd (is_true held.value) held.live) (held.live && is_true held.value) held.pending)

abbrev pub or_begun : Option Held → Option Reading
or_begun None = None
or_begun (Some held) = Some (waiting (LogicalOr (is_true held.value) held.live) (held.live && not (is_true held.value)) held.pending)

abbrev pub question_begun : Option Held → Option Reading
question_begun None = None
question_begun (Some held) = Some (waiting (Question (is_true held.value) held.live) (held.live && is_true held.value) held.pending)

abbrev pub colon_in : Value → List Pending → Option Reading
colon_in first (Question condition live ∷ outer) = Some (waiting (Colon condition first live) (live && not condition) outer)
colon_in first _ = None

abbrev pub colon_begun : Option Held → Option Reading
colon_begun None = None
colon_begun (Some held) = colon_in held.value held.pending

abbrev pub closed_in : Value → Bool → List Pending → Option Reading
closed_in value live (Parenthesis ∷ outer) = Some (record { pending = outer; operand = Some value; live = live })
closed_in value live _ = None

abbrev pub closed : Option Held → Option Reading
closed None = None
closed (Some held) = closed_in held.value held.live held.pending

abbrev pub operated_by : Reading → Value → Option BinaryOperator → Punctuator → Option Reading
operated_by reading operand (Some operator) punctuator = binary_begun operator (complete (level_of operator) reading.pending reading.live operand)
operated_by reading operand None token.AndAnd = and_begun (complete level.LogicalAnd reading.pending reading.live operand)
operated_by reading operand None token.OrOr = or_begun (complete level.LogicalOr reading.pending reading.live operand)
operated_by reading operand None token.Question = question_begun (complete level.LogicalOr reading.pending reading.live operand)
operated_by reading operand None token.Colon = colon_begun (complete level.Conditional reading.pending reading.live operand)
operated_by reading operand None token.RightParenthesis = closed (complete level.Conditional reading.pending reading.live operand)
operated_by reading operand None _ = None

abbrev pub operated : Reading → Value → Punctuator → Option Reading
operated reading operand punctuator = operated_by reading operand (binary_of punctuator) punctuator

abbrev pub behind : Reading → Value → Term → Option Reading
behind reading operand (Operand value) = None
behind reading operand (Operator punctuator) = operated reading operand punctuator

-- ---- all terms

abbrev pub step_by : Option Value → Reading → Term → Option Reading
step_by None reading term = begin reading term
step_by (Some operand) reading term = behind reading operand term

abbrev pub step : Reading → Term → Option Reading
step reading term = step_by reading.operand reading term

abbrev pub read : Reading → List Term → Option Reading
read reading [] = Some reading
read reading (term ∷ terms) = option_and_then (λ (next : Reading). read next terms) (step reading term)

abbrev pub only : Value → List Pending → Option Value
only value [] = Some value
only value (innermost ∷ outer) = None

abbrev pub whole_value : Option Held → Option Value
whole_value None = None
whole_value (Some held) = only held.value held.pending

abbrev pub finish_by : Option Value → Reading → Option Value
finish_by None reading = None
finish_by (Some operand) reading = whole_value (complete level.Conditional reading.pending reading.live operand)

abbrev pub finish : Reading → Option Value
finish reading = finish_by reading.operand reading

abbrev pub finish_from : Option Reading → Option Value
finish_from None = None
finish_from (Some reading) = finish reading

-- the value of the terms, None where they are no expression
unfoldable pub value_of : List Term → Option Value
value_of terms = finish_from (read start terms)
