-- Completing what is pending, one construct at a time.
use Rattle.std.proofs.Common.{◌≡◌, refl, sym, ap, ◌∙◌, Bool, true, false, ◌&&◌, ◌||◌, nat_lt, List, [], ◌∷◌, Some, None, Ok}
use Rattle.cpp_cond.specs.declared.evaluation.Pending.{Pending}
use Rattle.cpp_cond.specs.declared.evaluation.Pending.TheVariants.{Parenthesis, Unary, Binary, LogicalAnd, LogicalOr, Question, Colon}
use Rattle.cpp_cond.specs.declared.evaluation.Whole.{Whole}
use Rattle.cpp_cond.specs.declared.operator.Unary.{Unary as UnaryOperator}
use Rattle.cpp_cond.specs.declared.operator.Binary.{Binary as BinaryOperator}
use Rattle.cpp_cond.specs.Values.{truth, is_true, joint, unary_value, binary_value, choice_of}
use Rattle.cpp_cond.specs.declared.value.Value.{Value}
use Rattle.cpp_cond.specs.declared.operator.Level.{Level}
use Rattle.cpp_cond.specs.Evaluating.{IsHeld, Pops, CompletesOne}
use Rattle.cpp_cond.specs.Reading.{Reading, rank, holds_at, completed, complete}

pub complete_stops : (level : Level) (pending : List Pending) (live : Bool) (value : Value) → IsHeld level pending
    → complete level pending live value ≡ Some (record { value = value; live = live; pending = pending })
unfolding complete
complete_stops level [] live value held = refl
complete_stops level (innermost ∷ outer) live value held = rw held refl

pub complete_more : (level : Level) (innermost : Pending) (outer : List Pending) (live : Bool) (value : Value) (whole : Whole)
    → nat_lt (rank (holds_at innermost)) (rank level) ≡ false → completed live innermost value ≡ Some whole
    → complete level (innermost ∷ outer) live value ≡ complete level outer whole.is_live whole.value
unfolding complete
complete_more level innermost outer live value whole tight is = rw (tight, is) refl

pub complete_fails : (level : Level) (innermost : Pending) (outer : List Pending) (live : Bool) (value : Value)
    → nat_lt (rank (holds_at innermost)) (rank level) ≡ false → completed live innermost value ≡ None → complete level (innermost ∷ outer) live value ≡ None
unfolding complete
complete_fails level innermost outer live value tight is = rw (tight, is) refl

-- ---- a construct with its last operand

pub unary_completed : (live : Bool) (operator : UnaryOperator) (last : Value) → completed live (Unary operator) last ≡ Some (record { value = unary_value operator last; is_live = live })
unfolding completed
unary_completed live operator last = refl

pub binary_completed : (live : Bool) (operator : BinaryOperator) (left last value : Value) → binary_value operator left last ≡ Some value
    → completed live (Binary operator left) last ≡ Some (record { value = value; is_live = live })
unfolding completed
binary_completed live operator left last value is = rw is refl

pub unused_completed : (operator : BinaryOperator) (left last : Value) → binary_value operator left last ≡ None
    → completed false (Binary operator left) last ≡ Some (record { value = joint left last left.bits; is_live = false })
unfolding completed
unused_completed operator left last is = rw is refl

pub divided_completed : (operator : BinaryOperator) (left last : Value) → binary_value operator left last ≡ None → completed true (Binary operator left) last ≡ None
unfolding completed
divided_completed operator left last is = rw is refl

pub parenthesis_completed : (live : Bool) (last : Value) → completed live Parenthesis last ≡ None
unfolding completed
parenthesis_completed live last = refl

pub question_completed : (live condition outer : Bool) (last : Value) → completed live (Question condition outer) last ≡ None
unfolding completed
question_completed live condition outer last = refl

pub and_completed : (inner left live : Bool) (last : Value) → completed inner (LogicalAnd left live) last ≡ Some (record { value = truth (left && is_true last); is_live = live })
unfolding completed
and_completed inner left live last = refl

pub or_completed : (inner left live : Bool) (last : Value) → completed inner (LogicalOr left live) last ≡ Some (record { value = truth (left || is_true last); is_live = live })
unfolding completed
or_completed inner left live last = refl

pub colon_completed : (inner condition live : Bool) (first last : Value) → completed inner (Colon condition first live) last ≡ Some (record { value = choice_of condition first last; is_live = live })
unfolding completed
colon_completed inner condition live first last = refl

-- one construct more was completed
pub kept_on : (level : Level) (before popped after first : Reading) (innermost : Pending) (value next operand : Value)
    → Pops level before popped (Some innermost) → CompletesOne innermost value popped after (Ok next)
    → (complete level before.pending before.live value ≡ complete level first.pending first.live operand) × (before.operand ≡ first.operand)
    → (complete level after.pending after.live next ≡ complete level first.pending first.live operand) × (after.operand ≡ first.operand)
kept_on level before popped after first innermost value next operand (was, tight) (one, is) (kept, same) =
    let bp : before.pending ≡ innermost ∷ popped.pending = ap (λ (r : Reading). r.pending) was in
    let bl : before.live ≡ popped.live = ap (λ (r : Reading). r.live) was in
    let bo : before.operand ≡ popped.operand = ap (λ (r : Reading). r.operand) was in
    let pa : after.pending ≡ popped.pending = ap (λ (r : Reading). r.pending) is in
    let oa : after.operand ≡ popped.operand = ap (λ (r : Reading). r.operand) is in
    let start : complete level before.pending before.live value ≡ complete level (innermost ∷ popped.pending) popped.live value =
    ap (λ (p : List Pending). complete level p before.live value) bp ∙ ap (λ (b : Bool). complete level (innermost ∷ popped.pending) b value) bl in
    let more = complete_more level innermost popped.pending popped.live value (record { value = next; is_live = after.live }) tight one in
    (ap (λ (p : List Pending). complete level p after.live next) pa ∙ (sym more ∙ (sym start ∙ kept)), oa ∙ (sym bo ∙ same))
