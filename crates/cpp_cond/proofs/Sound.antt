-- What is read from left to right as a value is an expression of that value.
use Rattle.std.proofs.Common.{◌≡◌, refl, sym, ap, ◌∙◌, subst, ◌⊎◌, inl, inr, ℕ, ◌+◌, ◌<◌, ◌≤◌, Bool, true, false, not, ◌&&◌, ◌||◌, nat_lt, List, [], ◌∷◌, ◌++◌, Option, Some, None, arith}
use Rattle.std.proofs.lemmas.Bool.{ltb-true, ltb-false}
use Rattle.std.proofs.lemmas.List.{append-nil, append_assoc}
use Rattle.std.proofs.lemmas.Option.{none-some, same_Some, option_and_then_some}
use Rattle.c_lexer.specs.declared.punctuator.Punctuator.{Punctuator}
use Rattle.c_lexer.specs.declared.punctuator.Punctuator.TheVariants as token
use Rattle.cpp_cond.specs.declared.evaluation.Pending.{Pending}
use Rattle.cpp_cond.specs.declared.evaluation.Pending.TheVariants as pending
use Rattle.cpp_cond.specs.declared.term.Term.{Term}
use Rattle.cpp_cond.specs.declared.term.Term.TheVariants.{Operand, Operator}
use Rattle.cpp_cond.specs.declared.value.Value.{Value}
use Rattle.cpp_cond.specs.declared.operator.Unary.{Unary}
use Rattle.cpp_cond.specs.declared.operator.Binary.{Binary}
use Rattle.cpp_cond.specs.declared.operator.Level.{Level}
use Rattle.cpp_cond.specs.declared.operator.Level.TheVariants as level
use Rattle.cpp_cond.specs.Evaluating.{IsHeld}
use Rattle.cpp_cond.specs.Expressions.{Computes, unary_of, binary_of, level_of, tighter}
use Rattle.cpp_cond.specs.Reading.{Held, Reading, rank, holds_at, completed, complete, read, step, start, finish, value_of, opened_by, operated_by, binary_begun, and_begun, or_begun, question_begun, colon_begun, colon_in, closed, closed_in, only, whole_value, finish_from, waiting}
use Rattle.cpp_cond.specs.Values.{truth, is_true, joint, unary_value, binary_value, choice_of}
use Rattle.cpp_cond.proofs.Complete.{IsAround}
use Rattle.cpp_cond.proofs.Levels.{binary_rank, most_rank, tighter_rank, as_loose}
use Rattle.cpp_cond.proofs.Others.{opens, follows, IsOther}
use Rattle.cpp_cond.proofs.ReadingLaws.{complete_stops, complete_more, complete_fails, unary_completed, binary_completed, divided_completed, unused_completed, and_completed, or_completed, colon_completed, parenthesis_completed, question_completed}

-- ---- what was read before an operand that has to come

data Waits : List Term → List Pending → Bool → Type 0 where
  nothing : Waits [] [] true
  parenthesis : (before : List Term) (outer : List Pending) (live : Bool) → Waits before outer live → Waits (before ++ (Operator token.LeftParenthesis ∷ [])) (pending.Parenthesis ∷ outer) live
  unary : (before : List Term) (outer : List Pending) (live : Bool) (s : Punctuator) (operator : Unary) → Waits before outer live → unary_of s ≡ Some operator
      → Waits (before ++ (Operator s ∷ [])) (pending.Unary operator ∷ outer) live
  binary : (before left : List Term) (outer : List Pending) (live : Bool) (a : Value) (s : Punctuator) (operator : Binary) → Waits before outer live → IsAround (level_of operator) outer
      → Computes live (level_of operator) left a → binary_of s ≡ Some operator → Waits ((before ++ left) ++ (Operator s ∷ [])) (pending.Binary operator a ∷ outer) live
  both : (before left : List Term) (outer : List Pending) (live : Bool) (a : Value) → Waits before outer live → IsAround level.LogicalAnd outer → Computes live level.LogicalAnd left a
      → Waits ((before ++ left) ++ (Operator token.AndAnd ∷ [])) (pending.LogicalAnd (is_true a) live ∷ outer) (live && is_true a)
  either : (before left : List Term) (outer : List Pending) (live : Bool) (a : Value) → Waits before outer live → IsAround level.LogicalOr outer → Computes live level.LogicalOr left a
      → Waits ((before ++ left) ++ (Operator token.OrOr ∷ [])) (pending.LogicalOr (is_true a) live ∷ outer) (live && not (is_true a))
  question : (before condition : List Term) (outer : List Pending) (live : Bool) (c : Value) → Waits before outer live → IsAround level.Conditional outer → Computes live level.LogicalOr condition c
      → Waits ((before ++ condition) ++ (Operator token.Question ∷ [])) (pending.Question (is_true c) live ∷ outer) (live && is_true c)
  colon : (before condition first : List Term) (outer : List Pending) (live : Bool) (c a : Value) → Waits before outer live → IsAround level.Conditional outer
      → Computes live level.LogicalOr condition c → Computes (live && is_true c) level.Conditional first a
      → Waits ((before ++ (condition ++ (Operator token.Question ∷ first))) ++ (Operator token.Colon ∷ [])) (pending.Colon (is_true c) a live ∷ outer) (live && not (is_true c))

-- ---- completing what waits

-- what waits less tightly than a level, and the operand behind it, which is an expression of that level
record Done (level : Level) (terms : List Term) (held : Held) : Type 0 where
  before : List Term
  own : List Term
  waits : Waits before held.pending held.live
  around : IsHeld level held.pending
  computes : Computes held.live level own held.value
  are : terms ≡ before ++ own

stays : (level limit : Level) (before own terms : List Term) (outer : List Pending) (live : Bool) (a : Value) (held : Held) → Waits before outer live → IsHeld level outer
    → Computes live limit own a → rank level ≤ rank limit → terms ≡ before ++ own → complete level outer live a ≡ Some held → Done level terms held
stays level limit before own terms outer live a held waits around computes tight are is =
    subst (λ (h : Held). Done level terms h) (same_Some _ _ (sym (complete_stops level outer live a around) ∙ is))
    (record { before = before; own = own; waits = waits; around = around; computes = as_loose live level limit own a tight computes; are = are })

-- a construct stays, or goes on as it is completed
either_way : (b : Bool) (level limit : Level) (innermost : Pending) (before own terms : List Term) (outer : List Pending) (live : Bool) (a : Value) (held : Held)
    → nat_lt (rank (holds_at innermost)) (rank level) ≡ b → Waits before (innermost ∷ outer) live
    → Computes live limit own a → rank level ≤ rank limit → terms ≡ before ++ own → complete level (innermost ∷ outer) live a ≡ Some held
    → (nat_lt (rank (holds_at innermost)) (rank level) ≡ false → Done level terms held) → Done level terms held
either_way true level limit innermost before own terms outer live a held which waits computes tight are is more =
    stays level limit before own terms (innermost ∷ outer) live a held waits which computes tight are is
either_way false level limit innermost before own terms outer live a held which waits computes tight are is more = more which

-- the last operand of a construct is of its level, or tighter
at_least : (top limit : ℕ) → (top < limit) ⊎ ((top ≡ limit) × ((limit ≡ 12) ⊎ (limit ≡ 1))) → top ≤ limit
at_least top limit (inl less) = omega (arith, less)
at_least top limit (inr (same, is)) = omega (arith, same)

above : (top limit : ℕ) → 2 ≤ top → top ≤ 11 → (top < limit) ⊎ ((top ≡ limit) × ((limit ≡ 12) ⊎ (limit ≡ 1))) → top + 1 ≤ limit
above top limit low high (inl less) = omega (arith, less)
above top limit low high (inr (same, inl is)) = absurd (omega (arith, same, is))
above top limit low high (inr (same, inr is)) = absurd (omega (arith, same, is))

next_rank : (loose tight limit : ℕ) → loose ≤ 11 → (tight ≡ loose + 1) ⊎ ((loose ≡ 12) × (tight ≡ 12)) → loose + 1 ≤ limit → tight ≤ limit
next_rank loose tight limit high (inl one) h = omega (arith, one, h)
next_rank loose tight limit high (inr (is, most)) h = absurd (omega (arith, is, high))

right_rank : (operator : Binary) (a : Value) (outer : List Pending) (limit : Level) → IsAround limit (pending.Binary operator a ∷ outer) → rank (tighter (level_of operator)) ≤ rank limit
right_rank operator a outer limit around =
    next_rank (rank (level_of operator)) (rank (tighter (level_of operator))) (rank limit) (binary_rank operator).1 (tighter_rank (level_of operator))
    (above (rank (level_of operator)) (rank limit) (omega (arith, (binary_rank operator).0)) (binary_rank operator).1 around)

around_unary : (outer : List Pending) → IsAround level.Unary outer
around_unary [] = tt
around_unary (innermost ∷ outer) = by_rank (rank (holds_at innermost)) (most_rank (holds_at innermost)) (nat_lt (rank (holds_at innermost)) 12) refl
  where
    by_rank : (top : ℕ) → top ≤ 12 → (b : Bool) → nat_lt top 12 ≡ b → (top < 12) ⊎ ((top ≡ 12) × ((rank level.Unary ≡ 12) ⊎ (rank level.Unary ≡ 1)))
    by_rank top le true is = inl (ltb-true top 12 is)
    by_rank top le false is = inr (omega (arith, le, ltb-false top 12 is), inl refl)

around_held : (l : Level) (outer : List Pending) → IsHeld l outer → IsAround l outer
around_held l [] held = tt
around_held l (innermost ∷ outer) held = inl (ltb-true (rank (holds_at innermost)) (rank l) held)

-- behind `?` what waits around is looser than a choice, or a choice
around_question : (outer : List Pending) → IsHeld level.LogicalOr outer → IsAround level.Conditional outer
around_question [] held = tt
around_question (innermost ∷ outer) held = by_rank (rank (holds_at innermost)) (ltb-true (rank (holds_at innermost)) 2 held) (nat_lt (rank (holds_at innermost)) 1) refl
  where
    by_rank : (top : ℕ) → top < 2 → (b : Bool) → nat_lt top 1 ≡ b → (top < 1) ⊎ ((top ≡ 1) × ((rank level.Conditional ≡ 12) ⊎ (rank level.Conditional ≡ 1)))
    by_rank top less true is = inl (ltb-true top 1 is)
    by_rank top less false is = inr (omega (arith, less, ltb-false top 1 is), inr refl)

-- a division by zero has a value only where it is not evaluated
divides : {X : Type 0} (live : Bool) (s : Punctuator) (operator : Binary) (left own : List Term) (l a : Value) → binary_of s ≡ Some operator → Computes live (level_of operator) left l
    → Computes live (tighter (level_of operator)) own a → (completed live (pending.Binary operator l) a ≡ None → ⊥) → (found : Option Value) → binary_value operator l a ≡ found
    → ((v : Value) → Computes live (level_of operator) (left ++ (Operator s ∷ own)) v → completed live (pending.Binary operator l) a ≡ Some (record { value = v; is_live = live }) → X) → X
divides live s operator left own l a is first second none (Some v) found then = then v (Computes.two live s operator left own l a v is first second found) (binary_completed live operator l a v found)
divides true s operator left own l a is first second none None found then = absurd (none (divided_completed operator l a found))
divides false s operator left own l a is first second none None found then =
    then (joint l a l.bits) (Computes.unused s operator left own l a is first second found) (unused_completed operator l a found)

-- the terms before a construct, its own, and those of its last operand
moved : (terms before middle own : List Term) → terms ≡ (before ++ middle) ++ own → terms ≡ before ++ (middle ++ own)
moved terms before middle own are = are ∙ append_assoc before middle own

moved_two : (terms before left own : List Term) (s : Punctuator) → terms ≡ ((before ++ left) ++ (Operator s ∷ [])) ++ own → terms ≡ before ++ (left ++ (Operator s ∷ own))
moved_two terms before left own s are = are ∙ append_assoc (before ++ left) (Operator s ∷ []) own ∙ append_assoc before left (Operator s ∷ own)

moved_choice : (terms before condition first own : List Term) → terms ≡ ((before ++ (condition ++ (Operator token.Question ∷ first))) ++ (Operator token.Colon ∷ [])) ++ own
    → terms ≡ before ++ (condition ++ (Operator token.Question ∷ (first ++ (Operator token.Colon ∷ own))))
moved_choice terms before condition first own are =
    moved_two terms before (condition ++ (Operator token.Question ∷ first)) own token.Colon are
    ∙ ap (λ (l : List Term). before ++ l) (append_assoc condition (Operator token.Question ∷ first) (Operator token.Colon ∷ own))

done : (l : Level) {before : List Term} {outer : List Pending} {live : Bool} → Waits before outer live → (limit : Level) (own terms : List Term) (a : Value) (held : Held) → IsAround limit outer
    → Computes live limit own a → rank l ≤ rank limit → terms ≡ before ++ own → complete l outer live a ≡ Some held → Done l terms held
done l nothing limit own terms a held around computes tight are is = stays l limit [] own terms [] true a held nothing tt computes tight are is
done l (parenthesis before outer live waits) limit own terms a held around computes tight are is =
    either_way (nat_lt 0 (rank l)) l limit pending.Parenthesis _ own terms outer live a held refl (parenthesis before outer live waits) computes tight are is
    (λ loose. absurd (none-some held (sym (complete_fails l pending.Parenthesis outer live a loose (parenthesis_completed live a)) ∙ is)))
done l (unary before outer live s operator waits spells) limit own terms a held around computes tight are is =
    either_way (nat_lt 12 (rank l)) l limit (pending.Unary operator) _ own terms outer live a held refl (unary before outer live s operator waits spells) computes tight are is
    (λ loose. done l waits level.Unary (Operator s ∷ own) terms (unary_value operator a) held (around_unary outer)
    (Computes.one live s operator own a spells (as_loose live level.Unary limit own a (at_least 12 (rank limit) around) computes))
    (most_rank l) (moved terms before (Operator s ∷ []) own are)
    (sym (complete_more l (pending.Unary operator) outer live a (record { value = unary_value operator a; is_live = live }) loose (unary_completed live operator a)) ∙ is))
done l (binary before left outer live b s operator waits outside first spells) limit own terms a held around computes tight are is =
    either_way (nat_lt (rank (level_of operator)) (rank l)) l limit (pending.Binary operator b) _ own terms outer live a held refl (binary before left outer live b s operator waits outside first spells) computes tight are is
    (λ loose. divides live s operator left own b a spells first (as_loose live (tighter (level_of operator)) limit own a (right_rank operator b outer limit around) computes)
    (λ none. none-some held (sym (complete_fails l (pending.Binary operator b) outer live a loose none) ∙ is)) (binary_value operator b a) refl
    (λ v whole completes. done l waits (level_of operator) (left ++ (Operator s ∷ own)) terms v held outside whole (ltb-false (rank (level_of operator)) (rank l) loose) (moved_two terms before left own s are)
    (sym (complete_more l (pending.Binary operator b) outer live a (record { value = v; is_live = live }) loose completes) ∙ is)))
done l (both before left outer live b waits outside first) limit own terms a held around computes tight are is =
    either_way (nat_lt 3 (rank l)) l limit (pending.LogicalAnd (is_true b) live) _ own terms outer (live && is_true b) a held refl (both before left outer live b waits outside first) computes tight are is
    (λ loose. done l waits level.LogicalAnd (left ++ (Operator token.AndAnd ∷ own)) terms (truth (is_true b && is_true a)) held outside
    (Computes.both live left own b a first (as_loose (live && is_true b) level.Or limit own a (above 3 (rank limit) (omega arith) (omega arith) around) computes))
    (ltb-false 3 (rank l) loose) (moved_two terms before left own token.AndAnd are)
    (sym (complete_more l (pending.LogicalAnd (is_true b) live) outer (live && is_true b) a (record { value = truth (is_true b && is_true a); is_live = live }) loose (and_completed (live && is_true b) (is_true b) live a)) ∙ is))
done l (either before left outer live b waits outside first) limit own terms a held around computes tight are is =
    either_way (nat_lt 2 (rank l)) l limit (pending.LogicalOr (is_true b) live) _ own terms outer (live && not (is_true b)) a held refl (either before left outer live b waits outside first) computes tight are is
    (λ loose. done l waits level.LogicalOr (left ++ (Operator token.OrOr ∷ own)) terms (truth (is_true b || is_true a)) held outside
    (Computes.either live left own b a first (as_loose (live && not (is_true b)) level.LogicalAnd limit own a (above 2 (rank limit) (omega arith) (omega arith) around) computes))
    (ltb-false 2 (rank l) loose) (moved_two terms before left own token.OrOr are)
    (sym (complete_more l (pending.LogicalOr (is_true b) live) outer (live && not (is_true b)) a (record { value = truth (is_true b || is_true a); is_live = live }) loose (or_completed (live && not (is_true b)) (is_true b) live a)) ∙ is))
done l (question before condition outer live c waits outside test) limit own terms a held around computes tight are is =
    either_way (nat_lt 0 (rank l)) l limit (pending.Question (is_true c) live) _ own terms outer (live && is_true c) a held refl (question before condition outer live c waits outside test) computes tight are is
    (λ loose. absurd (none-some held (sym (complete_fails l (pending.Question (is_true c) live) outer (live && is_true c) a loose (question_completed (live && is_true c) (is_true c) live a)) ∙ is)))
done l (colon before condition first outer live c b waits outside test then) limit own terms a held around computes tight are is =
    either_way (nat_lt 1 (rank l)) l limit (pending.Colon (is_true c) b live) _ own terms outer (live && not (is_true c)) a held refl (colon before condition first outer live c b waits outside test then) computes tight are is
    (λ loose. done l waits level.Conditional (condition ++ (Operator token.Question ∷ (first ++ (Operator token.Colon ∷ own)))) terms (choice_of (is_true c) b a) held outside
    (Computes.choice live condition first own c b a test then (as_loose (live && not (is_true c)) level.Conditional limit own a (at_least 1 (rank limit) around) computes))
    (ltb-false 1 (rank l) loose) (moved_choice terms before condition first own are)
    (sym (complete_more l (pending.Colon (is_true c) b live) outer (live && not (is_true c)) a (record { value = choice_of (is_true c) b a; is_live = live }) loose (colon_completed (live && not (is_true c)) (is_true c) live b a)) ∙ is))

-- ---- one term more

-- what was read
data IsRead : List Term → Reading → Type 0 where
  due : (terms : List Term) (outer : List Pending) (live : Bool) → Waits terms outer live → IsRead terms (record { pending = outer; operand = None; live = live })
  behind : (before own : List Term) (outer : List Pending) (live : Bool) (a : Value) → Waits before outer live → Computes live level.Unary own a
      → IsRead (before ++ own) (record { pending = outer; operand = Some a; live = live })

begins : (terms : List Term) (outer : List Pending) (live : Bool) → Waits terms outer live → (found : Option Unary) (s : Punctuator) (next : Reading) → unary_of s ≡ found
    → opened_by (record { pending = outer; operand = None; live = live }) found s ≡ Some next → IsRead (terms ++ (Operator s ∷ [])) next
begins terms outer live waits (Some operator) s next spells is = subst (IsRead (terms ++ (Operator s ∷ []))) (same_Some _ _ is) (due _ (pending.Unary operator ∷ outer) live (unary terms outer live s operator waits spells))
begins terms outer live waits None s next spells is = opening (opens s (record { pending = outer; operand = None; live = live }) next is) is
  where
    opening : s ≡ token.LeftParenthesis → opened_by (record { pending = outer; operand = None; live = live }) None s ≡ Some next → IsRead (terms ++ (Operator s ∷ [])) next
    opening same is =
        subst (λ (p : Punctuator). IsRead (terms ++ (Operator p ∷ [])) next) (sym same)
        (subst (IsRead (terms ++ (Operator token.LeftParenthesis ∷ [])))
        (same_Some _ _ (subst (λ (p : Punctuator). opened_by (record { pending = outer; operand = None; live = live }) None p ≡ Some next) same is))
        (due _ (pending.Parenthesis ∷ outer) live (parenthesis terms outer live waits)))

-- an operand with what waits around it, completed at a level
ended : (l : Level) (before own : List Term) (outer : List Pending) (live : Bool) (a : Value) (held : Held) → Waits before outer live → Computes live level.Unary own a
    → complete l outer live a ≡ Some held → Done l (before ++ own) held
ended l before own outer live a held waits computes is = done l waits level.Unary own (before ++ own) a held (around_unary outer) computes (most_rank l) refl is

-- a construct waits for another operand
goes_on : (l : Level) (terms : List Term) (s : Punctuator) (held : Held) (innermost : Pending) (live : Bool) (next : Reading) → Done l terms held
    → ((before own : List Term) → Waits before held.pending held.live → IsHeld l held.pending → Computes held.live l own held.value → Waits ((before ++ own) ++ (Operator s ∷ [])) (innermost ∷ held.pending) live)
    → waiting innermost live held.pending ≡ next → IsRead (terms ++ (Operator s ∷ [])) next
goes_on l terms s held innermost live next ends then is =
    subst (λ (t : List Term). IsRead (t ++ (Operator s ∷ [])) next) (sym ends.are)
    (subst (IsRead ((ends.before ++ ends.own) ++ (Operator s ∷ []))) is (due _ (innermost ∷ held.pending) live (then ends.before ends.own ends.waits ends.around ends.computes)))

binary_goes_on : (found : Option Held) (before own : List Term) (outer : List Pending) (live : Bool) (a : Value) (s : Punctuator) (operator : Binary) (next : Reading) → Waits before outer live → Computes live level.Unary own a
    → binary_of s ≡ Some operator → complete (level_of operator) outer live a ≡ found → binary_begun operator found ≡ Some next → IsRead ((before ++ own) ++ (Operator s ∷ [])) next
binary_goes_on None before own outer live a s operator next waits computes spells is begun = absurd (none-some next begun)
binary_goes_on (Some held) before own outer live a s operator next waits computes spells is begun =
    goes_on (level_of operator) (before ++ own) s held (pending.Binary operator held.value) held.live next (ended (level_of operator) before own outer live a held waits computes is)
    (λ b o w h c. binary b o held.pending held.live held.value s operator w (around_held (level_of operator) held.pending h) c spells) (same_Some _ _ begun)

and_goes_on : (found : Option Held) (before own : List Term) (outer : List Pending) (live : Bool) (a : Value) (next : Reading) → Waits before outer live → Computes live level.Unary own a
    → complete level.LogicalAnd outer live a ≡ found → and_begun found ≡ Some next → IsRead ((before ++ own) ++ (Operator token.AndAnd ∷ [])) next
and_goes_on None before own outer live a next waits computes is begun = absurd (none-some next begun)
and_goes_on (Some held) before own outer live a next waits computes is begun =
    goes_on level.LogicalAnd (before ++ own) token.AndAnd held (pending.LogicalAnd (is_true held.value) held.live) (held.live && is_true held.value) next (ended level.LogicalAnd before own outer live a held waits computes is)
    (λ b o w h c. both b o held.pending held.live held.value w (around_held level.LogicalAnd held.pending h) c) (same_Some _ _ begun)

or_goes_on : (found : Option Held) (before own : List Term) (outer : List Pending) (live : Bool) (a : Value) (next : Reading) → Waits before outer live → Computes live level.Unary own a
    → complete level.LogicalOr outer live a ≡ found → or_begun found ≡ Some next → IsRead ((before ++ own) ++ (Operator token.OrOr ∷ [])) next
or_goes_on None before own outer live a next waits computes is begun = absurd (none-some next begun)
or_goes_on (Some held) before own outer live a next waits computes is begun =
    goes_on level.LogicalOr (before ++ own) token.OrOr held (pending.LogicalOr (is_true held.value) held.live) (held.live && not (is_true held.value)) next (ended level.LogicalOr before own outer live a held waits computes is)
    (λ b o w h c. either b o held.pending held.live held.value w (around_held level.LogicalOr held.pending h) c) (same_Some _ _ begun)

question_goes_on : (found : Option Held) (before own : List Term) (outer : List Pending) (live : Bool) (a : Value) (next : Reading) → Waits before outer live → Computes live level.Unary own a
    → complete level.LogicalOr outer live a ≡ found → question_begun found ≡ Some next → IsRead ((before ++ own) ++ (Operator token.Question ∷ [])) next
question_goes_on None before own outer live a next waits computes is begun = absurd (none-some next begun)
question_goes_on (Some held) before own outer live a next waits computes is begun =
    goes_on level.LogicalOr (before ++ own) token.Question held (pending.Question (is_true held.value) held.live) (held.live && is_true held.value) next (ended level.LogicalOr before own outer live a held waits computes is)
    (λ b o w h c. question b o held.pending held.live held.value w (around_question held.pending h) c) (same_Some _ _ begun)

-- behind `?` comes the second operand
colon_in_choice : {before : List Term} {outer : List Pending} {live : Bool} → Waits before outer live → (own : List Term) (a : Value) (next : Reading) → Computes live level.Conditional own a
    → colon_in a outer ≡ Some next → IsRead ((before ++ own) ++ (Operator token.Colon ∷ [])) next
colon_in_choice (question before condition outer live c waits outside test) own a next computes is =
    subst (λ (t : List Term). IsRead (t ++ (Operator token.Colon ∷ [])) next)
    (ap (λ (l : List Term). before ++ l) refl ∙ sym (append_assoc (before ++ condition) (Operator token.Question ∷ []) own ∙ append_assoc before condition (Operator token.Question ∷ own)))
    (subst (IsRead ((before ++ (condition ++ (Operator token.Question ∷ own))) ++ (Operator token.Colon ∷ []))) (same_Some _ _ is)
    (due _ (pending.Colon (is_true c) a live ∷ outer) (live && not (is_true c)) (colon before condition own outer live c a waits outside test computes)))
colon_in_choice nothing own a next computes is = absurd (none-some next is)
colon_in_choice (parenthesis before outer live waits) own a next computes is = absurd (none-some next is)
colon_in_choice (unary before outer live s operator waits spells) own a next computes is = absurd (none-some next is)
colon_in_choice (binary before left outer live b s operator waits outside first spells) own a next computes is = absurd (none-some next is)
colon_in_choice (both before left outer live b waits outside first) own a next computes is = absurd (none-some next is)
colon_in_choice (either before left outer live b waits outside first) own a next computes is = absurd (none-some next is)
colon_in_choice (colon before condition first outer live c b waits outside test then) own a next computes is = absurd (none-some next is)

colon_goes_on : (found : Option Held) (before own : List Term) (outer : List Pending) (live : Bool) (a : Value) (next : Reading) → Waits before outer live → Computes live level.Unary own a
    → complete level.Conditional outer live a ≡ found → colon_begun found ≡ Some next → IsRead ((before ++ own) ++ (Operator token.Colon ∷ [])) next
colon_goes_on None before own outer live a next waits computes is begun = absurd (none-some next begun)
colon_goes_on (Some held) before own outer live a next waits computes is begun =
    let ends = ended level.Conditional before own outer live a held waits computes is in
    subst (λ (t : List Term). IsRead (t ++ (Operator token.Colon ∷ [])) next) (sym ends.are) (colon_in_choice ends.waits ends.own held.value next ends.computes begun)

-- behind `(` comes what is enclosed
closed_in_parentheses : {before : List Term} {outer : List Pending} {live : Bool} → Waits before outer live → (own : List Term) (a : Value) (next : Reading) → Computes live level.Conditional own a
    → closed_in a live outer ≡ Some next → IsRead ((before ++ own) ++ (Operator token.RightParenthesis ∷ [])) next
closed_in_parentheses (parenthesis before outer live waits) own a next computes is =
    subst (λ (t : List Term). IsRead t next)
    (sym (append_assoc (before ++ (Operator token.LeftParenthesis ∷ [])) own (Operator token.RightParenthesis ∷ []) ∙ append_assoc before (Operator token.LeftParenthesis ∷ []) (own ++ (Operator token.RightParenthesis ∷ []))))
    (subst (IsRead (before ++ (Operator token.LeftParenthesis ∷ own ++ (Operator token.RightParenthesis ∷ [])))) (same_Some _ _ is)
    (behind before (Operator token.LeftParenthesis ∷ own ++ (Operator token.RightParenthesis ∷ [])) outer live a waits (Computes.parenthesis live own a computes)))
closed_in_parentheses nothing own a next computes is = absurd (none-some next is)
closed_in_parentheses (unary before outer live s operator waits spells) own a next computes is = absurd (none-some next is)
closed_in_parentheses (binary before left outer live b s operator waits outside first spells) own a next computes is = absurd (none-some next is)
closed_in_parentheses (both before left outer live b waits outside first) own a next computes is = absurd (none-some next is)
closed_in_parentheses (either before left outer live b waits outside first) own a next computes is = absurd (none-some next is)
closed_in_parentheses (question before condition outer live c waits outside test) own a next computes is = absurd (none-some next is)
closed_in_parentheses (colon before condition first outer live c b waits outside test then) own a next computes is = absurd (none-some next is)

close_goes_on : (found : Option Held) (before own : List Term) (outer : List Pending) (live : Bool) (a : Value) (next : Reading) → Waits before outer live → Computes live level.Unary own a
    → complete level.Conditional outer live a ≡ found → closed found ≡ Some next → IsRead ((before ++ own) ++ (Operator token.RightParenthesis ∷ [])) next
close_goes_on None before own outer live a next waits computes is begun = absurd (none-some next begun)
close_goes_on (Some held) before own outer live a next waits computes is begun =
    let ends = ended level.Conditional before own outer live a held waits computes is in
    subst (λ (t : List Term). IsRead (t ++ (Operator token.RightParenthesis ∷ [])) next) (sym ends.are) (closed_in_parentheses ends.waits ends.own held.value next ends.computes begun)

-- one of the other punctuators
as_other : (p s : Punctuator) (before own : List Term) (outer : List Pending) (live : Bool) (a : Value) (next : Reading) → s ≡ p
    → operated_by (record { pending = outer; operand = Some a; live = live }) a None s ≡ Some next
    → (operated_by (record { pending = outer; operand = Some a; live = live }) a None p ≡ Some next → IsRead ((before ++ own) ++ (Operator p ∷ [])) next)
    → IsRead ((before ++ own) ++ (Operator s ∷ [])) next
as_other p s before own outer live a next same is then =
    subst (λ (q : Punctuator). IsRead ((before ++ own) ++ (Operator q ∷ [])) next) (sym same)
    (then (subst (λ (q : Punctuator). operated_by (record { pending = outer; operand = Some a; live = live }) a None q ≡ Some next) same is))

other_goes_on : (s : Punctuator) (before own : List Term) (outer : List Pending) (live : Bool) (a : Value) (next : Reading) → Waits before outer live → Computes live level.Unary own a
    → IsOther s → operated_by (record { pending = outer; operand = Some a; live = live }) a None s ≡ Some next → IsRead ((before ++ own) ++ (Operator s ∷ [])) next
other_goes_on s before own outer live a next waits computes (inl same) is =
    as_other token.AndAnd s before own outer live a next same is (λ h. and_goes_on (complete level.LogicalAnd outer live a) before own outer live a next waits computes refl h)
other_goes_on s before own outer live a next waits computes (inr (inl same)) is =
    as_other token.OrOr s before own outer live a next same is (λ h. or_goes_on (complete level.LogicalOr outer live a) before own outer live a next waits computes refl h)
other_goes_on s before own outer live a next waits computes (inr (inr (inl same))) is =
    as_other token.Question s before own outer live a next same is (λ h. question_goes_on (complete level.LogicalOr outer live a) before own outer live a next waits computes refl h)
other_goes_on s before own outer live a next waits computes (inr (inr (inr (inl same)))) is =
    as_other token.Colon s before own outer live a next same is (λ h. colon_goes_on (complete level.Conditional outer live a) before own outer live a next waits computes refl h)
other_goes_on s before own outer live a next waits computes (inr (inr (inr (inr same)))) is =
    as_other token.RightParenthesis s before own outer live a next same is (λ h. close_goes_on (complete level.Conditional outer live a) before own outer live a next waits computes refl h)

operator_goes_on : (found : Option Binary) (s : Punctuator) (before own : List Term) (outer : List Pending) (live : Bool) (a : Value) (next : Reading) → Waits before outer live → Computes live level.Unary own a
    → binary_of s ≡ found → operated_by (record { pending = outer; operand = Some a; live = live }) a found s ≡ Some next → IsRead ((before ++ own) ++ (Operator s ∷ [])) next
operator_goes_on (Some operator) s before own outer live a next waits computes spells is =
    binary_goes_on (complete (level_of operator) outer live a) before own outer live a s operator next waits computes spells refl is
operator_goes_on None s before own outer live a next waits computes spells is =
    other_goes_on s before own outer live a next waits computes (follows s (record { pending = outer; operand = Some a; live = live }) next a is) is

stepped : (t : Term) (next : Reading) {terms : List Term} {reading : Reading} → IsRead terms reading → step reading t ≡ Some next → IsRead (terms ++ (t ∷ [])) next
stepped (Operand v) next (due terms outer live waits) is =
    subst (IsRead (terms ++ (Operand v ∷ []))) (same_Some _ _ is) (behind terms (Operand v ∷ []) outer live v waits (Computes.operand live v))
stepped (Operator s) next (due terms outer live waits) is = begins terms outer live waits (unary_of s) s next refl is
stepped (Operand v) next (behind before own outer live a waits computes) is = absurd (none-some next is)
stepped (Operator s) next (behind before own outer live a waits computes) is = operator_goes_on (binary_of s) s before own outer live a next waits computes refl is

-- ---- all terms

all_read : (terms before : List Term) (reading final : Reading) → IsRead before reading → read reading terms ≡ Some final → IsRead (before ++ terms) final
all_read [] before reading final was is =
    subst (λ (t : List Term). IsRead t final) (sym (append-nil before)) (subst (IsRead before) (same_Some _ _ is) was)
all_read (t ∷ terms) before reading final was is =
    option_and_then_some (λ (next : Reading). read next terms) (step reading t) final is
    (λ next one more. subst (λ (all : List Term). IsRead all final) (append_assoc before (t ∷ []) terms) (all_read terms (before ++ (t ∷ [])) next final (stepped t next was one) more))

alone : {before : List Term} {outer : List Pending} {live : Bool} → Waits before outer live → (own : List Term) (a v : Value) → Computes live level.Conditional own a → only a outer ≡ Some v
    → Computes true level.Conditional (before ++ own) v
alone nothing own a v computes is = subst (Computes true level.Conditional own) (same_Some _ _ is) computes
alone (parenthesis before outer live waits) own a v computes is = absurd (none-some v is)
alone (unary before outer live s operator waits spells) own a v computes is = absurd (none-some v is)
alone (binary before left outer live b s operator waits outside first spells) own a v computes is = absurd (none-some v is)
alone (both before left outer live b waits outside first) own a v computes is = absurd (none-some v is)
alone (either before left outer live b waits outside first) own a v computes is = absurd (none-some v is)
alone (question before condition outer live c waits outside test) own a v computes is = absurd (none-some v is)
alone (colon before condition first outer live c b waits outside test then) own a v computes is = absurd (none-some v is)

whole_is : (found : Option Held) (before own : List Term) (outer : List Pending) (live : Bool) (a v : Value) → Waits before outer live → Computes live level.Unary own a
    → complete level.Conditional outer live a ≡ found → whole_value found ≡ Some v → Computes true level.Conditional (before ++ own) v
whole_is None before own outer live a v waits computes is whole = absurd (none-some v whole)
whole_is (Some held) before own outer live a v waits computes is whole =
    let ends = ended level.Conditional before own outer live a held waits computes is in
    subst (λ (t : List Term). Computes true level.Conditional t v) (sym ends.are) (alone ends.waits ends.own held.value v ends.computes whole)

finished : (v : Value) {terms : List Term} {final : Reading} → IsRead terms final → finish final ≡ Some v → Computes true level.Conditional terms v
finished v (due terms outer live waits) is = absurd (none-some v is)
finished v (behind before own outer live a waits computes) is = whole_is (complete level.Conditional outer live a) before own outer live a v waits computes refl is

finished_from : (found : Option Reading) (terms : List Term) (v : Value) → read start terms ≡ found → finish_from found ≡ Some v → Computes true level.Conditional terms v
finished_from None terms v is whole = absurd (none-some v whole)
finished_from (Some final) terms v is whole = finished v (all_read terms [] start final (due [] [] true nothing) is) whole

-- the terms of which a value is read are an expression of that value
pub sound_value : (terms : List Term) (v : Value) → value_of terms ≡ Some v → Computes true level.Conditional terms v
unfolding value_of
sound_value terms v is = finished_from (read start terms) terms v refl is
