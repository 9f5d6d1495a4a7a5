-- Each expression has its value when it is read from left to right.
use Rattle.std.proofs.Common.{◌≡◌, refl, ap, ◌∙◌, ◌⊎◌, inl, inr, ℕ, ◌+◌, ◌<◌, ◌≤◌, Bool, true, false, not, ◌&&◌, ◌||◌, nat_lt, List, [], ◌∷◌, ◌++◌, Some, None, arith}
use Rattle.std.proofs.lemmas.List.{append-nil, append_assoc}
use Rattle.std.proofs.lemmas.Bool.{lt-ltb, le-ltb}
use Rattle.c_lexer.specs.declared.punctuator.Punctuator.{Punctuator}
use Rattle.c_lexer.specs.declared.punctuator.Punctuator.TheVariants as token
use Rattle.cpp_cond.specs.declared.evaluation.Pending.{Pending}
use Rattle.cpp_cond.specs.declared.evaluation.Pending.TheVariants as pending
use Rattle.cpp_cond.specs.declared.term.Term.{Term}
use Rattle.cpp_cond.specs.declared.term.Term.TheVariants.{Operand, Operator}
use Rattle.cpp_cond.specs.declared.value.Value.{Value}
use Rattle.cpp_cond.specs.declared.operator.Unary.{Unary}
use Rattle.cpp_cond.specs.declared.operator.Binary.{Binary}
use Rattle.cpp_cond.specs.declared.operator.Level.{Level}
use Rattle.cpp_cond.specs.declared.operator.Level.TheVariants as level
use Rattle.cpp_cond.specs.Expressions.{Computes, unary_of, binary_of, level_of, tighter}
use Rattle.cpp_cond.specs.Reading.{Reading, rank, holds_at, completed, complete, read, value_of, waiting}
use Rattle.cpp_cond.proofs.Levels.{binary_rank, tighter_rank}
use Rattle.cpp_cond.proofs.ReadingLaws.{complete_stops, complete_more, unary_completed, binary_completed, unused_completed, and_completed, or_completed, colon_completed}
use Rattle.cpp_cond.specs.Values.{truth, is_true, joint, unary_value, choice_of}

less_is : (a b : ℕ) → a < b → nat_lt a b ≡ true
less_is a b h = lt-ltb a b h

not_less : (a b : ℕ) → b ≤ a → nat_lt a b ≡ false
not_less a b h = le-ltb a b h

around_tighter : (top loose tight : ℕ) → (tight ≡ loose + 1) ⊎ ((loose ≡ 12) × (tight ≡ 12)) → (top < loose) ⊎ ((top ≡ loose) × ((loose ≡ 12) ⊎ (loose ≡ 1)))
    → (top < tight) ⊎ ((top ≡ tight) × ((tight ≡ 12) ⊎ (tight ≡ 1)))
around_tighter top loose tight (inl one) (inl less) = inl (omega arith)
around_tighter top loose tight (inl one) (inr (same, is)) = inl (omega arith)
around_tighter top loose tight (inr (is, most)) (inl less) = inl (omega arith)
around_tighter top loose tight (inr (is, most)) (inr (same, which)) = inr (omega arith, inl most)

-- the innermost construct around an expression holds it less tightly, or as tightly at the two levels that nest to the right
abbrev pub IsAround : Level → List Pending → Type 0
IsAround limit [] = Unit {0}
IsAround limit (innermost ∷ outer) = (rank (holds_at innermost) < rank limit) ⊎ ((rank (holds_at innermost) ≡ rank limit) × ((rank limit ≡ 12) ⊎ (rank limit ≡ 1)))

-- ... strictly, at the other levels
pub stops_around : (limit : Level) (outer : List Pending) (live : Bool) (value : Value) → 2 ≤ rank limit → rank limit ≤ 11 → IsAround limit outer
    → complete limit outer live value ≡ Some (record { value = value; live = live; pending = outer })
stops_around limit [] live value low high around = complete_stops limit [] live value tt
stops_around limit (innermost ∷ outer) live value low high (inl less) = complete_stops limit (innermost ∷ outer) live value (less_is (rank (holds_at innermost)) (rank limit) less)
stops_around limit (innermost ∷ outer) live value low high (inr (same, inl is)) = absurd (omega (arith, is))
stops_around limit (innermost ∷ outer) live value low high (inr (same, inr is)) = absurd (omega (arith, is))

around_looser : (loose : Level) (outer : List Pending) → IsAround loose outer → IsAround (tighter loose) outer
around_looser loose [] around = tt
around_looser loose (innermost ∷ outer) around = around_tighter (rank (holds_at innermost)) (rank loose) (rank (tighter loose)) (tighter_rank loose) around

-- Behind the terms of an expression there is an operand. What waits is completed, at any level up to that of the
-- expression, to its value.
record Leaves (limit : Level) (live : Bool) (outer : List Pending) (value : Value) (after : Reading) : Type 0 where
  operand : Value
  is : after.operand ≡ Some operand
  whole : (l : Level) → rank l ≤ rank limit → complete l after.pending after.live operand ≡ complete l outer live value

-- the terms are read, and leave this
record ReadsTo (limit : Level) (live : Bool) (outer : List Pending) (value : Value) (terms rest : List Term) : Type 0 where
  after : Reading
  same : read (record { pending = outer; operand = None; live = live }) (terms ++ rest) ≡ read after rest
  leaves : Leaves limit live outer value after

-- ---- one lemma for each form

operand_reads : (live : Bool) (value : Value) (outer : List Pending) (rest : List Term) → ReadsTo level.Unary live outer value (Operand value ∷ []) rest
operand_reads live value outer rest = record {
  after = record { pending = outer; operand = Some value; live = live };
  same = refl;
  leaves = record { operand = value; is = refl; whole = λ l h. refl };
}

-- what stands in parentheses is an operand
enclosed : (live : Bool) (outer : List Pending) (value : Value) (inside rest : List Term) → ReadsTo level.Conditional live (pending.Parenthesis ∷ outer) value inside (Operator token.RightParenthesis ∷ rest)
    → ReadsTo level.Unary live outer value (Operator token.LeftParenthesis ∷ inside ++ Operator token.RightParenthesis ∷ []) rest
enclosed live outer value inside rest reads = record {
  after = record { pending = outer; operand = Some value; live = live };
  same =
      ap (λ (l : List Term). read (record { pending = pending.Parenthesis ∷ outer; operand = None; live = live }) l) (append_assoc inside (Operator token.RightParenthesis ∷ []) rest)
      ∙ (reads.same ∙ closed_by);
  leaves = record { operand = value; is = refl; whole = λ l h. refl };
}
  where
    closed_by : read reads.after (Operator token.RightParenthesis ∷ rest) ≡ read (record { pending = outer; operand = Some value; live = live }) rest
    closed_by = rw (reads.leaves.is, reads.leaves.whole level.Conditional (omega arith), complete_stops level.Conditional (pending.Parenthesis ∷ outer) live value refl) refl

-- a unary operator
prefixed : (live : Bool) (outer : List Pending) (spelling : Punctuator) (operator : Unary) (value : Value) (operand rest : List Term) → unary_of spelling ≡ Some operator
    → ReadsTo level.Unary live (pending.Unary operator ∷ outer) value operand rest → ReadsTo level.Unary live outer (unary_value operator value) (Operator spelling ∷ operand) rest
prefixed live outer spelling operator value operand rest is reads = record {
  after = reads.after;
  same = rw is reads.same;
  leaves = record {
    operand = reads.leaves.operand;
    is = reads.leaves.is;
    whole = λ l h. reads.leaves.whole l h
        ∙ complete_more l (pending.Unary operator) outer live value (record { value = unary_value operator value; is_live = live }) (not_less 12 (rank l) h) (unary_completed live operator value);
  };
}

tighter_le : (l : Level) → rank l ≤ rank (tighter l)
tighter_le l = le_by (rank l) (rank (tighter l)) (tighter_rank l)
  where
    le_by : (loose tight : ℕ) → (tight ≡ loose + 1) ⊎ ((loose ≡ 12) × (tight ≡ 12)) → loose ≤ tight
    le_by loose tight (inl one) = omega (arith, one)
    le_by loose tight (inr (is, most)) = omega (arith, is, most)

-- behind an operand a construct waits for another
abbrev Turns : Level → Bool → List Pending → Value → Punctuator → Reading → Type 0
Turns limit live outer a spelling next =
    (after : Reading) (operand : Value) → after.operand ≡ Some operand → complete limit after.pending after.live operand ≡ Some (record { value = a; live = live; pending = outer })
    → (more : List Term) → read after (Operator spelling ∷ more) ≡ read next more

-- a construct with two operands
joined : (limit tight : Level) (live right_live : Bool) (outer : List Pending) (innermost : Pending) (a b value : Value) (spelling : Punctuator) (left right rest : List Term)
    → 2 ≤ rank limit → rank limit ≤ 11 → rank limit ≤ rank tight → rank (holds_at innermost) ≡ rank limit → IsAround limit outer
    → Turns limit live outer a spelling (waiting innermost right_live outer) → completed right_live innermost b ≡ Some (record { value = value; is_live = live })
    → ReadsTo limit live outer a left (Operator spelling ∷ right ++ rest) → ReadsTo tight right_live (innermost ∷ outer) b right rest
    → ReadsTo limit live outer value (left ++ Operator spelling ∷ right) rest
joined limit tight live right_live outer innermost a b value spelling left right rest low high le holds around turns is first second = record {
  after = second.after;
  same =
      ap (λ (l : List Term). read (record { pending = outer; operand = None; live = live }) l) (append_assoc left (Operator spelling ∷ right) rest)
      ∙ (first.same
      ∙ (turns first.after first.leaves.operand first.leaves.is (first.leaves.whole limit (omega arith) ∙ stops_around limit outer live a low high around) (right ++ rest)
      ∙ second.same));
  leaves = record {
    operand = second.leaves.operand;
    is = second.leaves.is;
    whole = λ l h. second.leaves.whole l (omega (arith, h, le))
        ∙ complete_more l innermost outer right_live b (record { value = value; is_live = live }) (not_less (rank (holds_at innermost)) (rank l) (omega (arith, holds, h))) is;
  };
}

turns_binary : (live : Bool) (outer : List Pending) (a : Value) (spelling : Punctuator) (operator : Binary) → binary_of spelling ≡ Some operator
    → Turns (level_of operator) live outer a spelling (waiting (pending.Binary operator a) live outer)
turns_binary live outer a spelling operator is after operand read_is whole more = rw (read_is, is, whole) refl

turns_and : (live : Bool) (outer : List Pending) (a : Value) → Turns level.LogicalAnd live outer a token.AndAnd (waiting (pending.LogicalAnd (is_true a) live) (live && is_true a) outer)
turns_and live outer a after operand read_is whole more = rw (read_is, whole) refl

turns_or : (live : Bool) (outer : List Pending) (a : Value) → Turns level.LogicalOr live outer a token.OrOr (waiting (pending.LogicalOr (is_true a) live) (live && not (is_true a)) outer)
turns_or live outer a after operand read_is whole more = rw (read_is, whole) refl

turns_question : (live : Bool) (outer : List Pending) (c : Value) → Turns level.LogicalOr live outer c token.Question (waiting (pending.Question (is_true c) live) (live && is_true c) outer)
turns_question live outer c after operand read_is whole more = rw (read_is, whole) refl

turns_colon : (live between : Bool) (outer : List Pending) (t : Bool) (a : Value)
    → Turns level.Conditional between (pending.Question t live ∷ outer) a token.Colon (waiting (pending.Colon t a live) (live && not t) outer)
turns_colon live between outer t a after operand read_is whole more = rw (read_is, whole) refl

around_choice : (outer : List Pending) → IsAround level.Conditional outer → IsAround level.LogicalOr outer
around_choice outer around = around_looser level.Conditional outer around

chosen : (live : Bool) (outer : List Pending) (c a b : Value) (condition first second rest : List Term) → IsAround level.Conditional outer
    → ReadsTo level.LogicalOr live outer c condition (Operator token.Question ∷ (first ++ (Operator token.Colon ∷ (second ++ rest))))
    → ReadsTo level.Conditional (live && is_true c) (pending.Question (is_true c) live ∷ outer) a first (Operator token.Colon ∷ (second ++ rest))
    → ReadsTo level.Conditional (live && not (is_true c)) (pending.Colon (is_true c) a live ∷ outer) b second rest
    → ReadsTo level.Conditional live outer (choice_of (is_true c) a b) (condition ++ (Operator token.Question ∷ (first ++ (Operator token.Colon ∷ second)))) rest
chosen live outer c a b condition first second rest around test one other = record {
  after = other.after;
  same =
      ap (λ (l : List Term). read (record { pending = outer; operand = None; live = live }) l)
      (append_assoc condition (Operator token.Question ∷ (first ++ (Operator token.Colon ∷ second))) rest
      ∙ ap (λ (l : List Term). condition ++ Operator token.Question ∷ l) (append_assoc first (Operator token.Colon ∷ second) rest))
      ∙ (test.same
      ∙ (turns_question live outer c test.after test.leaves.operand test.leaves.is
      (test.leaves.whole level.LogicalOr (omega arith) ∙ stops_around level.LogicalOr outer live c (omega arith) (omega arith) (around_choice outer around)) (first ++ (Operator token.Colon ∷ (second ++ rest)))
      ∙ (one.same
      ∙ (turns_colon live (live && is_true c) outer (is_true c) a one.after one.leaves.operand one.leaves.is
      (one.leaves.whole level.Conditional (omega arith) ∙ complete_stops level.Conditional (pending.Question (is_true c) live ∷ outer) (live && is_true c) a refl) (second ++ rest)
      ∙ other.same))));
  leaves = record {
    operand = other.leaves.operand;
    is = other.leaves.is;
    whole = λ l h. other.leaves.whole l h
        ∙ complete_more l (pending.Colon (is_true c) a live) outer (live && not (is_true c)) b (record { value = choice_of (is_true c) a b; is_live = live }) (not_less 1 (rank l) h)
        (colon_completed (live && not (is_true c)) (is_true c) live a b);
  };
}

-- ---- every expression

below : (innermost : Pending) (limit : Level) (outer : List Pending) → rank (holds_at innermost) < rank limit → IsAround limit (innermost ∷ outer)
below innermost limit outer h = inl h

right_of : (operator : Binary) (a : Value) (outer : List Pending) → IsAround (tighter (level_of operator)) (pending.Binary operator a ∷ outer)
right_of operator a outer = around_right (rank (level_of operator)) (rank (tighter (level_of operator))) (binary_rank operator).1 (tighter_rank (level_of operator))
  where
    around_right : (loose tight : ℕ) → loose ≤ 11 → (tight ≡ loose + 1) ⊎ ((loose ≡ 12) × (tight ≡ 12)) → (loose < tight) ⊎ ((loose ≡ tight) × ((tight ≡ 12) ⊎ (tight ≡ 1)))
    around_right loose tight le (inl one) = inl (omega (arith, one))
    around_right loose tight le (inr (is, most)) = absurd (omega (arith, is, le))

reads : {live : Bool} {limit : Level} {terms : List Term} {value : Value} → Computes live limit terms value → (outer : List Pending) → IsAround limit outer → (rest : List Term)
    → ReadsTo limit live outer value terms rest
reads (Computes.operand live value) outer around rest = operand_reads live value outer rest
reads (Computes.parenthesis live inside value computes) outer around rest =
    enclosed live outer value inside rest (reads computes (pending.Parenthesis ∷ outer) (inl (omega arith)) (Operator token.RightParenthesis ∷ rest))
reads (Computes.one live spelling operator operand value is computes) outer around rest =
    prefixed live outer spelling operator value operand rest is (reads computes (pending.Unary operator ∷ outer) (inr (refl, inl refl)) rest)
reads (Computes.two live spelling operator left right a b value is first second whole) outer around rest =
    joined (level_of operator) (tighter (level_of operator)) live live outer (pending.Binary operator a) a b value spelling left right rest
    (omega (arith, (binary_rank operator).0)) (binary_rank operator).1 (tighter_le (level_of operator)) refl around (turns_binary live outer a spelling operator is)
    (binary_completed live operator a b value whole) (reads first outer around (Operator spelling ∷ right ++ rest)) (reads second (pending.Binary operator a ∷ outer) (right_of operator a outer) rest)
reads (Computes.unused spelling operator left right a b is first second none) outer around rest =
    joined (level_of operator) (tighter (level_of operator)) false false outer (pending.Binary operator a) a b (joint a b a.bits) spelling left right rest
    (omega (arith, (binary_rank operator).0)) (binary_rank operator).1 (tighter_le (level_of operator)) refl around (turns_binary false outer a spelling operator is)
    (unused_completed operator a b none) (reads first outer around (Operator spelling ∷ right ++ rest)) (reads second (pending.Binary operator a ∷ outer) (right_of operator a outer) rest)
reads (Computes.both live left right a b first second) outer around rest =
    joined level.LogicalAnd level.Or live (live && is_true a) outer (pending.LogicalAnd (is_true a) live) a b (truth (is_true a && is_true b)) token.AndAnd left right rest
    (omega arith) (omega arith) (omega arith) refl around (turns_and live outer a) (and_completed (live && is_true a) (is_true a) live b)
    (reads first outer around (Operator token.AndAnd ∷ right ++ rest)) (reads second (pending.LogicalAnd (is_true a) live ∷ outer) (inl (omega arith)) rest)
reads (Computes.either live left right a b first second) outer around rest =
    joined level.LogicalOr level.LogicalAnd live (live && not (is_true a)) outer (pending.LogicalOr (is_true a) live) a b (truth (is_true a || is_true b)) token.OrOr left right rest
    (omega arith) (omega arith) (omega arith) refl around (turns_or live outer a) (or_completed (live && not (is_true a)) (is_true a) live b)
    (reads first outer around (Operator token.OrOr ∷ right ++ rest)) (reads second (pending.LogicalOr (is_true a) live ∷ outer) (inl (omega arith)) rest)
reads (Computes.choice live condition first second c a b test then other) outer around rest =
    chosen live outer c a b condition first second rest around
    (reads test outer (around_choice outer around) (Operator token.Question ∷ (first ++ (Operator token.Colon ∷ (second ++ rest)))))
    (reads then (pending.Question (is_true c) live ∷ outer) (inl (omega arith)) (Operator token.Colon ∷ (second ++ rest)))
    (reads other (pending.Colon (is_true c) a live ∷ outer) (inr (refl, inr refl)) rest)
reads (Computes.looser live loose terms value computes) outer around rest =
    let tight = reads computes outer (around_looser loose outer around) rest in
    record {
      after = tight.after;
      same = tight.same;
      leaves = record { operand = tight.leaves.operand; is = tight.leaves.is; whole = λ l h. tight.leaves.whole l (omega (arith, h, tighter_le loose)) };
    }

-- the value that is read is that of the expression
pub complete_value : (terms : List Term) (value : Value) → Computes true level.Conditional terms value → value_of terms ≡ Some value
unfolding value_of
complete_value terms value computes =
    let all = reads computes [] tt [] in
    let none = append-nil terms in
    rw (← none) (rw (all.same, all.leaves.is, all.leaves.whole level.Conditional (omega arith), complete_stops level.Conditional [] true value tt) refl)
