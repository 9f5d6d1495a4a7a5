-- Types without their qualifiers, by tables.
use Rattle.std.proofs.Common.{◌≡◌, ℕ, zero, suc, ◌+◌, ◌*◌, ◌/◌, ◌%◌, ◌<◌, ◌≤◌, eqb, Bool, true, false, cond, List, [], ◌∷◌, ◌++◌, length, map, get_or, refl, sym, ap, ◌∙◌, arith, inl, inr}
use Rattle.std.proofs.lemmas.Bool.{cases_lt, eqb-true}
use Rattle.std.proofs.lemmas.List.{length-append, length-map, get_or-map, get_or_default, get_or_past, get_or_append_left}
use Rattle.std.proofs.Math.Nat.{mul-add, mul_comm}
use Rattle.std.proofs.Math.Seq.{get_or-append_seam}
use Rattle.c_types.specs.declared.node.TypeNode.{TypeNode}
use Rattle.c_types.specs.declared.node.TypeNode.TheVariants as node
use Rattle.c_types.specs.Nodes.{node_at, unqualified, unqualified_in, unqualified_by}
use Rattle.fat_code.specs.declared.bare.Stripped.{Stripped}
use Rattle.fat_code.specs.Bare.{stepped, followed, IsAfter, AreBare, AreComing}

-- ---- qualifiers

-- a type of which nothing can be taken off stays
stays : (nodes : List TypeNode) (steps id : ℕ) → ((rest : ℕ → ℕ) → unqualified_in rest id (node_at nodes id) ≡ id) → unqualified_by steps nodes id ≡ id
stays nodes zero id plain = refl
stays nodes (suc steps) id plain = plain (unqualified_by steps nodes)

-- as many as two numbers say, one after the other
split : (nodes : List TypeNode) (one two id : ℕ) (this : TypeNode) → node_at nodes id ≡ this
    → ((of : ℕ) → unqualified_by (one + two) nodes of ≡ unqualified_by two nodes (unqualified_by one nodes of))
    → unqualified_in (unqualified_by (one + two) nodes) id this ≡ unqualified_by two nodes (unqualified_in (unqualified_by one nodes) id this)
split nodes one two id node.Void is rest = sym (stays nodes two id (λ f. rw is refl))
split nodes one two id (node.Basic b) is rest = sym (stays nodes two id (λ f. rw is refl))
split nodes one two id (node.Pointer to) is rest = sym (stays nodes two id (λ f. rw is refl))
split nodes one two id (node.Array of count) is rest = sym (stays nodes two id (λ f. rw is refl))
split nodes one two id (node.Function returns is_known parameters is_variadic) is rest = sym (stays nodes two id (λ f. rw is refl))
split nodes one two id (node.Struct r) is rest = sym (stays nodes two id (λ f. rw is refl))
split nodes one two id (node.Union r) is rest = sym (stays nodes two id (λ f. rw is refl))
split nodes one two id (node.Enum tag) is rest = sym (stays nodes two id (λ f. rw is refl))
split nodes one two id (node.Qualified of bits) is rest = rest of

taken_both : (nodes : List TypeNode) (one two id : ℕ) → unqualified_by (one + two) nodes id ≡ unqualified_by two nodes (unqualified_by one nodes id)
taken_both nodes zero two id = let e : 0 + two ≡ two = omega arith in rw e refl
taken_both nodes (suc one) two id =
    let e : suc one + two ≡ suc (one + two) = omega arith in
    rw e (split nodes one two id (node_at nodes id) refl (taken_both nodes one two))

-- taking off one
one_in : (nodes : List TypeNode) (id : ℕ) (this : TypeNode) → unqualified_in (unqualified_by 0 nodes) id this ≡ stepped this id
one_in nodes id node.Void = refl
one_in nodes id (node.Basic b) = refl
one_in nodes id (node.Pointer to) = refl
one_in nodes id (node.Array of count) = refl
one_in nodes id (node.Function returns is_known parameters is_variadic) = refl
one_in nodes id (node.Struct r) = refl
one_in nodes id (node.Union r) = refl
one_in nodes id (node.Enum tag) = refl
one_in nodes id (node.Qualified of bits) = refl

pub one_taken : (nodes : List TypeNode) (id : ℕ) → unqualified_by 1 nodes id ≡ stepped (node_at nodes id) id
one_taken nodes id = one_in nodes id (node_at nodes id)

-- a number outside the table stays
outside : (nodes : List TypeNode) (steps id : ℕ) → length nodes ≤ id → unqualified_by steps nodes id ≡ id
outside nodes steps id le = stays nodes steps id (λ f. (let void : node_at nodes id ≡ node.Void = get_or_past nodes id node.Void le in rw void refl))

-- ---- tables

pub none_after : (nodes : List TypeNode) (steps : ℕ) → IsAfter nodes steps 0 []
none_after nodes steps = record { many = refl; each = λ id lt. absurd (omega arith) }

pub more_after : (nodes : List TypeNode) (steps count : ℕ) (table : List ℕ) (there : ℕ) → IsAfter nodes steps count table
    → there ≡ unqualified_by steps nodes count → IsAfter nodes steps (count + 1) (table ++ there ∷ [])
more_after nodes steps count table there is same =
    let many = is.many in
    let longer = length-append table (there ∷ []) in
    record {
      many = omega arith;
      each = λ id lt. elim (cases_lt id count) [
        | inl before ↦ get_or_append_left table (there ∷ []) 0 id (omega arith) ∙ is.each id before
        | inr behind ↦
            let last : id ≡ count = omega arith in
            let place : id ≡ length table = omega arith in
            ap (λ (k : ℕ). get_or (table ++ there ∷ []) k 0) place ∙ get_or-append_seam table there [] 0 ∙ same ∙ ap (unqualified_by steps nodes) (sym last)
      ];
    }

-- what a table says of any number
followed_is : (nodes : List TypeNode) (steps : ℕ) (table : List ℕ) (id : ℕ) → IsAfter nodes steps (length nodes) table
    → followed table id ≡ unqualified_by steps nodes id
followed_is nodes steps table id is =
    let many = is.many in
    elim (cases_lt id (length nodes)) [
      | inl lt ↦ get_or_default table id id 0 (omega arith) ∙ is.each id lt
      | inr le ↦ get_or_past table id id (omega arith) ∙ sym (outside nodes steps id le)
    ]

both_after : (nodes : List TypeNode) (one two : ℕ) (first then : List ℕ) → IsAfter nodes one (length nodes) first → IsAfter nodes two (length nodes) then
    → IsAfter nodes (one + two) (length nodes) (map (followed then) first)
both_after nodes one two first then is_one is_two =
    let many = is_one.many in
    record {
      many = length-map first (followed then) ∙ many;
      each = λ id lt. get_or-map (followed then) first id 0 0 (omega arith) ∙ ap (followed then) (is_one.each id lt)
          ∙ followed_is nodes two then (unqualified_by one nodes id) is_two ∙ sym (taken_both nodes one two id);
    }

-- ---- all of them

pub begins : (nodes : List TypeNode) (stripped : Stripped) → IsAfter nodes 0 (length nodes) stripped.done.items → IsAfter nodes 1 (length nodes) stripped.step.items
    → AreComing nodes stripped (length nodes)
begins nodes stripped is_done is_step = record { done = 0; step = 1; sum = omega arith; done_is = is_done; step_is = is_step }

even_sum : (done step left half rest all : ℕ) → rest ≡ 0 → left ≡ half * 2 + rest → done + step * left ≡ all → done + (step + step) * half ≡ all
even_sum done step left half rest all none is sum =
    let whole : left ≡ half + half = omega arith in
    let spread : step * left ≡ step * half + step * half = ap (λ (x : ℕ). step * x) whole ∙ mul-add step half half in
    let twice : (step + step) * half ≡ step * half + step * half = mul_comm (step + step) half ∙ mul-add half step step ∙ (let e = mul_comm half step in omega arith) in
    omega arith

odd_sum : (done step left half rest all : ℕ) → rest ≡ 1 → left ≡ half * 2 + rest → done + step * left ≡ all → done + step + (step + step) * half ≡ all
odd_sum done step left half rest all one is sum =
    let whole : left ≡ half + half + 1 = omega arith in
    let spread : step * left ≡ step * (half + half) + step * 1 = ap (λ (x : ℕ). step * x) whole ∙ mul-add step (half + half) 1 in
    let halves : step * (half + half) ≡ step * half + step * half = mul-add step half half in
    let twice : (step + step) * half ≡ step * half + step * half = mul_comm (step + step) half ∙ mul-add half step step ∙ (let e = mul_comm half step in omega arith) in
    omega arith

not_one : (n : ℕ) → n < 2 → eqb n 1 ≡ false → n ≡ 0
not_one zero lt other = refl
not_one (suc zero) lt other = absurd cc
not_one (suc (suc n)) lt other = absurd (omega arith)

next_by : (nodes : List TypeNode) (done step left : ℕ) (done_table step_table next_done next_step : List ℕ) (after : Stripped)
    → done + step * left ≡ length nodes → IsAfter nodes done (length nodes) done_table → IsAfter nodes step (length nodes) step_table
    → (is_odd : Bool) → eqb (left % 2) 1 ≡ is_odd → next_done ≡ cond is_odd (map (followed step_table) done_table) done_table
    → next_step ≡ map (followed step_table) step_table → after.done.items ≡ next_done → after.step.items ≡ next_step → AreComing nodes after (left / 2)
next_by nodes done step left done_table step_table next_done next_step after sum is_done is_step true odd done_is step_is made_done made_step =
    let rest : left % 2 ≡ 1 = eqb-true (left % 2) 1 odd in
    record {
      done = done + step;
      step = step + step;
      sum = odd_sum done step left (left / 2) (left % 2) (length nodes) rest (omega arith) sum;
      done_is = rw (made_done, done_is) (both_after nodes done step done_table step_table is_done is_step);
      step_is = rw (made_step, step_is) (both_after nodes step step step_table step_table is_step is_step);
    }
next_by nodes done step left done_table step_table next_done next_step after sum is_done is_step false even done_is step_is made_done made_step =
    let other : eqb (left % 2) 1 ≡ false = even in
    let rest : left % 2 ≡ 0 = not_one (left % 2) (omega arith) other in
    record {
      done = done;
      step = step + step;
      sum = even_sum done step left (left / 2) (left % 2) (length nodes) rest (omega arith) sum;
      done_is = rw (made_done, done_is) is_done;
      step_is = rw (made_step, step_is) (both_after nodes step step step_table step_table is_step is_step);
    }

pub next_coming : (nodes : List TypeNode) (stripped after : Stripped) (left : ℕ) → AreComing nodes stripped left
    → after.done.items ≡ cond (eqb (left % 2) 1) (map (followed stripped.step.items) stripped.done.items) stripped.done.items
    → after.step.items ≡ map (followed stripped.step.items) stripped.step.items → AreComing nodes after (left / 2)
next_coming nodes stripped after left coming made_done made_step =
    next_by nodes coming.done coming.step left stripped.done.items stripped.step.items after.done.items after.step.items after coming.sum coming.done_is coming.step_is
    (eqb (left % 2) 1) refl made_done made_step refl refl

pub all_bare : (nodes : List TypeNode) (stripped : Stripped) (left : ℕ) → left ≡ 0 → AreComing nodes stripped left → AreBare nodes stripped.done.items
unfolding unqualified
all_bare nodes stripped left none coming =
    let sum : coming.done + coming.step * left ≡ length nodes = coming.sum in
    let none_left : coming.step * 0 ≡ 0 = omega arith in
    let nothing : coming.step * left ≡ 0 = ap (λ (x : ℕ). coming.step * x) none ∙ none_left in
    let whole : coming.done ≡ length nodes = omega arith in
    record {
      many = coming.done_is.many;
      each = λ id lt. coming.done_is.each id lt ∙ ap (λ (steps : ℕ). unqualified_by steps nodes id) whole;
    }

-- a number outside the table is no bit-field's type
pub bare_outside : (nodes : List TypeNode) (id : ℕ) → length nodes ≤ id → node_at nodes (unqualified nodes id) ≡ node.Void
unfolding unqualified
bare_outside nodes id le = rw (outside nodes (length nodes) id le) (get_or_past nodes id node.Void le)
