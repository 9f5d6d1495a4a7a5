-- Forms and their numbers.
use Rattle.std.proofs.Common.{◌≡◌, ℕ, ◌+◌, ◌<◌, ◌≤◌, Bool, true, false, cond, List, [], ◌∷◌, ◌++◌, length, Option, Some, None, eqb, ltb, not, inl, inr, ◌⊎◌, refl, sym, ap, ◌∙◌, length-append, arith}
use Rattle.std.specs.List.{position_or_len}
use Rattle.std.specs.Map.{lookup}
use Rattle.std.proofs.lemmas.List.Sums.{prefix_len-le-length}
use Rattle.std.proofs.lemmas.List.Folds.{position_or_len_push}
use Rattle.std.proofs.lemmas.Bool.{cases_lt, lt-ltb, le-ltb, eqb-true, eq-eqb}
use Rattle.c_types.specs.declared.form.Form.{Form}
use Rattle.c_types.specs.declared.form.Form.TheVariants as form
use Rattle.c_types.specs.declared.node.Record.{Record}
use Rattle.c_types.specs.declared.node.TypeNode.{TypeNode}
use Rattle.c_types.specs.declared.node.TypeNode.TheVariants.{Struct, Union, Enum}
use Rattle.c_types.specs.Nodes.{presets}
use Rattle.c_types.specs.Building.{same_type, index_of, number_of, with_node}
use Rattle.c_types.specs.Numbered.{node_of, IsNumbered}

-- no form is a preset type
pub numbered_presets : IsNumbered [] presets
numbered_presets (form.Pointer to) = refl
numbered_presets (form.Array of count) = refl
numbered_presets (form.Function f) = refl
numbered_presets (form.Qualified of bits) = refl

-- a number tells the index, and that the table has the node
pub found : (nodes : List TypeNode) (node : TypeNode) (id : ℕ) → number_of nodes node ≡ Some id → (id ≡ index_of nodes node) × (nodes ≡ with_node nodes node)
found nodes node id is = elim (cases_lt (index_of nodes node) (length nodes)) [
  | inl lt ↦ let yes : ltb (index_of nodes node) (length nodes) ≡ true = lt-ltb (index_of nodes node) (length nodes) lt in
      (let e : number_of nodes node ≡ Some (index_of nodes node) = rw yes refl in cc, rw yes refl)
  | inr le ↦ let no : ltb (index_of nodes node) (length nodes) ≡ false = le-ltb (index_of nodes node) (length nodes) le in
      let e : number_of nodes node ≡ None = rw no refl in absurd cc
]

position_le : {A : Type 0} (p : A → Bool) (xs : List A) → position_or_len p xs ≤ length xs
position_le p xs = prefix_len-le-length (λ x. not (p x)) xs

-- no number: the node would stand behind the table
pub not_found : (nodes : List TypeNode) (node : TypeNode) → number_of nodes node ≡ None → (index_of nodes node ≡ length nodes) × (with_node nodes node ≡ nodes ++ (node ∷ []))
not_found nodes node is = elim (cases_lt (index_of nodes node) (length nodes)) [
  | inl lt ↦ let yes : ltb (index_of nodes node) (length nodes) ≡ true = lt-ltb (index_of nodes node) (length nodes) lt in
      let e : number_of nodes node ≡ Some (index_of nodes node) = rw yes refl in absurd cc
  | inr le ↦ let no : ltb (index_of nodes node) (length nodes) ≡ false = le-ltb (index_of nodes node) (length nodes) le in
      (let most = position_le (same_type node) nodes in omega arith, rw no refl)
]

-- ---- one more node

abbrev pub or_else : Option ℕ → Option ℕ → Option ℕ
or_else None other = other
or_else (Some id) other = Some id

number_there : (count : ℕ) (new : Bool)
    → (let next = cond (eqb count count) (count + cond new 0 1) count in cond (ltb next (count + 1)) (Some next) None)
    ≡ or_else (cond (ltb count count) (Some count) None) (cond new (Some count) None)
number_there count true =
    let same : eqb count count ≡ true = eq-eqb count count refl in
    let no : ltb count count ≡ false = le-ltb count count (omega arith) in
    let plain : count + 0 ≡ count = omega arith in
    let yes : ltb count (count + 1) ≡ true = lt-ltb count (count + 1) (omega arith) in
    rw (same, no) (rw plain (rw yes refl))
number_there count false =
    let same : eqb count count ≡ true = eq-eqb count count refl in
    let no : ltb count count ≡ false = le-ltb count count (omega arith) in
    let yes : ltb (count + 1) (count + 1) ≡ false = le-ltb (count + 1) (count + 1) (omega arith) in
    rw (same, no) (rw yes refl)

bool_cases : (b : Bool) → (b ≡ true) ⊎ (b ≡ false)
bool_cases true = inl refl
bool_cases false = inr refl

eqb_cases : (a b : ℕ) → (eqb a b ≡ true) ⊎ (eqb a b ≡ false)
eqb_cases a b = bool_cases (eqb a b)

lt-eqb : (a b : ℕ) → a < b → eqb a b ≡ false
lt-eqb a b lt = elim (eqb_cases a b) [ inl same ↦ let is : a ≡ b = eqb-true a b same in absurd (omega arith) | inr other ↦ other ]

number_at : (place count : ℕ) → place ≤ count → (new : Bool)
    → (let next = cond (eqb place count) (count + cond new 0 1) place in cond (ltb next (count + 1)) (Some next) None)
    ≡ or_else (cond (ltb place count) (Some place) None) (cond new (Some count) None)
number_at place count le new = elim (cases_lt place count) [
  | inl lt ↦
      let yes : ltb place count ≡ true = lt-ltb place count lt in
      let differ : eqb place count ≡ false = lt-eqb place count lt in
      let more : ltb place (count + 1) ≡ true = lt-ltb place (count + 1) (omega arith) in
      rw (yes, differ) (rw more refl)
  | inr ge ↦
      let is : place ≡ count = omega arith in
      rw is (number_there count new)
]

pub number-pushed : (nodes : List TypeNode) (node one : TypeNode)
    → number_of (nodes ++ (node ∷ [])) one ≡ or_else (number_of nodes one) (cond (same_type one node) (Some (length nodes)) None)
number-pushed nodes node one =
    let len : length (nodes ++ (node ∷ [])) ≡ length nodes + 1 = length-append nodes (node ∷ []) in
    rw (position_or_len_push (same_type one) nodes node, len)
    (number_at (position_or_len (same_type one) nodes) (length nodes) (position_le (same_type one) nodes) (same_type one node))

lookup_cons : (holds : Bool) (id : ℕ) (rest other : Option ℕ) → cond holds (Some id) (or_else rest other) ≡ or_else (cond holds (Some id) rest) other
lookup_cons true id rest other = refl
lookup_cons false id rest other = refl

lookup-append : (test : Form → Bool) (entries : List (Form × ℕ)) (form : Form) (id : ℕ)
    → lookup test (entries ++ ((form, id) ∷ [])) ≡ or_else (lookup test entries) (cond (test form) (Some id) None)
lookup-append test [] form id = refl
lookup-append test (e ∷ es) form id =
    ap (cond (test e.0) (Some e.1)) (lookup-append test es form id) ∙ lookup_cons (test e.0) e.1 (lookup test es) (cond (test form) (Some id) None)

pub numbered_added : (entries : List (Form × ℕ)) (nodes : List TypeNode) (form : Form) (node : TypeNode) (id : ℕ) → IsNumbered entries nodes
    → node ≡ node_of form → id ≡ length nodes → IsNumbered (entries ++ ((form, id) ∷ [])) (nodes ++ (node ∷ []))
numbered_added entries nodes form node id numbered is place one =
    lookup-append (λ other. same_type (node_of one) (node_of other)) entries form id
    ∙ ap (λ o. or_else o (cond (same_type (node_of one) (node_of form)) (Some id) None)) (numbered one)
    ∙ rw (sym is, place) (sym (number-pushed nodes node (node_of one)))

-- ---- nodes that are no form

pub no_struct : (r : Record) (one : Form) → same_type (node_of one) (Struct r) ≡ false
no_struct r (form.Pointer to) = refl
no_struct r (form.Array of count) = refl
no_struct r (form.Function f) = refl
no_struct r (form.Qualified of bits) = refl

pub no_union : (r : Record) (one : Form) → same_type (node_of one) (Union r) ≡ false
no_union r (form.Pointer to) = refl
no_union r (form.Array of count) = refl
no_union r (form.Function f) = refl
no_union r (form.Qualified of bits) = refl

no_enum : (tag : List ℕ) (one : Form) → same_type (node_of one) (Enum tag) ≡ false
no_enum tag (form.Pointer to) = refl
no_enum tag (form.Array of count) = refl
no_enum tag (form.Function f) = refl
no_enum tag (form.Qualified of bits) = refl

or_else_none : (o : Option ℕ) → or_else o None ≡ o
or_else_none None = refl
or_else_none (Some id) = refl

own_node : (nodes : List TypeNode) (node : TypeNode) → ((one : Form) → same_type (node_of one) node ≡ false) → (one : Form)
    → number_of (nodes ++ (node ∷ [])) (node_of one) ≡ number_of nodes (node_of one)
own_node nodes node differs one =
    number-pushed nodes node (node_of one)
    ∙ ap (λ b. or_else (number_of nodes (node_of one)) (cond b (Some (length nodes)) None)) (differs one)
    ∙ or_else_none (number_of nodes (node_of one))

pub own_struct : (nodes : List TypeNode) (r : Record) (one : Form) → number_of (nodes ++ (Struct r ∷ [])) (node_of one) ≡ number_of nodes (node_of one)
own_struct nodes r one = own_node nodes (Struct r) (no_struct r) one

pub own_union : (nodes : List TypeNode) (r : Record) (one : Form) → number_of (nodes ++ (Union r ∷ [])) (node_of one) ≡ number_of nodes (node_of one)
own_union nodes r one = own_node nodes (Union r) (no_union r) one

pub own_enum : (nodes : List TypeNode) (tag : List ℕ) (one : Form) → number_of (nodes ++ (Enum tag ∷ [])) (node_of one) ≡ number_of nodes (node_of one)
own_enum nodes tag one = own_node nodes (Enum tag) (no_enum tag) one

pub numbered_own : (entries : List (Form × ℕ)) (nodes : List TypeNode) (node : TypeNode) → IsNumbered entries nodes
    → ((one : Form) → number_of (nodes ++ (node ∷ [])) (node_of one) ≡ number_of nodes (node_of one)) → IsNumbered entries (nodes ++ (node ∷ []))
numbered_own entries nodes node numbered own one = numbered one ∙ sym (own one)
