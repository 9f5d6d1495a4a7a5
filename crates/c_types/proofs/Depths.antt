-- Layouts by the layouts of their parts.
use Rattle.std.proofs.Common.{◌≡◌, ℕ, zero, suc, ◌<◌, ◌≤◌, Bool, true, false, cond, List, [], ◌∷◌, Option, Some, None, IsSome, refl, ap, ◌∙◌, arith}
use Rattle.std.specs.Bool.{OnTrue}
use Rattle.std.specs.Option.{option_map}
use Rattle.c_types.specs.declared.layout.Layout.{Layout}
use Rattle.c_types.specs.declared.node.Field.{Field}
use Rattle.c_types.specs.declared.node.TypeNode.{TypeNode}
use Rattle.c_types.specs.declared.node.TypeNode.TheVariants.{Void, Basic as Arithmetic, Pointer, Array, Function, Struct, Union, Enum, Qualified}
use Rattle.c_types.specs.Nodes.{node_at}
use Rattle.c_types.specs.Layouts.{Layouts, Part, part, with_part, parts_of, layout_in, layout_by, layout_of_array, record_layout}
use Rattle.c_types.specs.Built.{AreBelow, IsBelow, IsMade}

-- two tables of layouts agree on the first n types
abbrev pub Agree : (n : ℕ) → (one other : Layouts) → Type 0
Agree n one other = (i : ℕ) → i < n → one i ≡ other i

-- the second has what the first has
abbrev pub Knows : (one other : Layouts) → Type 0
Knows one other = (i : ℕ) (l : Layout) → one i ≡ Some l → other i ≡ Some l

pub parts_agree : (n : ℕ) (one other : Layouts) (fields : List Field) → AreBelow n fields → Agree n one other → parts_of one fields ≡ parts_of other fields
parts_agree n one other [] below agree = refl
parts_agree n one other (f ∷ fs) below agree =
    ap (λ (l : Option Layout). with_part f l (parts_of one fs)) (agree f.kind below.0)
    ∙ ap (with_part f (other f.kind)) (parts_agree n one other fs below.1 agree)

pub layout_agree : (n : ℕ) (one other : Layouts) (node : TypeNode) → IsBelow n node → Agree n one other → layout_in one node ≡ layout_in other node
layout_agree n one other Void below agree = refl
layout_agree n one other (Arithmetic b) below agree = refl
layout_agree n one other (Pointer to) below agree = refl
layout_agree n one other (Array of zero) below agree = refl
layout_agree n one other (Array of (suc count)) below agree = ap (option_map (layout_of_array (suc count))) (agree of below)
layout_agree n one other (Function returns is_known parameters is_variadic) below agree = refl
layout_agree n one other (Struct r) below agree =
    ap (λ (ps : Option (List Part)). cond r.is_complete (option_map (record_layout false) ps) None) (parts_agree n one other r.fields below agree)
layout_agree n one other (Union r) below agree =
    ap (λ (ps : Option (List Part)). cond r.is_complete (option_map (record_layout true) ps) None) (parts_agree n one other r.fields below agree)
layout_agree n one other (Enum tag) below agree = refl
layout_agree n one other (Qualified of bits) below agree = agree of below

-- ---- what is known stays known

pub with_part-Some : (f : Field) (l : Option Layout) (rest : Option (List Part)) (ps : List Part) → with_part f l rest ≡ Some ps
    → (layout : Layout) × (others : List Part) × (l ≡ Some layout) × (rest ≡ Some others) × (part f layout ∷ others ≡ ps)
with_part-Some f None rest ps is = absurd cc
with_part-Some f (Some l) None ps is = absurd cc
with_part-Some f (Some l) (Some others) ps is = (l, others, refl, refl, cc)

pub parts_known : (one other : Layouts) (fields : List Field) (ps : List Part) → Knows one other → parts_of one fields ≡ Some ps → parts_of other fields ≡ Some ps
parts_known one other [] ps knows is = is
parts_known one other (f ∷ fs) ps knows is =
    let split = with_part-Some f (one f.kind) (parts_of one fs) ps is in
    ap (λ (l : Option Layout). with_part f l (parts_of other fs)) (knows f.kind split.0 split.2)
    ∙ ap (with_part f (Some split.0)) (parts_known one other fs split.1 knows split.3)
    ∙ ap (λ (x : List Part). Some x) split.4

map_known : {A : Type 0} (one other : Option A) (f : A → Layout) (l : Layout) → ((v : A) → one ≡ Some v → other ≡ Some v)
    → option_map f one ≡ Some l → option_map f other ≡ Some l
map_known None other f l knows is = absurd cc
map_known (Some v) other f l knows is = ap (option_map f) (knows v refl) ∙ is

record_known : (complete : Bool) (one other : Option (List Part)) (f : List Part → Layout) (l : Layout) → ((v : List Part) → one ≡ Some v → other ≡ Some v)
    → cond complete (option_map f one) None ≡ Some l → cond complete (option_map f other) None ≡ Some l
record_known false one other f l knows is = is
record_known true one other f l knows is = map_known one other f l knows is

pub layout_known : (one other : Layouts) (node : TypeNode) (l : Layout) → Knows one other → layout_in one node ≡ Some l → layout_in other node ≡ Some l
layout_known one other Void l knows is = is
layout_known one other (Arithmetic b) l knows is = is
layout_known one other (Pointer to) l knows is = is
layout_known one other (Array of zero) l knows is = is
layout_known one other (Array of (suc count)) l knows is = map_known (one of) (other of) (layout_of_array (suc count)) l (knows of) is
layout_known one other (Function returns is_known parameters is_variadic) l knows is = is
layout_known one other (Struct r) l knows is =
    record_known r.is_complete (parts_of one r.fields) (parts_of other r.fields) (record_layout false) l (λ v h. parts_known one other r.fields v knows h) is
layout_known one other (Union r) l knows is =
    record_known r.is_complete (parts_of one r.fields) (parts_of other r.fields) (record_layout true) l (λ v h. parts_known one other r.fields v knows h) is
layout_known one other (Enum tag) l knows is = is
layout_known one other (Qualified of bits) l knows is = knows of l is

-- ---- what is made stays made

some_known : {A : Type 0} (one other : Option A) → ((v : A) → one ≡ Some v → other ≡ Some v) → IsSome one → IsSome other
some_known None other knows some = absurd cc
some_known (Some v) other knows some = rw (knows v refl) refl

has_known : (complete : Bool) (one other : Option (List Part)) → ((v : List Part) → one ≡ Some v → other ≡ Some v)
    → OnTrue complete (IsSome one) → OnTrue complete (IsSome other)
has_known false one other knows made = made
has_known true one other knows made = some_known one other knows made

pub made_known : (one other : Layouts) (node : TypeNode) → Knows one other → IsMade one node → IsMade other node
made_known one other Void knows made = tt
made_known one other (Arithmetic b) knows made = tt
made_known one other (Pointer to) knows made = tt
made_known one other (Array of count) knows made = some_known (one of) (other of) (knows of) made
made_known one other (Function returns is_known parameters is_variadic) knows made = tt
made_known one other (Struct r) knows made =
    has_known r.is_complete (parts_of one r.fields) (parts_of other r.fields) (λ v h. parts_known one other r.fields v knows h) made
made_known one other (Union r) knows made =
    has_known r.is_complete (parts_of one r.fields) (parts_of other r.fields) (λ v h. parts_known one other r.fields v knows h) made
made_known one other (Enum tag) knows made = tt
made_known one other (Qualified of bits) knows made = tt

-- ---- among more types

pub are_below_more : (n m : ℕ) (fields : List Field) → n ≤ m → AreBelow n fields → AreBelow m fields
are_below_more n m [] le below = tt
are_below_more n m (f ∷ fs) le below = (omega (arith, below.0), are_below_more n m fs le below.1)

pub is_below_more : (n m : ℕ) (node : TypeNode) → n ≤ m → IsBelow n node → IsBelow m node
is_below_more n m Void le below = tt
is_below_more n m (Arithmetic b) le below = tt
is_below_more n m (Pointer to) le below = tt
is_below_more n m (Array of count) le below = omega arith
is_below_more n m (Function returns is_known parameters is_variadic) le below = tt
is_below_more n m (Struct r) le below = are_below_more n m r.fields le below
is_below_more n m (Union r) le below = are_below_more n m r.fields le below
is_below_more n m (Enum tag) le below = tt
is_below_more n m (Qualified of bits) le below = omega arith

-- ---- with more depth

pub layout_by-suc : (k : ℕ) (nodes : List TypeNode) (id : ℕ) → layout_by (suc k) nodes id ≡ layout_in (layout_by k nodes) (node_at nodes id)
unfolding layout_by
layout_by-suc k nodes id = refl

pub layout_by-zero : (nodes : List TypeNode) (id : ℕ) (l : Layout) → layout_by 0 nodes id ≡ Some l → ⊥
unfolding layout_by
layout_by-zero nodes id l is = cc

-- ---- arrays

pub array_none : (layouts : Layouts) (of : ℕ) → layout_in layouts (Array of 0) ≡ None
array_none layouts of = refl

pub array_some : (layouts : Layouts) (of count : ℕ) → (count ≡ 0 → ⊥) → layout_in layouts (Array of count) ≡ option_map (layout_of_array count) (layouts of)
array_some layouts of zero some = absurd (some refl)
array_some layouts of (suc count) some = refl

pub array_same : (one other : Layouts) (a b count : ℕ) → one a ≡ other b → layout_in one (Array a count) ≡ layout_in other (Array b count)
array_same one other a b zero same = refl
array_same one other a b (suc count) same = ap (option_map (layout_of_array (suc count))) same
