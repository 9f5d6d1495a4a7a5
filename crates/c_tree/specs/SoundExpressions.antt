-- What holds of each expression in the typed units that the checker gives.
use Rattle.std.specs.Prelude.{ℕ, ◌+◌, ◌==◌, nat_lt, nat_le, max, not, ◌&&◌, ◌||◌, Bool, true, false, List, [], ◌∷◌, length, map, slice_get, Option, Some, None}
use Rattle.std.specs.List.{list_any, list_all}
use Rattle.c_ops.specs.Primitives.{arguments_of}
use Rattle.c_types.specs.declared.node.Member.{Member}
use Rattle.c_types.specs.declared.node.TypeNode.{TypeNode}
use Rattle.c_types.specs.Nodes.{node_at}
use Rattle.c_tree.specs.declared.expression.Access.{Access}
use Rattle.c_tree.specs.declared.expression.Access.TheVariants.{Scalar, Bits}
use Rattle.c_tree.specs.declared.expression.CompoundOp.{CompoundOp}
use Rattle.c_tree.specs.declared.expression.CompoundOp.TheVariants.{Plain, PointerPlus, PointerMinus}
use Rattle.c_tree.specs.declared.expression.Side.{Side}
use Rattle.c_tree.specs.declared.expression.Side.TheVariants.{Left, Right}
use Rattle.c_tree.specs.declared.expression.Symbol.{Symbol}
use Rattle.c_tree.specs.declared.expression.Symbol.TheVariants.{Named, Object}
use Rattle.c_tree.specs.declared.expression.TExpr.{TExpr, fold-TExpr}
use Rattle.c_tree.specs.declared.expression.TExpr.TheOpen.{TExpr-F}
use Rattle.c_tree.specs.declared.expression.Form.{Form}
use Rattle.c_tree.specs.declared.expression.Form.TheVariants as form
use Rattle.c_tree.specs.declared.unit.Entry.{Entry}
use Rattle.c_tree.specs.declared.unit.TypedSymbol.{TypedSymbol}
use Rattle.c_tree.specs.declared.unit.TypedUnit.{TypedUnit}
use Rattle.c_tree.specs.Programs.{bare_node, is_record, is_for_local, is_for_call}
use Rattle.c_tree.specs.Constants.{is_pointer, is_integer}
use Rattle.c_tree.specs.SoundTypes.{is_type, has_size, is_scalar, is_same, points_to, points_to_size, points_to_same, is_completion, is_value_of, is_signed_in, is_word_of, agree, is_conversion, is_converted, decays_into, members_at, is_whole_member, has_bits, called_in, returns_in, is_plain_result, takes}

-- ---- what an expression stands in

-- What an expression may name: what the unit has, and the locals and entry blocks of its function. Constants of static objects stand
-- in no function.
pub record Scope : Type 0 where
  pub unit : TypedUnit
  pub locals : List ℕ
  pub entries : List Entry
  -- the type that the function returns
  pub returns : ℕ

abbrev pub bare : Scope → (kind : ℕ) → TypeNode
bare scope kind = bare_node scope.unit.types kind

-- An expression: it and all in it are sound; it is an lvalue that is a slot; its pending size, which bounds how many words wait while it
-- is evaluated; its type; its form leads to an object or function; and the members that it may be, where its last step is to a member.
pub record Fit : Type 0 where
  pub is_sound : Bool
  pub is_slot : Bool
  pub pending : ℕ
  pub kind : ℕ
  pub is_path : Bool
  pub members : List Member

-- of no type so far
abbrev pub fit : Bool → (pending : ℕ) → Fit
fit is_sound pending = record { is_sound = is_sound; is_slot = false; pending = pending; kind = 0; is_path = false; members = [] }

abbrev pub path : Bool → (pending : ℕ) → Fit
path is_sound pending = record (fit is_sound pending) { is_path = true }

abbrev pub as_path : Fit → Fit
as_path e = record e { is_path = true }

-- a step to a member, which is one of these at least
abbrev pub step_to : Bool → List Member → (pending : ℕ) → Fit
step_to is_sound members pending = record (path (is_sound && nat_lt 0 (length members)) pending) { members = members }

-- its type is one of the table
abbrev pub of_kind : Scope → (kind : ℕ) → Fit → Fit
of_kind scope kind e = record e { kind = kind; is_sound = is_type scope.unit.types kind && e.is_sound }

-- ---- conditions

-- it gives a word, as each expression does but an lvalue that is a slot
abbrev pub gives_word : Fit → Bool
gives_word e = e.is_sound && not e.is_slot

abbrev pub all_give : List Fit → Bool
all_give es = list_all gives_word es

abbrev pub kind_in : Fit → ℕ
kind_in e = e.kind

-- a value of scalar type, and one of integer type
abbrev pub gives_scalar : Scope → Fit → Bool
gives_scalar scope e = gives_word e && is_scalar (bare scope e.kind)

abbrev pub gives_integer : Scope → Fit → Bool
gives_integer scope e = gives_word e && is_integer (bare scope e.kind)

-- a name is one of the unit's, and counted as used
abbrev pub is_used : Option TypedSymbol → Bool
is_used None = false
is_used (Some symbol) = symbol.used

abbrev pub names_something : TypedUnit → Symbol → Bool
names_something u (Named i) = is_used (slice_get u.symbols i)
names_something u (Object i) = nat_lt i (length u.objects)

-- a local is one of the function's, of its type; in its own initialiser its size may be unknown still
abbrev pub is_local : List TypeNode → (kind : ℕ) → Option ℕ → Bool
is_local nodes kind None = false
is_local nodes kind (Some own) = (kind == own) || is_completion (node_at nodes kind) (node_at nodes own)

-- a local without an entry block is a slot
abbrev pub is_slot_in : Scope → (number : ℕ) → Bool
is_slot_in scope number = not (list_any (λ (entry : Entry). is_for_local number entry.of) scope.entries)

-- it may be a member that is no bit-field, or it is no member
abbrev pub may_be_whole : List Member → Bool
may_be_whole [] = true
may_be_whole (m ∷ ms) = list_any is_whole_member (m ∷ ms)

-- How a scalar of this type is accessed: by its width and sign; a bit-field, which lies in its unit, by its place there. A slot is no
-- bit-field.
abbrev pub is_access : TypeNode → Fit → Access → Bool
is_access t e (Scalar width is_signed) = is_scalar t && (is_word_of t width is_signed && may_be_whole e.members)
is_access t e (Bits first count is_signed) =
    is_integer t && (agree is_signed (is_signed_in t) && (not e.is_slot
    && (nat_lt 0 count && (nat_le (first + count) 32 && list_any (has_bits first count) e.members))))

-- an lvalue of this type, qualifiers aside, and how it is accessed
abbrev pub is_accessed : Scope → (kind : ℕ) → Fit → Access → Bool
is_accessed scope kind target access =
    target.is_sound && (target.is_path && (is_same scope.unit.types target.kind kind && is_access (bare scope kind) target access))

-- the pointer of a subscript or a sum, and the integer
abbrev pub pointer_of : Side → (left right : Fit) → Fit
pointer_of Left left right = left
pointer_of Right left right = right

abbrev pub index_of : Side → (left right : Fit) → Fit
index_of Left left right = right
index_of Right left right = left

-- a pointer to an element of this size, and an integer
abbrev pub are_moved : Scope → (size : ℕ) → (pointer index : Fit) → Bool
are_moved scope size pointer index =
    points_to_size scope.unit.types (bare scope pointer.kind) size && is_integer (bare scope index.kind)

-- an operator on two integers, or a comparison of two pointers, gives an integer
abbrev pub is_operation : Scope → (kind : ℕ) → (left right : Fit) → Bool
is_operation scope kind left right = is_integer (bare scope kind) && is_value_of (bare scope left.kind) (bare scope right.kind)

-- what is added to or subtracted from a target: an integer to an integer, or to a pointer to an element of this size
abbrev pub is_combined : Scope → (target value : ℕ) → CompoundOp → Bool
is_combined scope target value (Plain op) = is_integer (bare scope target) && is_integer (bare scope value)
is_combined scope target value (PointerPlus size) =
    points_to_size scope.unit.types (bare scope target) size && is_integer (bare scope value)
is_combined scope target value (PointerMinus size) =
    points_to_size scope.unit.types (bare scope target) size && is_integer (bare scope value)

-- int, of which a step adds or subtracts 1
abbrev pub one_kind : ℕ
one_kind = 6

-- the entry block of a struct call is of the type that the call gives
abbrev pub is_call_entry : (number kind : ℕ) → Entry → Bool
is_call_entry number kind entry = is_for_call number entry.of && (entry.kind == kind)

abbrev pub has_call_entry : List Entry → (number kind : ℕ) → Bool
has_call_entry entries number kind = list_any (is_call_entry number kind) entries

-- what is called is a function that returns this type and takes these arguments, each of its parameter's type
abbrev pub is_called : Scope → (kind : ℕ) → Fit → List Fit → Bool
is_called scope kind f arguments =
    returns_in scope.unit.types (bare scope (called_in (bare scope f.kind))) kind
    && takes scope.unit.types (node_at scope.unit.types (called_in (bare scope f.kind))) (map kind_in arguments)

-- the last part of a comma expression has its type (C90 6.3.17)
abbrev pub is_last : List TypeNode → (kind : ℕ) → List Fit → Bool
is_last nodes kind [] = false
is_last nodes kind (e ∷ []) = is_same nodes e.kind kind
is_last nodes kind (e ∷ (next ∷ es)) = is_last nodes kind (next ∷ es)

-- ---- pending sizes

-- the greatest pending size, and the greatest of those of arguments from one on, above the arguments before it
abbrev pub greatest : List Fit → ℕ
greatest [] = 0
greatest (e ∷ es) = max e.pending (greatest es)

abbrev pub greatest_from : (i : ℕ) → List Fit → ℕ
greatest_from i [] = 0
greatest_from i (e ∷ es) = max (i + e.pending) (greatest_from (i + 1) es)

abbrev pub pending_pair : (left right : Fit) → ℕ
pending_pair left right = max left.pending (1 + right.pending)

abbrev pub pending_call : (called : ℕ) → List Fit → ℕ
pending_call called arguments = max called (max (greatest_from 1 arguments) (length arguments + 2))

-- ---- forms

abbrev pub pair : Bool → (left right : Fit) → Fit
pair holds left right = fit (holds && (gives_word left && gives_word right)) (pending_pair left right)

abbrev pub call : Bool → Fit → List Fit → Fit
call holds f arguments =
    fit (holds && (gives_word f && (all_give arguments && nat_le (length arguments) 63))) (pending_call f.pending arguments)

abbrev pub fit_form : Scope → (kind : ℕ) → Form Fit → Fit
-- lvalues and designators
fit_form scope kind (form.Static symbol) = path (names_something scope.unit symbol) 1
fit_form scope kind (form.Local i) =
    record (path (is_local scope.unit.types kind (slice_get scope.locals i)) 1) { is_slot = is_slot_in scope i }
fit_form scope kind (form.Deref e) = path (gives_word e && points_to (bare scope e.kind) kind) e.pending
fit_form scope kind (form.Index a b pointer size) = as_path (pair
    (points_to (bare scope (pointer_of pointer a b).kind) kind && are_moved scope size (pointer_of pointer a b) (index_of pointer a b)) a b)
fit_form scope kind (form.Dot e m) = step_to
    (gives_word e && (is_record (bare scope m.record) && is_same scope.unit.types e.kind m.record))
    (members_at scope.unit.types m.record kind m.offset) e.pending
fit_form scope kind (form.Arrow e m) = step_to
    (gives_word e && (is_record (bare scope m.record) && points_to_same scope.unit.types (bare scope e.kind) m.record))
    (members_at scope.unit.types m.record kind m.offset) e.pending
-- conversions
fit_form scope kind (form.Value e access) = fit (is_accessed scope kind e access) e.pending
fit_form scope kind (form.Decay e) =
    fit (gives_word e && (e.is_path && decays_into scope.unit.types e.kind (node_at scope.unit.types kind))) e.pending
fit_form scope kind (form.Convert e c) =
    fit (gives_word e && (is_converted (bare scope e.kind) (bare scope kind) && is_conversion scope.unit.types (bare scope kind) c)) e.pending
-- values
fit_form scope kind (form.Number n) = fit (is_integer (bare scope kind)) 1
fit_form scope kind (form.AddressOf e) =
    fit (gives_word e && (e.is_path && (may_be_whole e.members && points_to (node_at scope.unit.types kind) e.kind))) e.pending
fit_form scope kind (form.Unary op e) = fit (gives_scalar scope e && is_integer (bare scope kind)) e.pending
fit_form scope kind (form.Binary op a b) = pair (is_operation scope kind a b) a b
fit_form scope kind (form.PointerAdd a b pointer size) =
    pair (((pointer_of pointer a b).kind == kind) && are_moved scope size (pointer_of pointer a b) (index_of pointer a b)) a b
fit_form scope kind (form.PointerMinus p i size) = pair ((p.kind == kind) && are_moved scope size p i) p i
fit_form scope kind (form.PointerDifference a b size) = pair
    (is_integer (bare scope kind) && (points_to_size scope.unit.types (bare scope a.kind) size && is_pointer (bare scope b.kind))) a b
fit_form scope kind (form.Both a b) =
    fit (is_integer (bare scope kind) && (gives_scalar scope a && gives_scalar scope b)) (max a.pending b.pending)
fit_form scope kind (form.Either a b) =
    fit (is_integer (bare scope kind) && (gives_scalar scope a && gives_scalar scope b)) (max a.pending b.pending)
fit_form scope kind (form.Choose c a b) = fit
    (gives_scalar scope c && (gives_word a && (gives_word b && (is_same scope.unit.types a.kind kind && is_same scope.unit.types b.kind kind))))
    (max c.pending (max a.pending b.pending))
fit_form scope kind (form.Comma parts) =
    fit (all_give parts && (nat_le 2 (length parts) && is_last scope.unit.types kind parts)) (greatest parts)
-- assignments
fit_form scope kind (form.Assign target v access) =
    fit (is_accessed scope kind target access && (gives_word v && (v.kind == kind))) (pending_pair target v)
fit_form scope kind (form.AssignRecord target v size) = pair
    (target.is_path && (is_record (bare scope kind) && (has_size scope.unit.types kind size
    && (is_same scope.unit.types target.kind kind && is_same scope.unit.types v.kind kind)))) target v
fit_form scope kind (form.Compound target op v access) = fit
    (is_accessed scope kind target access && (gives_word v && is_combined scope kind v.kind op))
    (max (1 + target.pending) (2 + v.pending))
fit_form scope kind (form.Step target op is_prefix access) =
    fit (is_accessed scope kind target access && is_combined scope kind one_kind op) (max (1 + target.pending) 3)
-- calls
fit_form scope kind (form.Call f arguments) = call (is_plain_result (bare scope kind) && is_called scope kind f arguments) f arguments
fit_form scope kind (form.CallRecord f arguments number) = call
    (is_record (bare scope kind) && (has_call_entry scope.entries number kind && is_called scope kind f arguments)) f arguments
fit_form scope kind (form.Primitive p arguments) =
    fit (all_give arguments && (length arguments == arguments_of p)) (pending_call 0 arguments)

abbrev pub fit_step : Scope → TExpr-F Fit → Fit
fit_step scope e = of_kind scope e.kind (fit_form scope e.kind e.form)

unfoldable pub fit_of : Scope → TExpr → Fit
fit_of scope e = fold-TExpr Fit (fit_step scope) e

-- ---- whole expressions

abbrev pub is_evaluated : Fit → Bool
is_evaluated e = gives_word e && nat_le e.pending 200

-- a whole expression of a statement
abbrev pub is_whole : Scope → TExpr → Bool
is_whole scope e = is_evaluated (fit_of scope e)

abbrev pub is_whole_if_there : Scope → Option TExpr → Bool
is_whole_if_there scope None = true
is_whole_if_there scope (Some e) = is_whole scope e

-- one that is tested is scalar, and one that a switch tests is an integer
abbrev pub is_test : Scope → TExpr → Bool
is_test scope e = is_whole scope e && is_scalar (bare scope (fit_of scope e).kind)

abbrev pub is_test_if_there : Scope → Option TExpr → Bool
is_test_if_there scope None = true
is_test_if_there scope (Some e) = is_test scope e

abbrev pub is_selector : Scope → TExpr → Bool
is_selector scope e = is_whole scope e && is_integer (bare scope (fit_of scope e).kind)
