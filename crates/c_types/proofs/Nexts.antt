-- Nodes that may stand behind a table.
use Rattle.std.proofs.Common.{◌≡◌, ℕ, zero, suc, ◌*◌, ◌<◌, ◌≤◌, Bool, true, false, List, [], length, Option, Some, None, refl, ap, ◌∙◌, subst, lit<, lit≤, arith}
use Rattle.std.specs.Option.{option_map, is_some, IsSomeAnd}
use Rattle.std.specs.Prelude.{bit_or}
use Rattle.c_types.specs.declared.layout.Layout.{Layout}
use Rattle.c_types.specs.declared.node.Basic.{Basic}
use Rattle.c_types.specs.declared.node.Basic.TheVariants as basic
use Rattle.c_types.specs.declared.node.Record.{Record}
use Rattle.c_types.specs.declared.node.TypeNode.{TypeNode}
use Rattle.c_types.specs.declared.node.TypeNode.TheVariants.{Void, Basic as Arithmetic, Pointer, Array, Function, Struct, Union, Enum, Qualified}
use Rattle.c_types.specs.Nodes.{node_at}
use Rattle.c_types.specs.Layouts.{layout_in, layout_of, layout_of_array, size_of, depth_of, scalar, size_of_basic}
use Rattle.c_types.proofs.Pushed.{laid_within}
use Rattle.c_types.specs.Building.{can_be_qualified, version_in, version_of}
use Rattle.c_types.specs.Built.{IsModest, IsBuilt, IsBelow, IsNormal, IsNext, takes_qualifiers}

modest_scalar : (size : ℕ) (l : Layout) → 0 < size → size ≤ 4 → (let one : Option Layout = Some (scalar size) in one ≡ Some l) → IsModest l
modest_scalar size l some few is =
    let same : scalar size ≡ l = cc in
    subst IsModest same (record { small = omega arith; aligned = some; within = few; few = lit≤ tt })

basic_some : (b : Basic) → 0 < size_of_basic b
basic_some basic.Char = lit< tt
basic_some basic.SignedChar = lit< tt
basic_some basic.UnsignedChar = lit< tt
basic_some basic.Short = lit< tt
basic_some basic.UnsignedShort = lit< tt
basic_some basic.Int = lit< tt
basic_some basic.Unsigned = lit< tt
basic_some basic.Long = lit< tt
basic_some basic.UnsignedLong = lit< tt

basic_few : (b : Basic) → size_of_basic b ≤ 4
basic_few basic.Char = lit≤ tt
basic_few basic.SignedChar = lit≤ tt
basic_few basic.UnsignedChar = lit≤ tt
basic_few basic.Short = lit≤ tt
basic_few basic.UnsignedShort = lit≤ tt
basic_few basic.Int = lit≤ tt
basic_few basic.Unsigned = lit≤ tt
basic_few basic.Long = lit≤ tt
basic_few basic.UnsignedLong = lit≤ tt

none_is_modest : {l : Layout} → (let none : Option Layout = None in none ≡ Some l) → IsModest l
none_is_modest is = absurd cc

pub next_void : (nodes : List TypeNode) → IsNext nodes Void
next_void nodes = record { below = tt; made = tt; normal = tt; modest = λ l is. none_is_modest is; light = refl }

pub next_basic : (nodes : List TypeNode) (b : Basic) → IsNext nodes (Arithmetic b)
next_basic nodes b = record { below = tt; made = tt; normal = tt; modest = λ l is. modest_scalar (size_of_basic b) l (basic_some b) (basic_few b) is; light = refl }

pub next_pointer : (nodes : List TypeNode) (to : ℕ) → IsNext nodes (Pointer to)
next_pointer nodes to = record { below = tt; made = tt; normal = tt; modest = λ l is. modest_scalar 4 l (lit< tt) (lit≤ tt) is; light = refl }

pub next_enum : (nodes : List TypeNode) (tag : List ℕ) → IsNext nodes (Enum tag)
next_enum nodes tag = record { below = tt; made = tt; normal = tt; modest = λ l is. modest_scalar 4 l (lit< tt) (lit≤ tt) is; light = refl }

pub next_function : (nodes : List TypeNode) (returns : ℕ) (is_known : Bool) (parameters : List ℕ) (is_variadic : Bool)
    → IsNext nodes (Function returns is_known parameters is_variadic)
next_function nodes returns is_known parameters is_variadic =
    record { below = tt; made = tt; normal = tt; modest = λ l is. none_is_modest is; light = refl }

abbrev pub incomplete : List ℕ → Record
incomplete tag = record { tag = tag; is_complete = false; fields = [] }

pub next_struct : (nodes : List TypeNode) (tag : List ℕ) → IsNext nodes (Struct (incomplete tag))
next_struct nodes tag = record { below = tt; made = tt; normal = tt; modest = λ l is. none_is_modest is; light = refl }

pub next_union : (nodes : List TypeNode) (tag : List ℕ) → IsNext nodes (Union (incomplete tag))
next_union nodes tag = record { below = tt; made = tt; normal = tt; modest = λ l is. none_is_modest is; light = refl }

array_modest : (element : Layout) (count : ℕ) (l : Layout) (o : Option Layout) → o ≡ Some element → IsModest element → element.size * count ≤ 134217728
    → option_map (layout_of_array count) o ≡ Some l → IsModest l
array_modest element count l None is modest fits said = absurd cc
array_modest element count l (Some e) is modest fits said =
    let here : e ≡ element = cc in
    let same : layout_of_array count e ≡ l = cc in
    subst IsModest same (rw here (record { small = fits; aligned = modest.aligned; within = modest.within; few = modest.few }))

array_modest_any : (nodes : List TypeNode) (built : IsBuilt nodes) (of count : ℕ) (element : Layout) → layout_of nodes of ≡ Some element
    → element.size * count ≤ 134217728 → (l : Layout) → layout_in (layout_of nodes) (Array of count) ≡ Some l → IsModest l
array_modest_any nodes built of zero element is fits l said = none_is_modest said
array_modest_any nodes built of (suc count) element is fits l said =
    array_modest element (suc count) l (layout_of nodes of) is (built.modest of element is) fits said

pub next_array : (nodes : List TypeNode) (built : IsBuilt nodes) (of count : ℕ) (element : Layout) → layout_of nodes of ≡ Some element
    → element.size * count ≤ 134217728 → IsNext nodes (Array of count)
next_array nodes built of count element is fits = record {
  below = laid_within nodes of (depth_of nodes) element is;
  made = ap is_some is;
  normal = tt;
  modest = array_modest_any nodes built of count element is fits;
  light = refl;
}

next_array_by : (nodes : List TypeNode) (built : IsBuilt nodes) (of count : ℕ) (o : Option Layout) → layout_of nodes of ≡ o
    → IsSomeAnd (option_map (λ (l : Layout). l.size) o) (λ size. size * count ≤ 134217728) → IsNext nodes (Array of count)
next_array_by nodes built of count None is fits = absurd fits
next_array_by nodes built of count (Some l) is fits = next_array nodes built of count l is fits

-- the same, from what is asked of the element
pub next_array_fits : (nodes : List TypeNode) (built : IsBuilt nodes) (of count : ℕ) → IsSomeAnd (size_of nodes of) (λ size. size * count ≤ 134217728)
    → IsNext nodes (Array of count)
next_array_fits nodes built of count fits = next_array_by nodes built of count (layout_of nodes of) refl fits

pub next_qualified : (nodes : List TypeNode) (built : IsBuilt nodes) (of bits : ℕ) → of < length nodes → takes_qualifiers (node_at nodes of) ≡ true
    → IsNext nodes (Qualified of bits)
next_qualified nodes built of bits below takes =
    record { below = below; made = tt; normal = takes; modest = λ l is. built.modest of l is; light = refl }

plain_next : (nodes : List TypeNode) (built : IsBuilt nodes) (id bits : ℕ) → id < length nodes → (here : TypeNode) → node_at nodes id ≡ here
    → takes_qualifiers here ≡ true → IsNext nodes (Qualified id bits)
plain_next nodes built id bits below here what takes = next_qualified nodes built id bits below (ap takes_qualifiers what ∙ takes)

version_by : (nodes : List TypeNode) (built : IsBuilt nodes) (id bits : ℕ) → id < length nodes → (here : TypeNode) → node_at nodes id ≡ here
    → can_be_qualified here ≡ true → IsNext nodes (version_in id bits here)
version_by nodes built id bits below Void what can = plain_next nodes built id bits below Void what refl
version_by nodes built id bits below (Arithmetic b) what can = plain_next nodes built id bits below (Arithmetic b) what refl
version_by nodes built id bits below (Pointer to) what can = plain_next nodes built id bits below (Pointer to) what refl
version_by nodes built id bits below (Array of count) what can = absurd cc
version_by nodes built id bits below (Function returns is_known parameters is_variadic) what can =
    plain_next nodes built id bits below (Function returns is_known parameters is_variadic) what refl
version_by nodes built id bits below (Struct r) what can = plain_next nodes built id bits below (Struct r) what refl
version_by nodes built id bits below (Union r) what can = plain_next nodes built id bits below (Union r) what refl
version_by nodes built id bits below (Enum tag) what can = plain_next nodes built id bits below (Enum tag) what refl
version_by nodes built id bits below (Qualified of own) what can =
    next_qualified nodes built of (bit_or bits own) (subst (IsBelow (length nodes)) what (built.below id)) (subst (IsNormal nodes) what (built.normal id))

pub next_version : (nodes : List TypeNode) (built : IsBuilt nodes) (id bits : ℕ) → id < length nodes → can_be_qualified (node_at nodes id) ≡ true
    → IsNext nodes (version_of nodes id bits)
next_version nodes built id bits below can = version_by nodes built id bits below (node_at nodes id) refl can
