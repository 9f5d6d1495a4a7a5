-- Compatible types of two units (C90 6.1.2.6, 6.5.4, 6.5.3). Tags are not compared, the members of unions may stand in any order,
-- and an incomplete struct or union agrees with every struct, or every union. It is the greatest relation with these rules, so types
-- that refer to themselves may agree.
use Rattle.std.specs.Prelude.{◌≡◌, ◌⊎◌, ℕ, zero, suc, Bool, true, false, IsTrue, List, [], ◌∷◌, length, bit_or, IsPermutation}
use Rattle.c_types.specs.declared.node.Basic.{Basic}
use Rattle.c_types.specs.declared.node.Basic.TheVariants as basic
use Rattle.c_types.specs.declared.node.Field.{Field}
use Rattle.c_types.specs.declared.node.Record.{Record}
use Rattle.c_types.specs.declared.node.TypeNode.{TypeNode}
use Rattle.c_types.specs.declared.node.TypeNode.TheVariants.{Void, Basic as Arithmetic, Pointer, Array, Function, Struct, Union, Enum, Qualified}
use Rattle.c_types.specs.Nodes.{node_at, unqualified}

-- ---- qualifiers

-- all qualifiers of a type: 1 for const, 2 for volatile, 3 for both
abbrev pub bits_in : (rest : ℕ → ℕ) → TypeNode → ℕ
bits_in rest (Qualified of bits) = bit_or bits (rest of)
bits_in rest _ = 0

abbrev pub bits_by : (steps : ℕ) → List TypeNode → (id : ℕ) → ℕ
bits_by zero nodes id = 0
bits_by (suc n) nodes id = bits_in (bits_by n nodes) (node_at nodes id)

unfoldable pub bits_of : List TypeNode → (id : ℕ) → ℕ
bits_of nodes id = bits_by (length nodes) nodes id

-- ---- parts

-- A pair of types of two tables is compatible where this says so.
abbrev pub Pairs : Type 0
Pairs = (one other : ℕ) → Bool

-- parameters, one by one
abbrev pub AreParameters : Pairs → List ℕ → List ℕ → Type 0
AreParameters pairs [] [] = Unit {0}
AreParameters pairs [] (q ∷ qs) = ⊥
AreParameters pairs (p ∷ ps) [] = ⊥
AreParameters pairs (p ∷ ps) (q ∷ qs) = IsTrue (pairs p q) × AreParameters pairs ps qs

-- two members: their names, the places of their bits, and their types
pub record IsMember (pairs : Pairs) (one other : Field) : Type 0 where
  pub name : one.name ≡ other.name
  pub first : one.first ≡ other.first
  pub count : one.count ≡ other.count
  pub kind : IsTrue (pairs one.kind other.kind)

abbrev pub AreMembers : Pairs → List Field → List Field → Type 0
AreMembers pairs [] [] = Unit {0}
AreMembers pairs [] (g ∷ gs) = ⊥
AreMembers pairs (f ∷ fs) [] = ⊥
AreMembers pairs (f ∷ fs) (g ∷ gs) = IsMember pairs f g × AreMembers pairs fs gs

-- a type that the default argument promotions leave as it is (C90 6.3.2.2)
abbrev pub is_kept_basic : Basic → Bool
is_kept_basic basic.Char = false
is_kept_basic basic.SignedChar = false
is_kept_basic basic.UnsignedChar = false
is_kept_basic basic.Short = false
is_kept_basic basic.UnsignedShort = false
is_kept_basic basic.Int = true
is_kept_basic basic.Unsigned = true
is_kept_basic basic.Long = true
is_kept_basic basic.UnsignedLong = true

abbrev pub is_kept : TypeNode → Bool
is_kept (Arithmetic basic) = is_kept_basic basic
is_kept _ = true

abbrev pub AreKept : List TypeNode → List ℕ → Type 0
AreKept nodes [] = Unit {0}
AreKept nodes (p ∷ ps) = IsTrue (is_kept (node_at nodes (unqualified nodes p))) × AreKept nodes ps

-- ---- one row for each form

-- two types without their qualifiers
pub data Matches (nodes others : List TypeNode) (pairs : Pairs) : TypeNode → TypeNode → Type 0 where
  voids : Matches nodes others pairs Void Void
  basics : {basic : Basic} → Matches nodes others pairs (Arithmetic basic) (Arithmetic basic)
  -- an enum is compatible with int, and with every enum of another unit
  enums : {tag other : List ℕ} → Matches nodes others pairs (Enum tag) (Enum other)
  enum_int : {tag : List ℕ} → Matches nodes others pairs (Enum tag) (Arithmetic basic.Int)
  int_enum : {tag : List ℕ} → Matches nodes others pairs (Arithmetic basic.Int) (Enum tag)
  pointers : {one other : ℕ} → IsTrue (pairs one other) → Matches nodes others pairs (Pointer one) (Pointer other)
  -- the numbers of elements are the same, where both are known
  arrays : {one other count number : ℕ} → IsTrue (pairs one other) → (count ≡ 0) ⊎ ((number ≡ 0) ⊎ (count ≡ number))
      → Matches nodes others pairs (Array one count) (Array other number)
  -- two prototypes: a function's node holds its parameters without their qualifiers, which are not compared (C90 6.5.4.3)
  prototypes : {one other : ℕ} {is_variadic : Bool} {parameters arguments : List ℕ} → IsTrue (pairs one other) → AreParameters pairs parameters arguments
      → Matches nodes others pairs (Function one true parameters is_variadic) (Function other true arguments is_variadic)
  -- a prototype beside a declaration without one has no ellipsis, and parameters that the promotions leave as they are; what a definition
  -- with a list of names says of its parameters stands in no type, and is compared by the checker (K04)
  prototype_first : {one other : ℕ} {is_variadic : Bool} {parameters arguments : List ℕ} → IsTrue (pairs one other) → AreKept nodes parameters
      → Matches nodes others pairs (Function one true parameters false) (Function other false arguments is_variadic)
  prototype_second : {one other : ℕ} {is_variadic : Bool} {parameters arguments : List ℕ} → IsTrue (pairs one other) → AreKept others arguments
      → Matches nodes others pairs (Function one false parameters is_variadic) (Function other true arguments false)
  no_prototypes : {one other : ℕ} {is_variadic is_other_variadic : Bool} {parameters arguments : List ℕ} → IsTrue (pairs one other)
      → Matches nodes others pairs (Function one false parameters is_variadic) (Function other false arguments is_other_variadic)
  -- the members of structs in order, those of unions in any order
  structs : {one other : Record} → AreMembers pairs one.fields other.fields → Matches nodes others pairs (Struct one) (Struct other)
  unions : {one other : Record} {ordered : List Field} → IsPermutation other.fields ordered → AreMembers pairs one.fields ordered
      → Matches nodes others pairs (Union one) (Union other)
  -- incomplete ones
  struct_first : {one other : Record} → one.is_complete ≡ false → Matches nodes others pairs (Struct one) (Struct other)
  struct_second : {one other : Record} → other.is_complete ≡ false → Matches nodes others pairs (Struct one) (Struct other)
  union_first : {one other : Record} → one.is_complete ≡ false → Matches nodes others pairs (Union one) (Union other)
  union_second : {one other : Record} → other.is_complete ≡ false → Matches nodes others pairs (Union one) (Union other)

-- two types of two tables: the same qualifiers, and a row for what is qualified
pub record IsPair (nodes others : List TypeNode) (pairs : Pairs) (one other : ℕ) : Type 0 where
  pub bits : bits_of nodes one ≡ bits_of others other
  pub matches : Matches nodes others pairs (node_at nodes (unqualified nodes one)) (node_at others (unqualified others other))

-- ---- the greatest relation

-- each pair that is said to be compatible has its row, by pairs that are said to be
abbrev pub IsClosed : (nodes others : List TypeNode) → Pairs → Type 0
IsClosed nodes others pairs = (one other : ℕ) → IsTrue (pairs one other) → IsPair nodes others pairs one other

-- type `one` of a table and type `other` of another unit's are compatible
pub record Agrees (nodes : List TypeNode) (one : ℕ) (others : List TypeNode) (other : ℕ) : Type 0 where
  pub pairs : Pairs
  pub closed : IsClosed nodes others pairs
  pub agree : IsTrue (pairs one other)
