-- Types of two units that agree, and types that don't.
use Rattle.std.proofs.Common.{◌≡◌, ◌⊎◌, ℕ, ◌==◌, ◌&&◌, ◌||◌, List, [], ◌∷◌, ◌++◌, codes, false, refl, sym, subst, inl, inr, lit<, arith}
use Rattle.std.proofs.lemmas.Bool.{and_parts, or_cases, eqb-true}
use Rattle.c_types.specs.declared.node.Basic.TheVariants as basic
use Rattle.c_types.specs.declared.node.Record.{Record}
use Rattle.c_types.specs.declared.node.TypeNode.{TypeNode}
use Rattle.c_types.specs.declared.node.TypeNode.TheVariants.{Basic as Arithmetic, Struct, Qualified}
use Rattle.c_types.specs.Agreeing.{Agrees, AreMembers, IsClosed, IsPair, Matches, Pairs, pointers, structs, struct_first, struct_second, bits_of}
use Rattle.c_types.specs.Nodes.{presets, unqualified}
use Rattle.c_types.specs.Texts.{text_of}
use Rattle.c_link.specs.Compared.{incompatible}
use Rattle.c_link.specs.TypeLaws.{BreaksTypes, AgreesWithItself, BitsDiffer, QualifiersDiffer, struct_of, member_of}

-- ---- structs that refer to themselves

first : List TypeNode
first = struct_of (codes "s") (member_of 10 0 0 ∷ [])

second : List TypeNode
second = struct_of (codes "t") (member_of 10 0 0 ∷ [])

-- the two structs, and the two pointers to them
abbrev pairs : Pairs
pairs one other = ((one == 11) && (other == 11)) || ((one == 10) && (other == 10))

struct_pair : IsPair first second pairs 11 11
unfolding first second bits_of unqualified
struct_pair = record { bits = refl; matches = structs (record { name = refl; first = refl; count = refl; kind = refl }, tt) }

pointer_pair : IsPair first second pairs 10 10
unfolding first second bits_of unqualified
pointer_pair = record { bits = refl; matches = pointers refl }

-- what holds of a pair of numbers holds of equal ones
moved : (a b one other : ℕ) → IsPair first second pairs a b → one ≡ a → other ≡ b → IsPair first second pairs one other
moved a b one other pair e f =
    subst (λ x. IsPair first second pairs x other) (sym e) (subst (λ y. IsPair first second pairs a y) (sym f) pair)

closed : IsClosed first second pairs
closed one other h =
    elim (or_cases ((one == 11) && (other == 11)) ((one == 10) && (other == 10)) h) [
      | inl e ↦ let parts = and_parts (one == 11) (other == 11) e in moved 11 11 one other struct_pair (eqb-true one 11 parts.0) (eqb-true other 11 parts.1)
      | inr e ↦ let parts = and_parts (one == 10) (other == 10) e in moved 10 10 one other pointer_pair (eqb-true one 10 parts.0) (eqb-true other 10 parts.1)
    ]

pub agrees_with_itself : AgreesWithItself
unfolding first second
agrees_with_itself = record { pairs = pairs; closed = closed; agree = refl }

-- ---- types that don't agree

struct_cases : {nodes others : List TypeNode} {ps : Pairs} (one other : Record) → Matches nodes others ps (Struct one) (Struct other)
    → (one.is_complete ≡ false) ⊎ ((other.is_complete ≡ false) ⊎ AreMembers ps one.fields other.fields)
struct_cases one other (structs members) = inr (inr members)
struct_cases one other (struct_first incomplete) = inl incomplete
struct_cases one other (struct_second incomplete) = inr (inl incomplete)

pub bits_differ : BitsDiffer
unfolding bits_of unqualified
bits_differ agrees =
    elim (struct_cases _ _ (agrees.closed 11 11 agrees.agree).matches) [
      | inl e ↦ cc
      | inr (inl e) ↦ cc
      | inr (inr members) ↦ let e = members.0.count in omega arith
    ]

zero_or_one : (a b : ℕ) → a ≡ 0 → b ≡ 1 → a ≡ b → ⊥
zero_or_one a b e f g = omega arith

pub qualifiers_differ : QualifiersDiffer
unfolding bits_of
qualifiers_differ agrees =
    zero_or_one (bits_of presets 6) (bits_of (presets ++ (Qualified 6 1 ∷ [])) 10) refl refl (agrees.closed 6 10 agrees.agree).bits

int_or_char : {nodes others : List TypeNode} {ps : Pairs} → Matches nodes others ps (Arithmetic basic.Int) (Arithmetic basic.Char) → ⊥
int_or_char h = elim h [ ]

int_no_char : Agrees presets 6 presets 1 → ⊥
unfolding unqualified
int_no_char agrees = int_or_char (agrees.closed 6 1 agrees.agree).matches

pub breaks_types : BreaksTypes
unfolding text_of unqualified
breaks_types = incompatible (0, 1, lit< tt, refl, refl) (refl, refl) (refl, refl) int_no_char
