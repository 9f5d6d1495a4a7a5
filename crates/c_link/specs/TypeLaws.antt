-- Types of two units that agree, and types that don't; and the texts that are told of them.
use Rattle.std.specs.Prelude.{◌≡◌, ℕ, List, [], ◌∷◌, ◌++◌, codes, true, false}
use Rattle.fsc_base.specs.declared.rule.Rule.TheVariants.{M01}
use Rattle.c_types.specs.declared.node.Field.{Field}
use Rattle.c_types.specs.declared.node.TypeNode.{TypeNode}
use Rattle.c_types.specs.declared.node.TypeNode.TheVariants.{Pointer, Array, Function, Struct, Enum, Qualified}
use Rattle.c_types.specs.Agreeing.{Agrees}
use Rattle.c_types.specs.Nodes.{presets}
use Rattle.c_types.specs.Texts.{text_of}
use Rattle.c_ops.specs.declared.linkage.Definition.TheVariants.{Missing}
use Rattle.c_link.specs.Views.{LinkView}
use Rattle.c_link.specs.Broken.{fault}
use Rattle.c_link.specs.Compared.{BrokenTypes}
use Rattle.c_link.specs.Laws.{symbol_of, unit_of}

-- ---- int and char

-- a unit that declares v of a type, by its number among the first ten: 6 is int, and 1 is char
abbrev pub declares_v : (kind : ℕ) → LinkView
declares_v kind = record (unit_of (record (symbol_of (codes "v") true Missing) { kind = kind } ∷ []) 0 []) { types = presets }

-- extern int v; in one unit and char v; in the next
abbrev pub BreaksTypes : Type 0
BreaksTypes = BrokenTypes (declares_v 6 ∷ declares_v 1 ∷ []) [] (fault M01 (codes "v") (codes "int") (codes "char"))

-- ---- structs

-- the first ten types, a pointer at 10, and what it points to, a struct, at 11
abbrev pub struct_of : (tag : List ℕ) → (fields : List Field) → List TypeNode
struct_of tag fields = presets ++ (Pointer 11 ∷ Struct (record { tag = tag; is_complete = true; fields = fields }) ∷ [])

abbrev pub member_of : (kind first count : ℕ) → Field
member_of kind first count = record { name = codes "a"; kind = kind; first = first; count = count }

-- struct s{struct s *a;}; and struct t{struct t *a;}; agree: types that refer to themselves may
abbrev pub AgreesWithItself : Type 0
AgreesWithItself = Agrees (struct_of (codes "s") (member_of 10 0 0 ∷ [])) 11 (struct_of (codes "t") (member_of 10 0 0 ∷ [])) 11

-- struct s{int a:3;}; and struct s{int a:4;}; don't
abbrev pub BitsDiffer : Type 0
BitsDiffer = Agrees (struct_of (codes "s") (member_of 6 0 3 ∷ [])) 11 (struct_of (codes "s") (member_of 6 0 4 ∷ [])) 11 → ⊥

-- nor do int and const int
abbrev pub QualifiersDiffer : Type 0
QualifiersDiffer = Agrees presets 6 (presets ++ (Qualified 6 1 ∷ [])) 10 → ⊥

-- ---- texts

abbrev pub text_behind : TypeNode → List ℕ
text_behind node = text_of (presets ++ (Qualified 1 1 ∷ node ∷ [])) 11

abbrev pub TextsOfTypes : Type 0
TextsOfTypes =
    (text_behind (Pointer 10) ≡ codes "pointer to const char")
    × (text_behind (Array 8 3) ≡ codes "array 3 of long")
    × (text_behind (Function 0 true (6 ∷ 7 ∷ []) true) ≡ codes "function (int, unsigned, ...) returning void")
    × (text_behind (Function 6 false [] false) ≡ codes "function () returning int")
    × (text_behind (Enum []) ≡ codes "enum ?")
