-- Layouts of some types, worked through.
use Rattle.std.specs.Prelude.{◌≡◌, ℕ, true, false, List, [], ◌∷◌, ◌++◌, Some, None, codes}
use Rattle.fsc_base.specs.declared.word.WordKind.TheVariants.{Fat, Narrow}
use Rattle.c_types.specs.declared.node.Field.{Field}
use Rattle.c_types.specs.declared.node.Record.{Record}
use Rattle.c_types.specs.declared.node.TypeNode.{TypeNode}
use Rattle.c_types.specs.declared.node.TypeNode.TheVariants.{Array, Struct, Union, Qualified}
use Rattle.c_types.specs.Nodes.{presets}
use Rattle.c_types.specs.declared.node.Member.{Member}
use Rattle.c_types.specs.Layouts.{layout_of, members_of, next_first}

abbrev pub plain : (name : List ℕ) → (kind : ℕ) → Field
plain name kind = record { name = name; kind = kind; first = 0; count = 0 }

abbrev pub bits : (name : List ℕ) → (kind first count : ℕ) → Field
bits name kind first count = record { name = name; kind = kind; first = first; count = count }

abbrev pub complete : List Field → Record
complete fields = record { tag = codes "s"; is_complete = true; fields = fields }

-- char is type 1, int type 6 and unsigned type 7; the types behind the presets begin with number 10

-- struct { char c; int i; }
abbrev pub char_and_int : List TypeNode
char_and_int = presets ++ (Struct (complete (plain (codes "c") 1 ∷ plain (codes "i") 6 ∷ [])) ∷ [])

abbrev pub CharAndInt : Type 0
CharAndInt = layout_of char_and_int 10 ≡ Some (record { size = 8; align = 4; kinds = Narrow ∷ Fat ∷ [] })

-- it is not laid out before it is complete
abbrev pub Incomplete : Type 0
Incomplete = layout_of (presets ++ (Struct (record { tag = codes "s"; is_complete = false; fields = [] }) ∷ [])) 10 ≡ None

-- struct { unsigned a:3; int b:5; unsigned :0; unsigned c:4; }: a and b share the unit at 0, c opens the next one
abbrev pub three_fields : List Field
three_fields = bits (codes "a") 7 0 3 ∷ bits (codes "b") 6 3 5 ∷ bits (codes "c") 7 0 4 ∷ []

abbrev pub BitFields : Type 0
BitFields = layout_of (presets ++ (Struct (complete three_fields) ∷ [])) 10 ≡ Some (record { size = 8; align = 4; kinds = Narrow ∷ [] })

abbrev pub member : (offset : ℕ) → Field → Member
member offset field = record { name = field.name; kind = field.kind; offset = offset; first = field.first; count = field.count }

abbrev pub BitMembers : Type 0
BitMembers = members_of (presets ++ (Struct (complete three_fields) ∷ [])) 10
    ≡ member 0 (bits (codes "a") 7 0 3) ∷ member 0 (bits (codes "b") 6 3 5) ∷ member 4 (bits (codes "c") 7 0 4) ∷ []

-- where b begins behind a, c behind b with and without the field of width 0, and a field of 25 bits behind b
abbrev pub FirstBits : Type 0
FirstBits =
    (next_first (bits (codes "a") 7 0 3 ∷ []) false 5 false ≡ 3)
    × (next_first (bits (codes "a") 7 0 3 ∷ bits (codes "b") 6 3 5 ∷ []) false 4 false ≡ 8)
    × (next_first (bits (codes "a") 7 0 3 ∷ bits (codes "b") 6 3 5 ∷ []) false 4 true ≡ 0)
    × (next_first (bits (codes "a") 7 0 3 ∷ bits (codes "b") 6 3 5 ∷ []) false 25 false ≡ 0)

-- union { char c; short h; int i; }
abbrev pub OfUnion : Type 0
OfUnion = layout_of (presets ++ (Union (complete (plain (codes "c") 1 ∷ plain (codes "h") 4 ∷ plain (codes "i") 6 ∷ [])) ∷ [])) 10
    ≡ Some (record { size = 4; align = 4; kinds = Fat ∷ [] })

-- struct { char c; int i; } [3], const: an array and a qualified type have the shape of their element
abbrev pub OfArray : Type 0
OfArray = layout_of (char_and_int ++ (Array 10 3 ∷ Qualified 11 1 ∷ [])) 12 ≡ Some (record { size = 24; align = 4; kinds = Narrow ∷ Fat ∷ [] })

-- struct { struct { char c; int i; } a[2]; }: two words, twice, are two words
abbrev pub LeastPeriod : Type 0
LeastPeriod = layout_of (char_and_int ++ (Array 10 2 ∷ Struct (complete (plain (codes "a") 11 ∷ [])) ∷ [])) 12
    ≡ Some (record { size = 16; align = 4; kinds = Narrow ∷ Fat ∷ [] })

-- struct { char c[3]; } and struct { char c[4]; }
abbrev pub OfChars : Type 0
OfChars =
    (layout_of (presets ++ (Array 1 3 ∷ Struct (complete (plain (codes "c") 10 ∷ [])) ∷ [])) 11 ≡ Some (record { size = 3; align = 1; kinds = Narrow ∷ [] }))
    × (layout_of (presets ++ (Array 1 4 ∷ Struct (complete (plain (codes "c") 10 ∷ [])) ∷ [])) 11 ≡ Some (record { size = 4; align = 1; kinds = Narrow ∷ [] }))

-- struct { char c[4100]; }: above 4,096 bytes it is one fat word
abbrev pub Large : Type 0
Large = layout_of (presets ++ (Array 1 4100 ∷ Struct (complete (plain (codes "c") 10 ∷ [])) ∷ [])) 11
    ≡ Some (record { size = 4100; align = 1; kinds = Fat ∷ [] })
