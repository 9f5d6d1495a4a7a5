-- The texts of types, as they are told where two are not compatible.
use Rattle.std.specs.Prelude.{ℕ, zero, suc, ◌==◌, ◌%◌, nat_le, if◌then◌else◌, Bool, true, false, List, [], ◌∷◌, ◌++◌, length, take, map, codes}
use Rattle.std.specs.Fmt.{decimal}
use Rattle.c_types.specs.declared.node.Basic.{Basic}
use Rattle.c_types.specs.declared.node.Basic.TheVariants as basic
use Rattle.c_types.specs.declared.node.TypeNode.{TypeNode}
use Rattle.c_types.specs.declared.node.TypeNode.TheVariants.{Void, Basic as Arithmetic, Pointer, Array, Function, Struct, Union, Enum, Qualified}
use Rattle.c_types.specs.Nodes.{node_at}

-- the shortest names of C90
abbrev pub name_of : Basic → List ℕ
name_of basic.Char = codes "char"
name_of basic.SignedChar = codes "signed char"
name_of basic.UnsignedChar = codes "unsigned char"
name_of basic.Short = codes "short"
name_of basic.UnsignedShort = codes "unsigned short"
name_of basic.Int = codes "int"
name_of basic.Unsigned = codes "unsigned"
name_of basic.Long = codes "long"
name_of basic.UnsignedLong = codes "unsigned long"

-- a tag, or ? where there is none
abbrev pub tag_text : List ℕ → List ℕ
tag_text [] = codes "?"
tag_text (byte ∷ tag) = byte ∷ tag

-- an array's number of elements, where it is known
abbrev pub count_text : (count : ℕ) → List ℕ
count_text count = if count == 0 then codes "array of " else codes "array " ++ (decimal count ++ codes " of ")

-- texts with a comma and a space between each two
abbrev pub listed : List (List ℕ) → List ℕ
listed [] = []
listed (text ∷ []) = text
listed (text ∷ (next ∷ texts)) = text ++ (codes ", " ++ listed (next ∷ texts))

-- known parameters: (void) for none, and (...) for none before the dots
abbrev pub known_text : List (List ℕ) → (is_variadic : Bool) → List ℕ
known_text [] false = codes "(void)"
known_text [] true = codes "(...)"
known_text (text ∷ texts) false = codes "(" ++ (listed (text ∷ texts) ++ codes ")")
known_text (text ∷ texts) true = codes "(" ++ (listed (text ∷ texts) ++ codes ", ...)")

-- () for unknown ones
abbrev pub parameters_text : (is_known : Bool) → List (List ℕ) → (is_variadic : Bool) → List ℕ
parameters_text true texts is_variadic = known_text texts is_variadic
parameters_text false texts is_variadic = codes "()"

-- const and volatile, in this order
abbrev pub bits_text : (bits : ℕ) → List ℕ
bits_text bits = (if bits % 2 == 1 then codes "const " else []) ++ (if nat_le 2 bits then codes "volatile " else [])

-- a type whose parts have these texts
abbrev pub text_in : (text : ℕ → List ℕ) → TypeNode → List ℕ
text_in text Void = codes "void"
text_in text (Arithmetic basic) = name_of basic
text_in text (Pointer to) = codes "pointer to " ++ text to
text_in text (Array of count) = count_text count ++ text of
text_in text (Function returns is_known parameters is_variadic) =
    codes "function " ++ (parameters_text is_known (map text parameters) is_variadic ++ (codes " returning " ++ text returns))
text_in text (Struct one) = codes "struct " ++ tag_text one.tag
text_in text (Union one) = codes "union " ++ tag_text one.tag
text_in text (Enum tag) = codes "enum " ++ tag_text tag
text_in text (Qualified of bits) = bits_text bits ++ text of

-- So many nodes deep. Each node but structs and unions names only those below itself, so no text needs more nodes than there are.
abbrev pub text_by : (deep : ℕ) → List TypeNode → (id : ℕ) → List ℕ
text_by zero nodes id = []
text_by (suc deep) nodes id = text_in (text_by deep nodes) (node_at nodes id)

-- the text of a type, cut to its first 1,000 bytes
unfoldable pub text_of : List TypeNode → (id : ℕ) → List ℕ
text_of nodes id = take 1000 (text_by (length nodes) nodes id)
