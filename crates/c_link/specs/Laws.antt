-- Linking of small programs.
use Rattle.std.specs.Prelude.{◌≡◌, ℕ, List, [], ◌∷◌, replicate, codes, Bool, true, false}
use Rattle.fsc_base.specs.declared.rule.Rule.TheVariants.{M02, M03, M04, M05}
use Rattle.fsc_base.specs.declared.word.Width.{Width}
use Rattle.fsc_base.specs.declared.word.Width.TheVariants.{One, Four}
use Rattle.c_ops.specs.declared.linkage.Linkage.TheVariants.{External}
use Rattle.c_ops.specs.declared.linkage.Definition.{Definition}
use Rattle.c_ops.specs.declared.linkage.Definition.TheVariants.{Missing, Function, Object}
use Rattle.c_memory.specs.declared.kind.BlockKind.{BlockKind}
use Rattle.c_memory.specs.declared.kind.BlockKind.TheVariants as maker
use Rattle.c_memory.specs.Blocks.{Block}
use Rattle.c_link.specs.declared.fault.LinkFault.{LinkFault}
use Rattle.c_link.specs.Views.{LinkSymbol, LinkValue, Number, Symbol, LinkPiece, LinkObject, LinkView}
use Rattle.c_link.specs.Library.{added_units}
use Rattle.c_link.specs.Linked.{program_of}
use Rattle.c_link.specs.Broken.{BrokenProgram, fault}

-- ---- views

abbrev pub symbol_of : (name : List ℕ) → (is_used : Bool) → Definition → LinkSymbol
symbol_of name is_used definition = record { name = name; linkage = External; kind = 0; is_used = is_used; definition = definition }

abbrev pub unit_of : List LinkSymbol → (functions : ℕ) → List LinkObject → LinkView
unit_of symbols functions objects = record { symbols = symbols; functions = functions; objects = objects; types = []; nodes = 0; records = 0 }

abbrev pub piece_of : (offset : ℕ) → Width → LinkValue → LinkPiece
piece_of offset width value = record { offset = offset; width = width; value = value }

-- ---- two units

-- int g(void);extern int v;int *p=&v;int main(void){return g();}
abbrev pub caller : LinkView
caller = unit_of
    (symbol_of (codes "g") true Missing ∷ symbol_of (codes "v") true Missing ∷ symbol_of (codes "p") false (Object 0)
    ∷ symbol_of (codes "main") false (Function 0) ∷ [])
    1
    (record { size = 4; is_sealed = false; pieces = piece_of 0 Four (Symbol 1 0) ∷ [] } ∷ [])

-- int v=7;int g(void){return v+"hi"[0];}, the string an object without a name
abbrev pub called : LinkView
called = unit_of
    (symbol_of (codes "v") true (Object 0) ∷ symbol_of (codes "g") false (Function 0) ∷ [])
    1
    (record { size = 4; is_sealed = false; pieces = piece_of 0 Four (Number 7) ∷ [] }
    ∷ record { size = 3; is_sealed = true; pieces = piece_of 0 One (Number 104) ∷ piece_of 1 One (Number 105) ∷ piece_of 2 One (Number 0) ∷ [] } ∷ [])

abbrev pub block_of : (size base : ℕ) → BlockKind → (is_sealed : Bool) → (bytes bases : List ℕ) → Block
block_of size base kind is_sealed bytes bases =
    record { size = size; base = base; kind = kind; is_live = true; is_sealed = is_sealed; bytes = bytes; bases = bases }

-- Blocks 1 to 5 are main, p, g, v and the string. At the start p holds the address of v.
abbrev pub LinksTwoUnits : Type 0
LinksTwoUnits = program_of (caller ∷ called ∷ []) ≡ record {
  functions = (1 ∷ []) ∷ (3 ∷ []) ∷ [];
  symbols = (3 ∷ 4 ∷ 2 ∷ 1 ∷ []) ∷ (4 ∷ 3 ∷ []) ∷ [];
  objects = (2 ∷ []) ∷ (4 ∷ 5 ∷ []) ∷ [];
  heap = record {
    blocks = block_of 0 65536 maker.Function false [] []
        ∷ block_of 4 65552 maker.Static false (0x40 ∷ 0 ∷ 1 ∷ 0 ∷ []) (4 ∷ [])
        ∷ block_of 0 65584 maker.Function false [] []
        ∷ block_of 4 65600 maker.Static false (7 ∷ 0 ∷ 0 ∷ 0 ∷ []) (0 ∷ [])
        ∷ block_of 3 65632 maker.Static true (104 ∷ 105 ∷ 0 ∷ []) (0 ∷ [])
        ∷ [];
    greatest = 5 ∷ replicate 29 0;
  };
  entry = 1;
}

-- ---- the library

-- a unit that defines one function
abbrev pub unit_with : (name : List ℕ) → LinkView
unit_with name = unit_of (symbol_of name false (Function 0) ∷ []) 1 []

-- int exit(int s){return s;}int main(void){return exit(putchar('x'));}
abbrev pub user : LinkView
user = unit_of
    (symbol_of (codes "exit") true (Function 0) ∷ symbol_of (codes "main") false (Function 1) ∷ symbol_of (codes "putchar") true Missing ∷ [])
    2 []

-- of three units of the library only that of putchar is added: getchar is not used, and exit is the user's own
abbrev pub AddsWanted : Type 0
AddsWanted =
    added_units (user ∷ []) (unit_with (codes "putchar") ∷ unit_with (codes "getchar") ∷ unit_with (codes "exit") ∷ [])
    ≡ unit_with (codes "putchar") ∷ []

-- ---- faults

-- a unit without anything has no function main
abbrev pub BreaksEmpty : Type 0
BreaksEmpty = BrokenProgram (unit_of [] 0 [] ∷ []) (fault M04 (codes "main") [] [])

-- int f(void);int main(void){return f();}
abbrev pub BreaksUndefined : Type 0
BreaksUndefined =
    BrokenProgram (unit_of (symbol_of (codes "f") true Missing ∷ symbol_of (codes "main") false (Function 0) ∷ []) 1 [] ∷ []) (fault M03 (codes "f") [] [])

-- int f(void){return 1;} in two units: the numbers of the units are told
abbrev pub BreaksTwice : Type 0
BreaksTwice = BrokenProgram (unit_with (codes "f") ∷ unit_with (codes "f") ∷ []) (fault M02 (codes "f") (codes "0") (codes "1"))

-- one node too many
abbrev pub BreaksNodes : Type 0
BreaksNodes = BrokenProgram (record (unit_with (codes "main")) { nodes = 262145 } ∷ []) (fault M05 (codes "main") (codes "262145") (codes "262144"))

-- the program of two units breaks none of these rules
abbrev pub KeepsRules : Type 0
KeepsRules = (fault : LinkFault) → BrokenProgram (caller ∷ called ∷ []) fault → ⊥
