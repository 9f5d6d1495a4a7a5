-- Code as bytes.
use Rattle.std.specs.Prelude.{ℕ, List, [], ◌∷◌}
use Rattle.std.specs.List.{flat_map}
use Rattle.std.specs.Int.{w32, to_le_bytes}
use Rattle.rv_isa.specs.declared.inst.Inst.{Inst}
use Rattle.rv_isa.specs.Encoding.{encoding, IsValid, NamesRegisters}

-- the word of an instruction in memory, lowest byte first
unfoldable pub word_of : Inst → List ℕ
word_of inst = to_le_bytes w32 (encoding inst)

-- instructions in memory, one behind the other
abbrev pub spelled : List Inst → List ℕ
spelled code = flat_map word_of code

-- each of them has a word
abbrev pub AreSpelled : List Inst → Type 0
AreSpelled [] = Unit {0}
AreSpelled (inst ∷ code) = (IsValid inst × NamesRegisters inst) × AreSpelled code
