-- The code of a program that writes some bytes and exits.
use Rattle.std.specs.Prelude.{ℕ, List, [], ◌∷◌, ◌++◌, length, pos}
use Rattle.std.specs.List.{flat_map}
use Rattle.fsc_base.specs.declared.image.Image.{Image}
use Rattle.rv_isa.specs.declared.inst.Inst.{Inst}
use Rattle.rv_isa.specs.declared.inst.Inst.TheVariants.{Lui, Addi, Sb, Ecall}
use Rattle.rv_isa.specs.Spelling.{spelled}

-- rd becomes a number from 0 to 2047
abbrev pub load : (rd number : ℕ) → Inst
load rd number = Addi rd 0 (pos number)

-- stream 1, a buffer of one byte at 0x20000, and the environment call that writes
abbrev pub prologue : List Inst
prologue = load 10 1 ∷ Lui 11 (pos 32) ∷ load 12 1 ∷ load 17 64 ∷ []

-- the byte goes into the buffer, and the buffer is written
abbrev pub write_byte : ℕ → List Inst
write_byte byte = load 5 byte ∷ Sb 11 5 (pos 0) ∷ Ecall ∷ []

-- the environment call that exits
abbrev pub epilogue : ℕ → List Inst
epilogue status = load 10 status ∷ load 17 93 ∷ Ecall ∷ []

unfoldable pub code_of : (bytes : List ℕ) (status : ℕ) → List Inst
code_of bytes status = prologue ++ (flat_map write_byte bytes ++ epilogue status)

-- code that may be executed alone, and the buffer
unfoldable pub image_of : (bytes : List ℕ) (status : ℕ) → Image
image_of bytes status =
    let code = spelled (code_of bytes status) in
    record {
      entry = 0x10000;
      segments = record { address = 0x10000; size = length code; flags = 1; bytes = code }
          ∷ record { address = 0x20000; size = 1; flags = 6; bytes = [] }
          ∷ [];
    }
