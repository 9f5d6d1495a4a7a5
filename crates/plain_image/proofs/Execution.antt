-- What each instruction of the code does, where the code and the buffer are all of memory.
use Rattle.std.proofs.Common.{◌≡◌, ℕ, ◌+◌, ◌*◌, ◌%◌, ◌<◌, ◌≤◌, ◌^◌, true, false, eqb, leb, List, [], ◌∷◌, length, drop, Some, Ok, inl, refl, ap, ◌∙◌, arith}
use Rattle.std.proofs.lemmas.Int.{ints}
use Rattle.std.proofs.lemmas.List.{take_all}
use Rattle.std.proofs.lemmas.List.Elements.{All-from_recursion, All-nil}
use Rattle.std.specs.Prelude.{pos, slice_index, slice_set}
use Rattle.std.specs.Int.{w32, cast_unsigned}
use Rattle.std.proofs.lemmas.Bool.{le-leb, ne_eqb}
use Rattle.rv_isa.specs.declared.inst.Inst.{Inst}
use Rattle.rv_isa.specs.declared.inst.Inst.TheVariants.{Lui, Sb, Ecall}
use Rattle.rv_isa.specs.Spelling.{spelled, AreSpelled}
use Rattle.rv_isa.proofs.Spelled.{length-spelled, within_code}
use Rattle.guest_mem.specs.Regions.{Region}
use Rattle.guest_mem.specs.Layout.{Apart}
use Rattle.guest_mem.specs.declared.right.Right.TheVariants.{Execute, Read}
use Rattle.guest_mem.specs.Guest.{contains, bytes_at, with_bytes, stored}
use Rattle.guest_mem.proofs.Accesses.{stored-from}
use Rattle.rv_run.specs.CodeAt.{CodeAt}
use Rattle.rv_run.specs.Machine.{State, Goes, Exits, goes, row, action_of}
use Rattle.rv_run.proofs.Fetching.{acts, code-stands, code-spelled}
use Rattle.plain_image.specs.Code.{load}

abbrev pub code_region : List Inst → Region
code_region code = record { address = 0x10000; flags = 1; bytes = spelled code }

abbrev pub buffer_region : ℕ → Region
buffer_region cell = record { address = 0x20000; flags = 6; bytes = cell ∷ [] }

-- the machine before the k-th instruction
abbrev pub state : (code : List Inst) (k : ℕ) (registers : List ℕ) (cell count : ℕ) → State
state code k registers cell count = record {
  registers = registers;
  pc = 0x10000 + 4 * k;
  memory = code_region code ∷ buffer_region cell ∷ [];
  marks = 0;
  count = count;
}

-- code of instructions that have words, which ends before the buffer
pub record IsProgram (code : List Inst) : Type 0 where
  pub small : length code ≤ 4000
  pub spells : AreSpelled code

-- the k-th instruction is the next
abbrev pub Stands : List Inst → ℕ → Inst → List Inst → Type 0
Stands code k inst rest = drop k code ≡ inst ∷ rest

code_bytes : (code : List Inst) (cell : ℕ) → bytes_at (code_region code ∷ buffer_region cell ∷ []) Execute 0x10000 (4 * length code) ≡ Some (spelled code)
unfolding bytes_at
code_bytes code cell =
    let long = length-spelled code in
    let held : leb (0x10000 + 4 * length code) (0x10000 + length (spelled code)) ≡ true = le-leb _ _ (omega arith) in
    let covered : contains (code_region code) Execute 0x10000 (4 * length code) ≡ true = rw held refl in
    rw covered (ap (λ (bytes : List ℕ). Some bytes) (take_all (4 * length code) (spelled code) (omega arith)))

-- the code stands in memory, whatever the buffer holds
pub code_at : (code : List Inst) (cell : ℕ) → IsProgram code → CodeAt (code_region code ∷ buffer_region cell ∷ []) 0x10000 code
code_at code cell is =
    let long = length-spelled code in
    let small = is.small in
    let apart : Apart (code_region code) (buffer_region cell) = inl (omega arith) in
    let memory = code_region code ∷ buffer_region cell ∷ [] in
    code-spelled memory 0x10000 code refl
    (All-from_recursion (Apart (code_region code)) (buffer_region cell ∷ []) (apart, tt), (All-nil (Apart (buffer_region cell)), tt))
    is.spells (code_bytes code cell)

pub acts_here : (code rest : List Inst) (k : ℕ) (inst : Inst) (registers : List ℕ) (cell count : ℕ) → IsProgram code → Stands code k inst rest
    → action_of (state code k registers cell count) ≡ row inst (state code k registers cell count)
acts_here code rest k inst registers cell count is stands =
    acts (state code k registers cell count) inst (code-stands (code_region code ∷ buffer_region cell ∷ []) 0x10000 code rest k inst (code_at code cell is) stands)

-- the pc of the next instruction
following : (k : ℕ) → k < 2 ^ 20 → (0x10000 + 4 * k + 4) % 2 ^ 32 ≡ 0x10000 + 4 * (k + 1)
following k small = omega arith

load_row : (code : List Inst) (k rd number : ℕ) (registers : List ℕ) (cell count : ℕ) → eqb rd 0 ≡ false
    → (slice_index registers 0 + cast_unsigned w32 (pos number)) % 2 ^ 32 ≡ number → k < 2 ^ 20
    → row (load rd number) (state code k registers cell count) ≡ goes (state code (k + 1) (slice_set registers rd number) cell (count + 1))
unfolding row
load_row code k rd number registers cell count named sum small = rw (named, sum, following k small) refl

-- a register is given a number
pub loads : (code rest : List Inst) (k rd number : ℕ) (registers : List ℕ) (cell count : ℕ) → IsProgram code → Stands code k (load rd number) rest
    → 0 < rd → rd < 32 → number < 2048 → slice_index registers 0 ≡ 0
    → action_of (state code k registers cell count) ≡ goes (state code (k + 1) (slice_set registers rd number) cell (count + 1))
loads code rest k rd number registers cell count is_program stands positive below fits zero_is =
    let inside = within_code code rest k (load rd number) stands in
    let s = state code k registers cell count in
    let sum : (slice_index registers 0 + cast_unsigned w32 (pos number)) % 2 ^ 32 ≡ number = rw zero_is (omega (arith, ints)) in
    let named : eqb rd 0 ≡ false = ne_eqb rd 0 (λ (e : rd ≡ 0). omega arith) in
    acts_here code rest k (load rd number) registers cell count is_program stands ∙ load_row code k rd number registers cell count named sum (omega arith)

-- x11 is given the address of the buffer
points_row : (code : List Inst) (k : ℕ) (registers : List ℕ) (cell count : ℕ) → k < 2 ^ 20
    → row (Lui 11 (pos 32)) (state code k registers cell count) ≡ goes (state code (k + 1) (slice_set registers 11 0x20000) cell (count + 1))
unfolding row
points_row code k registers cell count small = rw (following k small) refl

pub points : (code rest : List Inst) (k : ℕ) (registers : List ℕ) (cell count : ℕ) → IsProgram code → Stands code k (Lui 11 (pos 32)) rest
    → action_of (state code k registers cell count) ≡ goes (state code (k + 1) (slice_set registers 11 0x20000) cell (count + 1))
points code rest k registers cell count is_program stands =
    let inside = within_code code rest k (Lui 11 (pos 32)) stands in
    acts_here code rest k (Lui 11 (pos 32)) registers cell count is_program stands ∙ points_row code k registers cell count (omega arith)

-- the buffer is given the byte in x5
buffered : (code : List Inst) (cell byte : ℕ) → byte < 2 ^ 8 → stored 1 (code_region code ∷ buffer_region cell ∷ []) 0x20000 byte ≡ Ok (code_region code ∷ buffer_region byte ∷ [])
unfolding with_bytes
buffered code cell byte fits =
    let low : byte % 256 ≡ byte = omega arith in
    stored-from 1 (code_region code ∷ buffer_region cell ∷ []) 0x20000 byte _ refl (rw low refl)

stores_row : (code : List Inst) (k : ℕ) (registers : List ℕ) (byte cell count : ℕ) → k < 2 ^ 20
    → slice_index registers 11 ≡ 0x20000 → slice_index registers 5 ≡ byte → byte < 2 ^ 8
    → row (Sb 11 5 (pos 0)) (state code k registers cell count) ≡ goes (state code (k + 1) registers byte (count + 1))
unfolding row
stores_row code k registers byte cell count small at holds fits =
    let low : byte % 2 ^ 8 ≡ byte = omega arith in
    rw (at, holds, low, buffered code cell byte fits, following k small) refl

pub stores : (code rest : List Inst) (k : ℕ) (registers : List ℕ) (byte cell count : ℕ) → IsProgram code → Stands code k (Sb 11 5 (pos 0)) rest
    → slice_index registers 11 ≡ 0x20000 → slice_index registers 5 ≡ byte → byte < 2 ^ 8
    → action_of (state code k registers cell count) ≡ goes (state code (k + 1) registers byte (count + 1))
stores code rest k registers byte cell count is_program stands at holds fits =
    let inside = within_code code rest k (Sb 11 5 (pos 0)) stands in
    acts_here code rest k (Sb 11 5 (pos 0)) registers cell count is_program stands
    ∙ stores_row code k registers byte cell count (omega arith) at holds fits

-- the registers of a call that writes the buffer
pub record CallsWrite (registers : List ℕ) : Type 0 where
  pub stream : slice_index registers 10 ≡ 1
  pub buffer : slice_index registers 11 ≡ 0x20000
  pub size : slice_index registers 12 ≡ 1
  pub call : slice_index registers 17 ≡ 64

buffer_is : (code : List Inst) (cell : ℕ) → bytes_at (code_region code ∷ buffer_region cell ∷ []) Read 0x20000 1 ≡ Some (cell ∷ [])
unfolding bytes_at
buffer_is code cell = refl

writes_row : (code : List Inst) (k : ℕ) (registers : List ℕ) (cell count : ℕ) → k < 2 ^ 20 → CallsWrite registers
    → row Ecall (state code k registers cell count) ≡ Goes (cell ∷ []) (state code (k + 1) (slice_set registers 10 1) cell (count + 1))
unfolding row
writes_row code k registers cell count small calls =
    rw (calls.call, calls.stream, calls.size, calls.buffer, buffer_is code cell, calls.size, following k small) refl

pub writes : (code rest : List Inst) (k : ℕ) (registers : List ℕ) (cell count : ℕ) → IsProgram code → Stands code k Ecall rest → CallsWrite registers
    → action_of (state code k registers cell count) ≡ Goes (cell ∷ []) (state code (k + 1) (slice_set registers 10 1) cell (count + 1))
writes code rest k registers cell count is_program stands calls =
    let inside = within_code code rest k Ecall stands in
    acts_here code rest k Ecall registers cell count is_program stands ∙ writes_row code k registers cell count (omega arith) calls

exits_row : (code : List Inst) (k : ℕ) (registers : List ℕ) (status cell count : ℕ) → slice_index registers 17 ≡ 93 → slice_index registers 10 ≡ status → status < 2 ^ 8
    → row Ecall (state code k registers cell count) ≡ Exits status
unfolding row
exits_row code k registers status cell count call is fits =
    let low : status % 2 ^ 8 ≡ status = omega arith in
    rw (call, is, low) refl

pub exits : (code rest : List Inst) (k : ℕ) (registers : List ℕ) (status cell count : ℕ) → IsProgram code → Stands code k Ecall rest
    → slice_index registers 17 ≡ 93 → slice_index registers 10 ≡ status → status < 2 ^ 8
    → action_of (state code k registers cell count) ≡ Exits status
exits code rest k registers status cell count is_program stands call is fits =
    acts_here code rest k Ecall registers cell count is_program stands ∙ exits_row code k registers status cell count call is fits
