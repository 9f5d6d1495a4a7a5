-- The code, piece by piece.
use Rattle.std.proofs.Common.{◌≡◌, ℕ, ◌+◌, ◌<◌, ◌≤◌, List, [], ◌∷◌, ◌++◌, length, take, get_or, sym, ap, ◌∙◌, append_assoc}
use Rattle.std.specs.List.{flat_map}
use Rattle.std.proofs.lemmas.List.{flat_map_more, take_more, take_all}
use Rattle.rv_isa.specs.declared.inst.Inst.{Inst}
use Rattle.rv_isa.specs.Spelling.{spelled}
use Rattle.rv_isa.proofs.Spelled.{spelled-append}
use Rattle.plain_image.specs.Code.{prologue, write_byte, epilogue, code_of}

-- the code so far, and what is added
pub spelled_more : (code more : List Inst) (bytes : List ℕ) → bytes ≡ spelled code ++ spelled more → bytes ≡ spelled (code ++ more)
spelled_more code more bytes h = h ∙ sym (spelled-append code more)

pub code_is : (bytes : List ℕ) (status : ℕ) → (prologue ++ flat_map write_byte bytes) ++ epilogue status ≡ code_of bytes status
unfolding code_of
code_is bytes status = append_assoc prologue (flat_map write_byte bytes) (epilogue status)

-- the code of one byte more
pub bytes_more : (bytes : List ℕ) (byte : ℕ) → (prologue ++ flat_map write_byte bytes) ++ write_byte byte ≡ prologue ++ flat_map write_byte (bytes ++ byte ∷ [])
bytes_more bytes byte = flat_map_more write_byte prologue bytes byte

pub code_more : (bytes : List ℕ) (i : ℕ) (before after : List ℕ) → i < length bytes
    → before ≡ spelled (prologue ++ flat_map write_byte (take i bytes))
    → after ≡ before ++ spelled (write_byte (get_or bytes i 0))
    → after ≡ spelled (prologue ++ flat_map write_byte (take (i + 1) bytes))
code_more bytes i before after lt so_far now =
    let byte = get_or bytes i 0 in
    let code = prologue ++ flat_map write_byte (take i bytes) in
    let joined : after ≡ spelled (code ++ write_byte byte) = spelled_more code (write_byte byte) after (now ∙ ap (λ (bs : List ℕ). bs ++ spelled (write_byte byte)) so_far) in
    joined ∙ ap spelled (bytes_more (take i bytes) byte ∙ ap (λ (bs : List ℕ). prologue ++ flat_map write_byte bs) (sym (take_more bytes i 0 lt)))

pub code_done : (bytes : List ℕ) (i status : ℕ) (before after : List ℕ) → length bytes ≤ i
    → before ≡ spelled (prologue ++ flat_map write_byte (take i bytes))
    → after ≡ before ++ spelled (epilogue status)
    → after ≡ spelled (code_of bytes status)
code_done bytes i status before after le so_far now =
    let all : take i bytes ≡ bytes = take_all i bytes le in
    let code = prologue ++ flat_map write_byte bytes in
    let whole : before ≡ spelled code = so_far ∙ ap (λ (bs : List ℕ). spelled (prologue ++ flat_map write_byte bs)) all in
    spelled_more code (epilogue status) after (now ∙ ap (λ (bs : List ℕ). bs ++ spelled (epilogue status)) whole) ∙ ap spelled (code_is bytes status)
