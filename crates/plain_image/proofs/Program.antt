-- The whole program, from its first instruction to its exit.
use Rattle.std.proofs.Common.{◌≡◌, ℕ, zero, suc, ◌+◌, ◌*◌, ◌-◌, ◌<◌, ◌≤◌, List, [], ◌∷◌, ◌++◌, length, take, drop, get_or, replicate, refl, sym, ap, subst, ◌∙◌, append_assoc, take-append-drop, arith, rules, lit<, lit≤, inl}
use Rattle.std.specs.Prelude.{pos, slice_set}
use Rattle.std.specs.List.{flat_map}
use Rattle.std.proofs.lemmas.List.{append-nil, length-append, length-take-le}
use Rattle.std.proofs.lemmas.List.Elements.{All-from_recursion}
use Rattle.std.proofs.lemmas.Grind.{flat_map-append}
use Rattle.fsc_base.specs.declared.image.Segment.{Segment}
use Rattle.fsc_base.specs.Image.{IsSound, IsSoundSegment, Apart}
use Rattle.rv_isa.specs.declared.inst.Inst.{Inst}
use Rattle.rv_isa.specs.declared.inst.Inst.TheVariants.{Lui, Sb, Ecall}
use Rattle.rv_isa.specs.Encoding.{IsValid, NamesRegisters}
use Rattle.rv_isa.specs.Spelling.{spelled, AreSpelled}
use Rattle.rv_isa.proofs.Spelled.{length-spelled, drop_one, spelled_all}
use Rattle.rv_run.specs.Machine.{State, Exits, goes, action_of, start_of}
use Rattle.rv_run.specs.ImageRun.{image_run, Leads}
use Rattle.rv_run.proofs.Composing.{leads-none, leads-goes, leads-then}
use Rattle.plain_image.specs.Code.{load, prologue, write_byte, epilogue, code_of, image_of}
use Rattle.plain_image.specs.Writing.{Writes}
use Rattle.plain_image.proofs.Claims.{Leaps, IsWriter, writer_writes}
use Rattle.plain_image.proofs.Execution.{state, IsProgram, loads, points, stores, writes, exits}

-- what the registers hold from the prologue on
abbrev registers : (x5 x10 x17 : ℕ) → List ℕ
registers x5 x10 x17 =
    0 ∷ 0 ∷ 0 ∷ 0 ∷ 0 ∷ x5 ∷ 0 ∷ 0 ∷ 0 ∷ 0 ∷ x10 ∷ 0x20000 ∷ 1 ∷ 0 ∷ 0 ∷ 0 ∷
    0 ∷ x17 ∷ 0 ∷ 0 ∷ 0 ∷ 0 ∷ 0 ∷ 0 ∷ 0 ∷ 0 ∷ 0 ∷ 0 ∷ 0 ∷ 0 ∷ 0 ∷ 0 ∷ []

abbrev pub AreBytes : List ℕ → Type 0
AreBytes bytes = (i : ℕ) → get_or bytes i 0 < 256

-- the machine before the k-th instruction, as many of which ran
abbrev here : (code : List Inst) (k x5 x10 x17 cell : ℕ) → State
here code k x5 x10 x17 cell = state code k (registers x5 x10 x17) cell k

-- one instruction that writes nothing
quietly : (s t : State) → action_of s ≡ goes t → Leaps 1 s t []
quietly s t acts input = leads-goes s t [] input acts

-- one byte
byte_leaps : (code rest : List Inst) (k x5 cell byte : ℕ) → IsProgram code → byte < 256 → drop k code ≡ write_byte byte ++ rest
    → Leaps 3 (here code k x5 1 64 cell) (here code (k + 1 + 1 + 1) byte 1 64 byte) (byte ∷ [])
byte_leaps code rest k x5 cell byte is is_byte stands input =
    let second = drop_one code (Sb 11 5 (pos 0) ∷ Ecall ∷ rest) k (load 5 byte) stands in
    let third = drop_one code (Ecall ∷ rest) (k + 1) (Sb 11 5 (pos 0)) second in
    leads-then (leads-then
    (quietly _ _ (loads code _ k 5 byte (registers x5 1 64) cell k is stands (lit< tt) (lit< tt) (omega arith) refl) input)
    (quietly _ _ (stores code _ (k + 1) (registers byte 1 64) byte cell (k + 1) is second refl refl is_byte) input))
    (leads-goes _ _ (byte ∷ []) input (writes code _ (k + 1 + 1) (registers byte 1 64) byte (k + 1 + 1) is third (record { stream = refl; buffer = refl; size = refl; call = refl })))

-- some bytes, and what stands behind them
record Wrote (code rest : List Inst) (k x5 cell : ℕ) (bytes : List ℕ) : Type 0 where
  x5' : ℕ
  cell' : ℕ
  leaps : Leaps (3 * length bytes) (here code k x5 1 64 cell) (here code (k + 3 * length bytes) x5' 1 64 cell') bytes
  stands : drop (k + 3 * length bytes) code ≡ rest

three_more : (k n : ℕ) → k + 1 + 1 + 1 + 3 * n ≡ k + 3 * suc n
three_more k n = omega arith

bytes_leap : (code rest : List Inst) (bytes : List ℕ) (k x5 cell : ℕ) → IsProgram code → AreBytes bytes → drop k code ≡ flat_map write_byte bytes ++ rest → Wrote code rest k x5 cell bytes
bytes_leap code rest [] k x5 cell is are_bytes stands =
    let same : k ≡ k + 3 * 0 = omega arith in record {
      x5' = x5;
      cell' = cell;
      leaps = λ input. subst (λ (j : ℕ). Leads 0 (here code k x5 1 64 cell) input (here code j x5 1 64 cell) input [] 0) same (leads-none (here code k x5 1 64 cell) input);
      stands = subst (λ (j : ℕ). drop j code ≡ rest) same stands;
    }
bytes_leap code rest (byte ∷ bytes) k x5 cell is are_bytes stands =
    let behind = flat_map write_byte bytes ++ rest in
    let second = drop_one code (Sb 11 5 (pos 0) ∷ Ecall ∷ behind) k (load 5 byte) stands in
    let third = drop_one code (Ecall ∷ behind) (k + 1) (Sb 11 5 (pos 0)) second in
    let fourth = drop_one code behind (k + 1 + 1) Ecall third in
    let then = bytes_leap code rest bytes (k + 1 + 1 + 1) byte byte is (λ i. are_bytes (suc i)) fourth in
    let count : 3 + 3 * length bytes ≡ 3 * suc (length bytes) = omega arith in
    let place = three_more k (length bytes) in record {
      x5' = then.x5';
      cell' = then.cell';
      leaps = λ input.
          let both = leads-then (byte_leaps code behind k x5 cell byte is (are_bytes 0) stands input) (then.leaps input) in
          let counted = subst (λ (n : ℕ). Leads n (here code k x5 1 64 cell) input (here code (k + 1 + 1 + 1 + 3 * length bytes) then.x5' 1 64 then.cell') input (byte ∷ bytes) 0) count both in
          subst (λ (j : ℕ). Leads (3 * suc (length bytes)) (here code k x5 1 64 cell) input (here code j then.x5' 1 64 then.cell') input (byte ∷ bytes) 0) place counted;
      stands = subst (λ (j : ℕ). drop j code ≡ rest) place then.stands;
    }

abbrev zeros : List ℕ
zeros = replicate 32 0

-- what stands before the first byte
prologue_leaps : (code rest : List Inst) → IsProgram code → code ≡ prologue ++ rest → Leaps 4 (state code 0 zeros 0 0) (here code 4 0 1 64 0) []
prologue_leaps code rest is stands input =
    let second = drop_one code (Lui 11 (pos 32) ∷ load 12 1 ∷ load 17 64 ∷ rest) 0 (load 10 1) stands in
    let third = drop_one code (load 12 1 ∷ load 17 64 ∷ rest) 1 (Lui 11 (pos 32)) second in
    let fourth = drop_one code (load 17 64 ∷ rest) 2 (load 12 1) third in
    leads-then (leads-then (leads-then
    (quietly _ _ (loads code _ 0 10 1 zeros 0 0 is stands (lit< tt) (lit< tt) (lit< tt) refl) input)
    (quietly _ _ (points code _ 1 (slice_set zeros 10 1) 0 1 is second) input))
    (quietly _ _ (loads code _ 2 12 1 (slice_set (slice_set zeros 10 1) 11 0x20000) 0 2 is third (lit< tt) (lit< tt) (lit< tt) refl) input))
    (quietly _ _ (loads code _ 3 17 64 (slice_set (slice_set (slice_set zeros 10 1) 11 0x20000) 12 1) 0 3 is fourth (lit< tt) (lit< tt) (lit< tt) refl) input)

epilogue_leaps : (code : List Inst) (status k x5 cell : ℕ) → IsProgram code → status < 256 → drop k code ≡ epilogue status
    → Leaps 2 (here code k x5 1 64 cell) (here code (k + 1 + 1) x5 status 93 cell) [] × (action_of (here code (k + 1 + 1) x5 status 93 cell) ≡ Exits status)
epilogue_leaps code status k x5 cell is fits stands =
    let second = drop_one code (load 17 93 ∷ Ecall ∷ []) k (load 10 status) stands in
    let third = drop_one code (Ecall ∷ []) (k + 1) (load 17 93) second in (
      λ input. leads-then
          (quietly _ _ (loads code _ k 10 status (registers x5 1 64) cell k is stands (lit< tt) (lit< tt) (omega arith) refl) input)
          (quietly _ _ (loads code _ (k + 1) 17 93 (registers x5 status 64) cell (k + 1) is second (lit< tt) (lit< tt) (lit< tt) refl) input),
      exits code _ (k + 1 + 1) (registers x5 status 93) status cell (k + 1 + 1) is third refl refl fits,
    )

-- the first of the bytes
front_leaps : (code rest : List Inst) (bytes : List ℕ) → IsProgram code → AreBytes bytes → code ≡ prologue ++ (flat_map write_byte bytes ++ rest)
    → (t : State) × Leaps (4 + 3 * length bytes) (state code 0 zeros 0 0) t bytes
front_leaps code rest bytes is are_bytes whole =
    let behind = flat_map write_byte bytes ++ rest in
    let begun = prologue_leaps code behind is whole in
    let stands : drop 4 code ≡ behind = ap (drop 4) whole in
    let then = bytes_leap code rest bytes 4 0 0 is are_bytes stands in
    (here code (4 + 3 * length bytes) then.x5' 1 64 then.cell', λ input. leads-then (begun input) (then.leaps input))

split_bytes : (bytes : List ℕ) (j : ℕ) → flat_map write_byte bytes ≡ flat_map write_byte (take j bytes) ++ flat_map write_byte (drop j bytes)
split_bytes bytes j = ap (flat_map write_byte) (sym (take-append-drop j bytes)) ∙ flat_map-append write_byte (take j bytes) (drop j bytes)

taken_bytes : (bytes : List ℕ) (j : ℕ) → AreBytes bytes → AreBytes (take j bytes)
taken_bytes bytes zero h i = omega arith
taken_bytes [] (suc j) h i = omega arith
taken_bytes (byte ∷ bytes) (suc j) h zero = h 0
taken_bytes (byte ∷ bytes) (suc j) h (suc i) = taken_bytes bytes j (λ k. h (suc k)) i

program_writes : (code : List Inst) (bytes : List ℕ) (status : ℕ) → IsProgram code → AreBytes bytes → status < 256
    → code ≡ prologue ++ (flat_map write_byte bytes ++ epilogue status) → IsWriter bytes status (state code 0 zeros 0 0)
program_writes code bytes status is are_bytes fits whole =
    let behind = flat_map write_byte bytes ++ epilogue status in
    let stands : drop 4 code ≡ behind = ap (drop 4) whole in
    let then = bytes_leap code (epilogue status) bytes 4 0 0 is are_bytes stands in
    let end = epilogue_leaps code status (4 + 3 * length bytes) then.x5' then.cell' is fits then.stands in
    record {
      last = here code (4 + 3 * length bytes + 1 + 1) then.x5' status 93 then.cell';
      total = 4 + 3 * length bytes + 2;
      short = omega arith;
      leads = λ input. subst (λ (l : List ℕ). Leads (4 + 3 * length bytes + 2) (state code 0 zeros 0 0) input (here code (4 + 3 * length bytes + 1 + 1) then.x5' status 93 then.cell') input l 0) (append-nil bytes)
          (leads-then (leads-then (prologue_leaps code behind is whole input) (then.leaps input)) (end.0 input));
      exits = end.1;
      in_time = λ j within.
          let front = take j bytes in
          let rest = flat_map write_byte (drop j bytes) ++ epilogue status in
          let apart : code ≡ prologue ++ (flat_map write_byte front ++ rest) =
          whole ∙ ap (λ (l : List Inst). prologue ++ (l ++ epilogue status)) (split_bytes bytes j)
          ∙ ap (λ (l : List Inst). prologue ++ l) (append_assoc (flat_map write_byte front) (flat_map write_byte (drop j bytes)) (epilogue status)) in
          let done = front_leaps code rest front is (taken_bytes bytes j are_bytes) apart in
          (4 + 3 * length front, omega (arith, length-take-le j bytes within), done);
    }

load_spells : (rd number : ℕ) → rd < 32 → number < 2048 → IsValid (load rd number) × NamesRegisters (load rd number)
load_spells rd number named fits = (search rules, (named, lit< tt))

bytes_spell : (bytes : List ℕ) → AreBytes bytes → AreSpelled (flat_map write_byte bytes)
bytes_spell [] h = tt
bytes_spell (byte ∷ bytes) h =
    (load_spells 5 byte (lit< tt) (omega (arith, h 0)), ((search rules, (lit< tt, lit< tt)), ((tt, tt), bytes_spell bytes (λ i. h (suc i)))))

code_spells : (bytes : List ℕ) (status : ℕ) → AreBytes bytes → status < 256 → AreSpelled (code_of bytes status)
unfolding code_of
code_spells bytes status h fits = (
  load_spells 10 1 (lit< tt) (lit< tt),
  (
    (search rules, lit< tt),
    (
      load_spells 12 1 (lit< tt) (lit< tt),
      (
        load_spells 17 64 (lit< tt) (lit< tt),
        spelled_all (flat_map write_byte bytes) (epilogue status) (bytes_spell bytes h)
            (load_spells 10 status (lit< tt) (omega arith), (load_spells 17 93 (lit< tt) (lit< tt), ((tt, tt), tt))),
      ),
    ),
  ),
)

length-write_bytes : (bytes : List ℕ) → length (flat_map write_byte bytes) ≡ 3 * length bytes
length-write_bytes [] = refl
length-write_bytes (byte ∷ bytes) = let more = length-write_bytes bytes in omega arith

length-code_of : (bytes : List ℕ) (status : ℕ) → length (code_of bytes status) ≡ 3 * length bytes + 7
unfolding code_of
length-code_of bytes status =
    omega (arith, length-append (flat_map write_byte bytes) (epilogue status), length-write_bytes bytes)

-- how many bytes of memory the code takes
pub length-spelled_code : (bytes : List ℕ) (status : ℕ) → length (spelled (code_of bytes status)) ≡ 12 * length bytes + 28
length-spelled_code bytes status = omega (arith, length-spelled (code_of bytes status), length-code_of bytes status)

code_is_whole : (bytes : List ℕ) (status : ℕ) → code_of bytes status ≡ prologue ++ (flat_map write_byte bytes ++ epilogue status)
unfolding code_of
code_is_whole bytes status = refl

starts : (bytes : List ℕ) (status : ℕ) → start_of (image_of bytes status) ≡ state (code_of bytes status) 0 zeros 0 0
unfolding image_of
starts bytes status =
    let n = length (spelled (code_of bytes status)) in
    let none : n - n ≡ 0 = omega arith in
    rw (none, append-nil) refl

-- the image runs as it should, at every bound
pub image_writes : (bytes : List ℕ) (status : ℕ) → length bytes ≤ 1000 → AreBytes bytes → status < 256
    → (n : ℕ) (input : List ℕ) → Writes bytes status n input (image_run n (start_of (image_of bytes status)) input)
image_writes bytes status few are_bytes fits n input =
    let code = code_of bytes status in
    let is : IsProgram code = record { small = omega (arith, length-code_of bytes status); spells = code_spells bytes status are_bytes fits } in
    let writer = program_writes code bytes status is are_bytes fits (code_is_whole bytes status) in
    rw (starts bytes status) (writer_writes bytes status (state code 0 zeros 0 0) writer n input)

pub image_sound : (bytes : List ℕ) (status : ℕ) → length bytes ≤ 1000 → IsSound (image_of bytes status)
unfolding image_of
image_sound bytes status few =
    let size = length-spelled_code bytes status in
    let code : Segment = record { address = 0x10000; size = length (spelled (code_of bytes status)); flags = 1; bytes = spelled (code_of bytes status) } in
    let buffer : Segment = record { address = 0x20000; size = 1; flags = 6; bytes = [] } in
    let sound_code : IsSoundSegment code = record { not_empty = omega arith; roomy = omega arith; usable = (lit≤ tt, lit≤ tt); in_reach = omega arith } in
    let sound_buffer : IsSoundSegment buffer = record { not_empty = lit< tt; roomy = lit≤ tt; usable = (lit≤ tt, lit≤ tt); in_reach = lit≤ tt } in
    record {
      some = lit< tt;
      few = lit≤ tt;
      each = All-from_recursion IsSoundSegment (code ∷ buffer ∷ []) (sound_code, (sound_buffer, tt));
      apart = (All-from_recursion (Apart code) (buffer ∷ []) (inl (omega arith), tt), (λ k d h. absurd (omega arith), tt));
      bounded = omega arith;
    }
