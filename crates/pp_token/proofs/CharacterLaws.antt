-- Phases 1 and 2 character by character.
use Rattle.std.proofs.Common.{◌≡◌, ℕ, zero, suc, ◌+◌, Bool, true, false, ◌&&◌, ◌==◌, cond, List, [], ◌∷◌, ◌++◌, drop, Option, Some, None, refl, ap, ◌∙◌, append_assoc}
use Rattle.std.proofs.lemmas.Bool.{eqb-true}
use Rattle.std.proofs.lemmas.List.{map-append}
use Rattle.pp_token.specs.Characters.{Character, first, phase_1, phase_2, bytes_of, lines_of, line_after}
use Rattle.pp_token.specs.CharacterLoop.{first_at, behind_line_end, splice_at, left, ends, all_bytes, all_lines}

abbrev byte_in : Option (ℕ × List ℕ) → ℕ
byte_in None = 0
byte_in (Some it) = it.0

abbrev rest_in : Option (ℕ × List ℕ) → List ℕ
rest_in None = []
rest_in (Some it) = it.1

abbrev found : ℕ → List ℕ → Option (ℕ × List ℕ)
found c bs = Some (c, bs)

same_byte : (c d : ℕ) (bs ds : List ℕ) → found c bs ≡ found d ds → c ≡ d
same_byte c d bs ds e = ap byte_in e

same_rest : (c d : ℕ) (bs ds : List ℕ) → found c bs ≡ found d ds → bs ≡ ds
same_rest c d bs ds e = ap rest_in e

phase_1_passed : (k line : ℕ) (bs : List ℕ) → phase_1 k line bs ≡ phase_1 0 line (drop k bs)
phase_1_passed zero line bs = refl
phase_1_passed (suc k) line [] = refl
phase_1_passed (suc k) line (b ∷ bs) = phase_1_passed k line bs

abbrev at : ℕ → ℕ → Character
at c line = record { byte = c; line = line }

-- phase 1 begins with the first character
phase_1_first : (line : ℕ) (bytes behind : List ℕ) (c : ℕ) → first_at bytes ≡ Some (c, behind) → phase_1 0 line bytes ≡ at c line ∷ phase_1 0 (line_after c line) behind
unfolding first_at
phase_1_first line [] behind c e = cc
phase_1_first line (b ∷ bs) behind c e =
    let e0 : (first b bs).0 ≡ c = same_byte (first b bs).0 c (drop (first b bs).1 bs) behind e in
    let e1 : drop (first b bs).1 bs ≡ behind = same_rest (first b bs).0 c (drop (first b bs).1 bs) behind e in
    rw (phase_1_passed (first b bs).1 (line_after (first b bs).0 line) bs, e1, e0) refl

no_first : (line : ℕ) (bytes : List ℕ) → first_at bytes ≡ None → phase_1 0 line bytes ≡ []
unfolding first_at
no_first line [] e = refl
no_first line (b ∷ bs) e = cc

-- phase 2 keeps what no line end follows
phase_2_kept : (x y : Character) (rest : List Character) → (x.byte == 92 && y.byte == 10) ≡ false → phase_2 (x ∷ y ∷ rest) ≡ x ∷ phase_2 (y ∷ rest)
phase_2_kept x y rest e = rw e refl

phase_2_spliced : (x y : Character) (rest : List Character) → (x.byte == 92 && y.byte == 10) ≡ true → phase_2 (x ∷ y ∷ rest) ≡ phase_2 rest
phase_2_spliced x y rest e = rw e refl

if_taken : (b : Bool) (rest after : List ℕ) → cond b (Some rest) None ≡ Some after → (b ≡ true) × (rest ≡ after)
if_taken true rest after h = (refl, (cc))
if_taken false rest after h = cc

if_left : (b : Bool) (rest : List ℕ) → cond b (Some rest) None ≡ None → b ≡ false
if_left true rest h = cc
if_left false rest h = refl

line_end_parts : (next : Option (ℕ × List ℕ)) (after : List ℕ) → behind_line_end next ≡ Some after → next ≡ found 10 after
line_end_parts None after h = cc
line_end_parts (Some it) after h =
    let is = if_taken (it.0 == 10) it.1 after h in
    let byte : it.0 ≡ 10 = eqb-true it.0 10 is.0 in
    rw (← is.1, ← byte) refl

splice_parts : (b : Bool) (next : Option (ℕ × List ℕ)) (after : List ℕ) → cond b (behind_line_end next) None ≡ Some after → (b ≡ true) × (next ≡ found 10 after)
splice_parts true next after h = (refl, line_end_parts next after h)
splice_parts false next after h = cc

no_splice : (b : Bool) (d : ℕ) (after : List ℕ) → cond b (behind_line_end (found d after)) None ≡ None → (b && d == 10) ≡ false
no_splice true d after h = if_left (d == 10) after h
no_splice false d after h = refl

-- a backslash and the line end behind it go
left_spliced : (line c : ℕ) (bytes behind after : List ℕ) → first_at bytes ≡ found c behind → splice_at c behind ≡ Some after → left line bytes ≡ left (line + 1) after
unfolding left splice_at
left_spliced line c bytes behind after e h =
    let parts = splice_parts (c == 92) (first_at behind) after h in
    let byte : c ≡ 92 = eqb-true c 92 parts.0 in
    rw (phase_1_first line bytes behind c e, byte, phase_1_first line behind after 10 parts.1) refl

-- any other character stays
left_kept : (line c : ℕ) (bytes behind : List ℕ) → first_at bytes ≡ found c behind → splice_at c behind ≡ None → left line bytes ≡ at c line ∷ left (line_after c line) behind
unfolding left splice_at
left_kept line c bytes behind e h = rw (phase_1_first line bytes behind c e) (elim (first_at behind) as (λ next. first_at behind ≡ next → phase_2 (at c line ∷ phase_1 0 (line_after c line) behind) ≡ at c line ∷ phase_2 (phase_1 0 (line_after c line) behind)) [
  | None ↦ λ none. rw (no_first (line_after c line) behind none) refl
  | Some it ↦ λ some.
      let h2 : cond (c == 92) (behind_line_end (found it.0 it.1)) None ≡ None = (rw some at h) in
      rw (phase_1_first (line_after c line) behind it.1 it.0 some) (phase_2_kept (at c line) (at it.0 (line_after c line)) (phase_1 0 (line_after it.0 (line_after c line)) it.1) (no_splice (c == 92) it.0 it.1 h2))
] refl)

pub bytes_spliced : (made : List ℕ) (line c : ℕ) (bytes behind after : List ℕ) → first_at bytes ≡ found c behind → splice_at c behind ≡ Some after → all_bytes made (line + 1) after ≡ all_bytes made line bytes
bytes_spliced made line c bytes behind after e h = rw (left_spliced line c bytes behind after e h) refl

pub lines_spliced : (made : List ℕ) (line c : ℕ) (bytes behind after : List ℕ) → first_at bytes ≡ found c behind → splice_at c behind ≡ Some after → all_lines made (line + 1) after ≡ all_lines made line bytes
lines_spliced made line c bytes behind after e h = rw (left_spliced line c bytes behind after e h) refl

pub bytes_kept : (made : List ℕ) (line c : ℕ) (bytes behind : List ℕ) → first_at bytes ≡ found c behind → splice_at c behind ≡ None → all_bytes (made ++ c ∷ []) (line_after c line) behind ≡ all_bytes made line bytes
bytes_kept made line c bytes behind e h = rw (left_kept line c bytes behind e h, append_assoc) refl

pub lines_kept : (made : List ℕ) (line c : ℕ) (bytes behind : List ℕ) → first_at bytes ≡ found c behind → splice_at c behind ≡ None → all_lines (made ++ line ∷ []) (line_after c line) behind ≡ all_lines made line bytes
lines_kept made line c bytes behind e h = rw (left_kept line c bytes behind e h, append_assoc) refl

ends_first : (line c : ℕ) (bytes behind : List ℕ) → first_at bytes ≡ found c behind → ends (line_after c line) behind ≡ ends line bytes
unfolding ends
ends_first line c bytes behind e = rw (phase_1_first line bytes behind c e) refl

pub ends_kept : (line c : ℕ) (bytes behind : List ℕ) → first_at bytes ≡ found c behind → ends (line_after c line) behind ≡ ends line bytes
ends_kept line c bytes behind e = ends_first line c bytes behind e

pub ends_spliced : (line c : ℕ) (bytes behind after : List ℕ) → first_at bytes ≡ found c behind → splice_at c behind ≡ Some after → ends (line + 1) after ≡ ends line bytes
unfolding splice_at
ends_spliced line c bytes behind after e h =
    let parts = splice_parts (c == 92) (first_at behind) after h in
    let byte : c ≡ 92 = eqb-true c 92 parts.0 in
    let one : ends line behind ≡ ends line bytes = (rw byte at (ends_first line c bytes behind e)) in
    ends_first line 10 behind after parts.1 ∙ one

pub bytes_ended : (b : Bool) (end : ℕ) (made : List Character) → bytes_of (cond b (made ++ at 10 end ∷ []) made) ≡ cond b (bytes_of made ++ 10 ∷ []) (bytes_of made)
bytes_ended true end made = map-append (λ (x : Character). x.byte) made (at 10 end ∷ [])
bytes_ended false end made = refl

pub lines_ended : (b : Bool) (end : ℕ) (made : List Character) → lines_of (cond b (made ++ at 10 end ∷ []) made) ≡ cond b (lines_of made ++ end ∷ []) (lines_of made)
lines_ended true end made = map-append (λ (x : Character). x.line) made (at 10 end ∷ [])
lines_ended false end made = refl
