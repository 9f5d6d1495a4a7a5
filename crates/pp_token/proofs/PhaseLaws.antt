-- Phase 3 piece by piece.
use Rattle.std.proofs.Common.{◌≡◌, ℕ, zero, suc, ◌-◌, ◌<◌, Bool, List, [], ◌∷◌, length, drop, slice_index, Result, refl, sym, ap, ◌∙◌, arith}
use Rattle.fsc_base.specs.declared.place.Broken.{Broken}
use Rattle.fsc_base.specs.declared.place.Refused.{Refused}
use Rattle.fsc_base.specs.declared.place.Refused.TheVariants as refusals
use Rattle.pp_token.specs.declared.token.PpToken.{PpToken}
use Rattle.pp_token.specs.declared.piece.Spot.{Spot}
use Rattle.pp_token.specs.declared.piece.Piece.{Piece}
use Rattle.pp_token.specs.declared.reading.Source.{Source}
use Rattle.pp_token.specs.Tokens.{piece_at, length_of, is_space, spot_behind, given, phase_3}
use Rattle.pp_token.specs.Stepping.{gathered, Refuses}

drop_nil : (k : ℕ) → drop k (let none : List ℕ = [] in none) ≡ []
drop_nil zero = refl
drop_nil (suc k) = refl

drop_behind : (k : ℕ) (lines : List ℕ) → drop k (drop 1 lines) ≡ drop (suc k) lines
drop_behind k [] = drop_nil k
drop_behind k (l ∷ ls) = refl

phase_3_passed : (source : Source) (spot : Spot) (spaced : Bool) (k : ℕ) (text lines : List ℕ) → phase_3 source spot spaced k text lines ≡ phase_3 source spot spaced 0 (drop k text) (drop k lines)
phase_3_passed source spot spaced zero text lines = refl
phase_3_passed source spot spaced (suc k) [] lines = refl
phase_3_passed source spot spaced (suc k) (b ∷ bs) lines = phase_3_passed source spot spaced k bs (drop 1 lines) ∙ ap (λ (l : List ℕ). phase_3 source spot spaced 0 (drop k bs) l) (drop_behind k lines)

-- the piece at the front and what follows it
abbrev pub behind_piece : Source → Spot → Bool → List ℕ → List ℕ → Piece → Result (List PpToken) Broken
behind_piece source spot spaced text lines piece = given source spaced (slice_index lines 0) text piece (phase_3 source (spot_behind spot piece text) (is_space piece) 0 (drop (length_of piece) text) (drop (length_of piece) lines))

skipped : (source : Source) (spot : Spot) (spaced : Bool) (n b : ℕ) (bs lines : List ℕ) → 0 < n → phase_3 source spot spaced (n - 1) bs (drop 1 lines) ≡ phase_3 source spot spaced 0 (drop n (b ∷ bs)) (drop n lines)
skipped source spot spaced zero b bs lines some = absurd (omega arith)
skipped source spot spaced (suc k) b bs lines some =
    let one : suc k - 1 ≡ k = omega arith in
    rw one (phase_3_passed source spot spaced k bs (drop 1 lines) ∙ ap (λ (l : List ℕ). phase_3 source spot spaced 0 (drop k bs) l) (drop_behind k lines))

pub phase_3_step : (source : Source) (spot : Spot) (spaced : Bool) (text lines : List ℕ) → 0 < length text → 0 < length_of (piece_at spot text) → phase_3 source spot spaced 0 text lines ≡ behind_piece source spot spaced text lines (piece_at spot text)
phase_3_step source spot spaced [] lines some long = absurd (omega arith)
phase_3_step source spot spaced (b ∷ bs) lines some long =
    ap (λ rest. given source spaced (slice_index lines 0) (b ∷ bs) (piece_at spot (b ∷ bs)) rest)
    (skipped source (spot_behind spot (piece_at spot (b ∷ bs)) (b ∷ bs)) (is_space (piece_at spot (b ∷ bs))) (length_of (piece_at spot (b ∷ bs))) b bs lines long)

-- a refusal of what follows is one of all
pub refused_later : (refused : Refused) (made : List PpToken) (rest whole : Result (List PpToken) Broken) → gathered made rest ≡ whole → Refuses refused rest → Refuses refused whole
refused_later (refusals.Broken broken) made rest whole e refuses = sym e ∙ ap (gathered made) refuses
refused_later refusals.NoMemory made rest whole e refuses = tt
