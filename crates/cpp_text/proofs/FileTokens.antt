-- What phase 3 gives: a list with an End, or one of its two rules.
use Rattle.std.proofs.Common.{◌≡◌, ℕ, zero, suc, ◌-◌, ◌^◌, ◌<◌, ◌⊎◌, inl, inr, List, [], ◌∷◌, length, Bool, true, false, Result, Ok, Err, IfOk, IfErr, refl, subst, lit<, nat_lt, arith, if◌then◌else◌}
use Rattle.fsc_base.specs.declared.place.Broken.{Broken}
use Rattle.fsc_base.specs.declared.place.Refused.{Refused}
use Rattle.fsc_base.specs.declared.place.Refused.TheVariants as refusals
use Rattle.fsc_base.specs.declared.rule.Rule.TheVariants.{K32, L14}
use Rattle.cpp_expand.specs.Causes.{Refuses}
use Rattle.cpp_text.specs.Causes.{OfText}
use Rattle.cpp_text.proofs.Texts.{of_file}
use Rattle.pp_token.specs.declared.token.PpToken.{PpToken}
use Rattle.pp_token.specs.declared.piece.Piece.{Piece}
use Rattle.pp_token.specs.declared.piece.Piece.TheVariants.{Blank, OpenComment, LineEnd, Token}
use Rattle.pp_token.specs.declared.piece.Spot.{Spot}
use Rattle.pp_token.specs.declared.piece.Spot.TheVariants.{LineStart}
use Rattle.pp_token.specs.Characters.{bytes_of, lines_of, characters_of, end_of}
use Rattle.pp_token.specs.declared.reading.Source.{Source}
use Rattle.pp_token.specs.Tokens.{put, given, phase_3, tokens_of, Gives, piece_at, spot_behind, is_space, length_of}

-- a token is there, or it is one of these rules
abbrev pub Shaped : Result (List PpToken) Broken → Type 0
Shaped (Ok tokens) = 0 < length tokens
Shaped (Err broken) = (broken.rule ≡ K32) ⊎ (broken.rule ≡ L14)

pub put-shaped : (token : PpToken) (rest : Result (List PpToken) Broken) → Shaped rest → Shaped (put token rest)
put-shaped token (Ok tokens) h = omega arith
put-shaped token (Err broken) h = h

pub given-shaped : (source : Source) (spaced : Bool) (line : ℕ) (text : List ℕ) (piece : Piece) (rest : Result (List PpToken) Broken) → Shaped rest → Shaped (given source spaced line text piece rest)
given-shaped source spaced line text (Blank n) rest h = h
given-shaped source spaced line text OpenComment rest h = inl refl
given-shaped source spaced line text LineEnd rest h = put-shaped _ rest h
given-shaped source spaced line text (Token found) rest h = put-shaped _ rest h

pub phase_3-shaped : (source : Source) (spot : Spot) (spaced : Bool) (skip : ℕ) (bytes lines : List ℕ) → Shaped (phase_3 source spot spaced skip bytes lines)
phase_3-shaped source spot spaced skip [] lines = lit< tt
phase_3-shaped source spot spaced (suc skip) (b ∷ bs) lines = phase_3-shaped source spot spaced skip bs _
phase_3-shaped source spot spaced zero (b ∷ bs) lines =
    given-shaped source spaced _ (b ∷ bs) (piece_at spot (b ∷ bs)) _
    (phase_3-shaped source (spot_behind spot (piece_at spot (b ∷ bs)) (b ∷ bs)) (is_space (piece_at spot (b ∷ bs))) (length_of (piece_at spot (b ∷ bs)) - 1) bs _)

pub choice-shaped : (b : Bool) (first second : Result (List PpToken) Broken) → Shaped first → Shaped second → Shaped (if b then first else second)
choice-shaped true first second h k = h
choice-shaped false first second h k = k

pub tokens_of-shaped : (unit file : ℕ) (bytes : List ℕ) → Shaped (tokens_of unit file bytes)
unfolding tokens_of
tokens_of-shaped unit file bytes = choice-shaped (nat_lt (2 ^ 24) (length bytes)) _ _ (inr refl)
    (phase_3-shaped (record { unit = unit; file = file; end = end_of bytes }) LineStart false 0 (bytes_of (characters_of bytes)) (lines_of (characters_of bytes)))

-- what was read has its End
pub has_end : (result : Result (List PpToken) Refused) (unit file : ℕ) (bytes : List ℕ) → Gives result (tokens_of unit file bytes) → IfOk result (λ tokens. 0 < length tokens)
has_end (Ok tokens) unit file bytes h = subst Shaped h (tokens_of-shaped unit file bytes)
has_end (Err refused) unit file bytes h = tt

-- what was refused breaks a rule of phases 1 to 3
pub refuses : (result : Result (List PpToken) Refused) (unit file : ℕ) (bytes : List ℕ) → Gives result (tokens_of unit file bytes) → IfErr result (Refuses OfText)
refuses (Ok tokens) unit file bytes h = tt
refuses (Err (refusals.Broken broken)) unit file bytes h = of_file (refusals.Broken broken) (subst Shaped h (tokens_of-shaped unit file bytes))
refuses (Err refusals.NoMemory) unit file bytes h = tt
