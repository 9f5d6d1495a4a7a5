-- What a refusal says: which rule is broken, and where.
use Rattle.std.specs.Prelude.{◌≡◌, ◌⊎◌, List, [], ◌∷◌}
use Rattle.fsc_base.specs.declared.place.Place.{Place}
use Rattle.fsc_base.specs.declared.place.Refused.{Refused}
use Rattle.fsc_base.specs.declared.place.Refused.TheVariants as refusals
use Rattle.fsc_base.specs.declared.rule.Rule.{Rule}
use Rattle.fsc_base.specs.declared.rule.Rule.TheVariants.{K36, K37, K38, K42, L10, L15}
use Rattle.pp_token.specs.declared.token.PpToken.{PpToken}

-- one of these rules is broken, or memory ran out
abbrev pub Refuses : (Rule → Type 0) → Refused → Type 0
Refuses rules (refusals.Broken broken) = rules broken.rule
Refuses rules refusals.NoMemory = Unit {0}

-- one of these rules is broken at this place, or memory ran out
abbrev pub RefusesAt : (Rule → Type 0) → Place → Refused → Type 0
RefusesAt rules place (refusals.Broken broken) = rules broken.rule × (broken.place ≡ place)
RefusesAt rules place refusals.NoMemory = Unit {0}

-- another macro of the name, or a malformed line
abbrev pub OfDefine : Rule → Type 0
OfDefine rule = (rule ≡ K36) ⊎ (rule ≡ K37)

-- a malformed line
abbrev pub OfUndefine : Rule → Type 0
OfUndefine rule = rule ≡ K37

-- ## gives no token
abbrev pub OfPaste : Rule → Type 0
OfPaste rule = rule ≡ K42

-- a call, ##, too many tokens, or the time of translation
abbrev pub OfExpand : Rule → Type 0
OfExpand rule = (rule ≡ K38) ⊎ ((rule ≡ K42) ⊎ ((rule ≡ L10) ⊎ (rule ≡ L15)))

-- the place of a directive: that of its #
abbrev pub place_of_line : List PpToken → Place
place_of_line [] = record { unit = 0; file = 0; line = 0 }
place_of_line (hash ∷ rest) = hash.place
