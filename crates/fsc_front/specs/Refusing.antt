-- Why a file gives no typed unit.
use Rattle.std.specs.Prelude.{◌≡◌, ℕ, ◌⊎◌, List, None}
use Rattle.fsc_base.specs.declared.place.Broken.{Broken}
use Rattle.fsc_base.specs.declared.place.Refused.{Refused}
use Rattle.fsc_base.specs.declared.place.Refused.TheVariants as refusals
use Rattle.fsc_base.specs.declared.rule.Rule.TheVariants.{L16}
use Rattle.fsc_outside.specs.Calls.{FileCounts, Fails, Misses}
use Rattle.fsc_outside.specs.FileMap.{Holds}
use Rattle.pp_token.specs.declared.token.PpToken.{PpToken}
use Rattle.c_lexer.specs.Lexing.{IsBroken}
use Rattle.cpp_text.specs.Outside.{Breaks}
use Rattle.c_cursor.specs.Causes.{OfParse}
use Rattle.check_refusal.specs.Causes.{OfCheck}
use Rattle.fsc_front.specs.declared.refusal.FrontNo.{FrontNo}
use Rattle.fsc_front.specs.declared.refusal.FrontNo.TheVariants as front

-- what is broken behind phase 4: a rule of tokens, by some list of preprocessing tokens; one of the parser's; one of the
-- checker's; or the bound on a unit's bulk
abbrev pub IsOfTokens : Broken → Type 0
IsOfTokens broken = ((list : List PpToken) × IsBroken list broken) ⊎ (OfParse broken.rule ⊎ (OfCheck broken.rule ⊎ (broken.rule ≡ L16)))

abbrev pub StopsTokens : Refused → Type 0
StopsTokens (refusals.Broken broken) = IsOfTokens broken
StopsTokens refusals.NoMemory = Unit {0}

-- why a text is rejected: a rule of preprocessing is broken, K40 only where a file was absent, or a later one
abbrev pub IsCause : Broken → FileCounts → Type 0
IsCause broken counts = Breaks broken counts ⊎ IsOfTokens broken

-- why the unit with this file of its own is refused
abbrev pub RefusesFront : FrontNo → List ℕ → FileCounts → Type 0
RefusesFront (front.Broken broken file) name counts = IsCause broken counts
RefusesFront front.Missing name counts = Misses counts × Holds counts.told name None
RefusesFront (front.FileFault file) name counts = Fails file counts
RefusesFront front.NoMemory name counts = Unit {0}
