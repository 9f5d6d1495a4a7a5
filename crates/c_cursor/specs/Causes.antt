-- Why the parser refuses a text.
use Rattle.std.specs.Prelude.{◌≡◌, ◌⊎◌}
use Rattle.fsc_base.specs.declared.rule.Rule.{Rule}
use Rattle.fsc_base.specs.declared.rule.Rule.TheVariants.{K01, L03}
use Rattle.fsc_base.specs.declared.place.Refused.{Refused}
use Rattle.fsc_base.specs.declared.place.Refused.TheVariants as refusals

-- no derivable token list goes on so, or only with a tree that is too deep
abbrev pub OfParse : Rule → Type 0
OfParse rule = (rule ≡ K01) ⊎ (rule ≡ L03)

-- a refusal by one of these rules, or for want of memory
abbrev pub IsParseRefusal : Refused → Type 0
IsParseRefusal (refusals.Broken broken) = OfParse broken.rule
IsParseRefusal refusals.NoMemory = Unit {0}
