-- The rules that the typed reading of a tree tests: those of declarations and types, of expressions, of initialisers and statements,
-- and the limits on these.
use Rattle.std.specs.Prelude.{◌≡◌, Bool, true, false}
use Rattle.fsc_base.specs.declared.rule.Rule.{Rule}
use Rattle.fsc_base.specs.declared.rule.Rule.TheVariants as rules
use Rattle.fsc_base.specs.declared.place.Refused.{Refused}
use Rattle.fsc_base.specs.declared.place.Refused.TheVariants as refusals

abbrev pub is_of_check : Rule → Bool
is_of_check rules.K02 = true
is_of_check rules.K03 = true
is_of_check rules.K04 = true
is_of_check rules.K05 = true
is_of_check rules.K06 = true
is_of_check rules.K07 = true
is_of_check rules.K08 = true
is_of_check rules.K09 = true
is_of_check rules.K10 = true
is_of_check rules.K11 = true
is_of_check rules.K12 = true
is_of_check rules.K13 = true
is_of_check rules.K14 = true
is_of_check rules.K15 = true
is_of_check rules.K16 = true
is_of_check rules.K17 = true
is_of_check rules.K18 = true
is_of_check rules.K19 = true
is_of_check rules.K20 = true
is_of_check rules.K21 = true
is_of_check rules.K22 = true
is_of_check rules.K23 = true
is_of_check rules.K24 = true
is_of_check rules.K25 = true
is_of_check rules.K26 = true
is_of_check rules.K27 = true
is_of_check rules.K28 = true
is_of_check rules.K29 = true
is_of_check rules.K30 = true
is_of_check rules.K46 = true
is_of_check rules.K47 = true
is_of_check rules.K48 = true
is_of_check rules.K49 = true
is_of_check rules.K50 = true
is_of_check rules.K51 = true
is_of_check rules.K52 = true
is_of_check rules.K53 = true
is_of_check rules.L01 = true
is_of_check rules.L03 = true
is_of_check rules.L05 = true
is_of_check rules.L07 = true
is_of_check rules.L08 = true
is_of_check rules.L09 = true
is_of_check rules.L11 = true
is_of_check rules.L12 = true
is_of_check rules.L13 = true
is_of_check _ = false

abbrev pub OfCheck : Rule → Type 0
OfCheck rule = is_of_check rule ≡ true

-- a refusal by one of these rules, or for want of memory
abbrev pub IsCheckRefusal : Refused → Type 0
IsCheckRefusal (refusals.Broken broken) = OfCheck broken.rule
IsCheckRefusal refusals.NoMemory = Unit {0}
