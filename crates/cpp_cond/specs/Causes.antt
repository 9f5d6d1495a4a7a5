-- The rules that a line of a condition can break.
use Rattle.std.specs.Prelude.{◌≡◌, ◌⊎◌}
use Rattle.fsc_base.specs.declared.rule.Rule.{Rule}
use Rattle.fsc_base.specs.declared.rule.Rule.TheVariants.{K35, K44, K45, L04, L06}
use Rattle.cpp_expand.specs.Causes.{OfExpand}

-- no integral constant expression, or a token that is none or has no value
abbrev pub OfTerm : Rule → Type 0
OfTerm rule = (rule ≡ K35) ⊎ ((rule ≡ K44) ⊎ ((rule ≡ K45) ⊎ ((rule ≡ L04) ⊎ (rule ≡ L06))))

-- one of these, or one of expansion
abbrev pub OfCondition : Rule → Type 0
OfCondition rule = OfTerm rule ⊎ OfExpand rule
