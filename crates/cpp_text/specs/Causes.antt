-- The rules that the text of a unit can break in phases 1 to 4, but for those on what is included.
use Rattle.std.specs.Prelude.{◌≡◌, ◌⊎◌}
use Rattle.fsc_base.specs.declared.rule.Rule.{Rule}
use Rattle.fsc_base.specs.declared.rule.Rule.TheVariants.{K31, K32, K33, K34, K39, K41, K43, L14}
use Rattle.cpp_cond.specs.Causes.{OfTerm}
use Rattle.cpp_expand.specs.Causes.{OfDefine, OfExpand}

-- a comment that is not closed, or too long a file
abbrev pub OfFile : Rule → Type 0
OfFile rule = (rule ≡ K32) ⊎ (rule ≡ L14)

-- a quote that is not closed, and the rules on directives themselves
abbrev pub OfDirective : Rule → Type 0
OfDirective rule = (rule ≡ K31) ⊎ ((rule ≡ K33) ⊎ ((rule ≡ K34) ⊎ ((rule ≡ K39) ⊎ ((rule ≡ K41) ⊎ (rule ≡ K43)))))

abbrev pub OfText : Rule → Type 0
OfText rule = OfDirective rule ⊎ (OfExpand rule ⊎ (OfDefine rule ⊎ (OfTerm rule ⊎ OfFile rule)))
