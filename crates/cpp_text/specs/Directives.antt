-- Directives by their names.
use Rattle.cpp_text.specs.declared.directive.Directive.{Directive}
use Rattle.cpp_text.specs.declared.directive.Directive.TheVariants as directives

-- a fact on the lines that begin, divide or end a conditional inclusion
abbrev pub IfCondition : Directive → Type 0 → Type 0
IfCondition (directives.Section _) P = P
IfCondition (directives.Control _) P = Unit {0}
