-- What a string literal says on a `#line` line.
use Rattle.std.specs.Prelude.{◌≡◌, ℕ, List, Option, Some, None}
use Rattle.fsc_base.specs.declared.rule.Rule.{Rule}
use Rattle.pp_token.specs.declared.token.PpKind.TheVariants.{Str}
use Rattle.c_lexer.specs.Answers.{IsUnbroken}
use Rattle.c_lexer.specs.Lexing.{string_of, Breaks}

-- its bytes, or none where it breaks a rule
abbrev pub IsContent : List ℕ → Option (List ℕ) → Type 0
IsContent text (Some name) = (name ≡ string_of text) × IsUnbroken Str text
IsContent text None = (rule : Rule) × Breaks rule Str text
