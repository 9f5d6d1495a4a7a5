-- Constants in controlling expressions, and the rules that a token breaks there by itself (C90 6.1.3 and 6.8.1).
use Rattle.std.specs.Prelude.{◌≡◌, ◌≢◌, ◌⊎◌, Bool, true, false, Option, Some, None}
use Rattle.fsc_base.specs.declared.rule.Rule.{Rule}
use Rattle.fsc_base.specs.declared.rule.Rule.TheVariants.{L01}
use Rattle.pp_token.specs.declared.token.PpToken.{PpToken}
use Rattle.pp_token.specs.declared.token.PpKind.{PpKind}
use Rattle.pp_token.specs.declared.token.PpKind.TheVariants.{Number, Char, Other}
use Rattle.c_lexer.specs.declared.token.BasicType.{BasicType}
use Rattle.c_lexer.specs.declared.token.BasicType.TheVariants as basic
use Rattle.c_lexer.specs.declared.token.TokenKind.{TokenKind}
use Rattle.c_lexer.specs.declared.token.TokenKind.TheVariants as token
use Rattle.c_lexer.specs.Answers.{IsUnbroken}
use Rattle.c_lexer.specs.Lexing.{Breaks, kind_of}
use Rattle.cpp_cond.specs.declared.value.Value.{Value}

-- int acts as long, and unsigned int as unsigned long
abbrev pub is_unsigned : BasicType → Bool
is_unsigned basic.Int = false
is_unsigned basic.Unsigned = true
is_unsigned basic.Long = false
is_unsigned basic.UnsignedLong = true

-- the value of a constant
abbrev pub constant_value : TokenKind → Option Value
constant_value (token.Int value type) = Some (record { bits = value; is_unsigned = is_unsigned type })
constant_value (token.Char value) = Some (record { bits = value; is_unsigned = false })
constant_value _ = None

abbrev pub IsConstantToken : TokenKind → Type 0
IsConstantToken (token.Int value type) = Unit {0}
IsConstantToken (token.Char value) = Unit {0}
IsConstantToken _ = ⊥

-- an integer or a character constant
abbrev pub IsConstantKind : PpKind → Type 0
IsConstantKind kind = (kind ≡ Number) ⊎ (kind ≡ Char)

-- the token is a constant of that value
pub record IsConstant (token : PpToken) (value : Value) : Type 0 where
  pub kind : IsConstantKind token.kind
  pub unbroken : IsUnbroken token.kind token.text
  pub value_is : constant_value (kind_of token.kind token.text) ≡ Some value

-- the token is a number or a character constant, and has no value by that rule, or it is no token; a floating constant is
-- no integral constant, which the line breaks
pub record BreaksAlone (rule : Rule) (token : PpToken) : Type 0 where
  pub kind : IsConstantKind token.kind ⊎ (token.kind ≡ Other)
  pub breaks : Breaks rule token.kind token.text
  pub no_floating : rule ≢ L01
