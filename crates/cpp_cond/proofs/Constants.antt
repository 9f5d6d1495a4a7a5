-- What numbers and character constants become that break no rule.
use Rattle.std.proofs.Common.{◌≡◌, refl, sym, subst, inl, inr, ℕ, List, Bool, true, false, Option, Some, None}
use Rattle.fsc_base.specs.declared.rule.Rule.TheVariants.{K44, L01}
use Rattle.pp_token.specs.declared.token.PpKind.{PpKind}
use Rattle.pp_token.specs.declared.token.PpKind.TheVariants as pp
use Rattle.c_lexer.specs.declared.token.TokenKind.{TokenKind}
use Rattle.c_lexer.specs.Answers.{IsUnbroken}
use Rattle.c_lexer.specs.Lexing.{kind_of, numbered}
use Rattle.c_lexer.specs.Numbers.{Integer, integer_of, is_floating}
use Rattle.cpp_cond.specs.Constants.{IsConstantKind, IsConstantToken}

-- a number that is no integer constant breaks a rule
no_integer : (text : List ℕ) (floating : Bool) → is_floating text ≡ floating → integer_of text ≡ None → IsUnbroken pp.Number text → ⊥
no_integer text true is none unbroken = unbroken L01 (inr (inr (inl (refl, is))))
no_integer text false is none unbroken = unbroken K44 (inl (refl, (none, is)))

number : (found : Option Integer) (text : List ℕ) → integer_of text ≡ found → IsUnbroken pp.Number text → IsConstantToken (numbered found)
number None text is unbroken = absurd (no_integer text (is_floating text) refl is unbroken)
number (Some constant) text is unbroken = tt

pub is_constant_token : (kind : PpKind) (text : List ℕ) (found : TokenKind) → IsConstantKind kind → (found ≡ kind_of kind text) × IsUnbroken kind text → IsConstantToken found
is_constant_token kind text found (inl is) (of, unbroken) =
    subst IsConstantToken (sym (subst (λ (k : PpKind). found ≡ kind_of k text) is of)) (number (integer_of text) text refl (subst (λ (k : PpKind). IsUnbroken k text) is unbroken))
is_constant_token kind text found (inr is) (of, unbroken) = subst IsConstantToken (sym (subst (λ (k : PpKind). found ≡ kind_of k text) is of)) tt
