-- What a string literal says.
use Rattle.std.proofs.Common.{◌≡◌, refl, sym, ◌∙◌, subst, ℕ, List, [], ◌++◌, Some}
use Rattle.pp_token.specs.declared.token.PpKind.TheVariants.{Str}
use Rattle.c_lexer.specs.Answers.{IsUnbroken}
use Rattle.c_lexer.specs.Lexing.{string_of}
use Rattle.cpp_text.specs.Contents.{IsContent}

-- added to nothing, its bytes are all
pub is_content : (old new slice text name : List ℕ) → old ≡ [] → slice ≡ text → (new ≡ old ++ string_of slice) × IsUnbroken Str slice → name ≡ new → IsContent text (Some name)
is_content old new slice text name none same (are, unbroken) whole =
    (whole ∙ (are ∙ (subst (λ (l : List ℕ). l ++ string_of slice ≡ string_of slice) (sym none) refl ∙ subst (λ (l : List ℕ). string_of slice ≡ string_of l) same refl)), subst (λ (l : List ℕ). IsUnbroken Str l) same unbroken)
