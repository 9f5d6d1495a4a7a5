-- Programs of the form that is built, and their texts.
use Rattle.std.specs.Prelude.{◌≡◌, ℕ, ◌^◌, ◌<◌, ◌≤◌, ◌⊎◌, List, [], ◌∷◌, ◌++◌, length, All, codes, Result, Ok, Err}
use Rattle.std.specs.List.{flat_map}
use Rattle.std.specs.Fmt.{decimal}
use Rattle.plain_text.specs.declared.program.Program.{Program}
use Rattle.plain_text.specs.declared.program.ReadNo.{ReadNo}
use Rattle.plain_text.specs.declared.program.ReadNo.TheVariants.{NotPlain, NoMemory}

-- a space, a tab or a line feed
abbrev pub IsBlank : ℕ → Type 0
IsBlank c = (c ≡ 32) ⊎ ((c ≡ 9) ⊎ (c ≡ 10))

-- a token, and how many blanks must stand behind it at least
pub record Token : Type 0 where
  pub spelling : List ℕ
  pub gap : ℕ

-- a token behind which no blank need stand
abbrev pub tight : List ℕ → Token
tight spelling = record { spelling = spelling; gap = 0 }

-- a token behind which a blank must stand
abbrev pub spaced : List ℕ → Token
spaced spelling = record { spelling = spelling; gap = 1 }

-- int main ( void ) {
abbrev pub opening : List Token
opening = spaced (codes "int") ∷ tight (codes "main") ∷ tight (codes "(") ∷ tight (codes "void") ∷ tight (codes ")") ∷ tight (codes "{") ∷ []

-- putchar ( NUM ) ;
abbrev pub call_of : ℕ → List Token
call_of n = tight (codes "putchar") ∷ tight (codes "(") ∷ tight (decimal n) ∷ tight (codes ")") ∷ tight (codes ";") ∷ []

-- return NUM ; }
abbrev pub closing : ℕ → List Token
closing n = spaced (codes "return") ∷ tight (decimal n) ∷ tight (codes ";") ∷ tight (codes "}") ∷ []

-- int main ( void ) { calls return NUM ; }
abbrev pub tokens_of : Program → List Token
tokens_of program = opening ++ (flat_map call_of program.bytes ++ closing program.status)

-- the text is these tokens, with blanks behind each
abbrev pub Spells : List Token → List ℕ → Type 0
Spells [] text = text ≡ []
Spells (token ∷ tokens) text = (blanks rest : List ℕ) × (text ≡ token.spelling ++ (blanks ++ rest)) × All IsBlank blanks × (token.gap ≤ length blanks) × Spells tokens rest

-- the text is that of the program, of the size and form that are read
pub record IsPlain (text : List ℕ) (program : Program) : Type 0 where
  pub short : length text ≤ 2 ^ 24
  pub few : length program.bytes ≤ 1000
  pub bytes : All (λ b. b < 256) program.bytes
  pub status : program.status < 256
  pub spelled : (blanks rest : List ℕ) × (text ≡ blanks ++ rest) × All IsBlank blanks × Spells (tokens_of program) rest

-- what reading gives where the text is that of the program
abbrev pub Reads : Result Program ReadNo → Program → Type 0
Reads (Ok found) program = found ≡ program
Reads (Err NoMemory) program = Unit {0}
Reads (Err NotPlain) program = ⊥
