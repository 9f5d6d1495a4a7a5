-- The plain forms of words.
use Rattle.std.specs.Prelude.{◌≢◌, List, [], ◌∷◌, Some, ℕ, slice_get, codes}
use Rattle.std.specs.Fmt.{decimal}
use Rattle.clap.specs.Words.{Text}

-- a name of a file doesn't begin as an option does
abbrev pub IsFileWord : Text → Type 0
IsFileWord word = slice_get word 0 ≢ Some 45

-- the words `go FILE` and `go --steps N FILE`, or the same of another command
abbrev pub plain_words : (command file : Text) → List Text
plain_words command file = command ∷ file ∷ []

abbrev pub words_with_steps : (command : Text) (steps : ℕ) (file : Text) → List Text
words_with_steps command steps file = command ∷ codes "--steps" ∷ decimal steps ∷ file ∷ []
