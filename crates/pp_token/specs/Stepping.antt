-- Phase 3 piece by piece.
use Rattle.std.specs.Prelude.{◌≡◌, ℕ, ◌⊎◌, ◌<◌, ◌==◌, slice_index, Bool, true, false, List, [], ◌∷◌, ◌++◌, length, None, Result, Ok, Err}
use Rattle.fsc_base.specs.declared.place.Broken.{Broken}
use Rattle.fsc_base.specs.declared.place.Refused.{Refused}
use Rattle.fsc_base.specs.declared.place.Refused.TheVariants as refusals
use Rattle.pp_token.specs.declared.token.PpToken.{PpToken}
use Rattle.pp_token.specs.declared.piece.Unclosed.{Unclosed}
use Rattle.pp_token.specs.declared.spelling.Quote.{Quote}
use Rattle.pp_token.specs.declared.spelling.Quote.TheVariants.{Single, Double}
use Rattle.pp_token.specs.declared.reading.Reader.{Reader}
use Rattle.pp_token.specs.Spelling.{is_blank}
use Rattle.pp_token.specs.Scanning.{closing}
use Rattle.pp_token.specs.Tokens.{phase_3}

-- what begins with a character that is no white space
pub record IsMark (text : List ℕ) : Type 0 where
  pub some : 0 < length text
  pub no_blank : is_blank (slice_index text 0) ≡ false
  pub no_end : (slice_index text 0 == 10) ≡ false

-- no such quote on this line is closed
abbrev pub AllOpen : ℕ → List ℕ → Type 0
AllOpen quote [] = Unit {0}
AllOpen quote (c ∷ cs) = (c ≡ 10) ⊎ ((c ≡ quote → closing quote false cs ≡ None) × AllOpen quote cs)

-- what is marked as unclosed is
pub record Knows (unclosed : Unclosed) (text : List ℕ) : Type 0 where
  pub singles : unclosed.single ≡ true → AllOpen 39 text
  pub doubles : unclosed.double ≡ true → AllOpen 34 text

-- no marks
abbrev pub nothing : Unclosed
nothing = record { single = false; double = false }

-- whether such quotes are marked as unclosed
abbrev pub is_marked : Unclosed → Quote → Bool
is_marked unclosed Single = unclosed.single
is_marked unclosed Double = unclosed.double

-- the same marks and this one
abbrev pub marked : Unclosed → Quote → Unclosed
marked unclosed Single = record unclosed { single = true }
marked unclosed Double = record unclosed { double = true }

-- the tokens made before those that follow
abbrev pub gathered : List PpToken → Result (List PpToken) Broken → Result (List PpToken) Broken
gathered made (Ok tokens) = Ok (made ++ tokens)
gathered made (Err broken) = Err broken

-- what was refused is the rule that is broken, unless memory ran out
abbrev pub Refuses : Refused → Result (List PpToken) Broken → Type 0
Refuses (refusals.Broken broken) read = read ≡ Err broken
Refuses refusals.NoMemory read = Unit {0}

-- what is left to read, and what is known of it
pub record IsReady (reader : Reader) : Type 0 where
  pub even : length reader.text.now ≡ length reader.lines.now
  pub known : Knows reader.unclosed reader.text.now

-- what the reader will give
abbrev pub all_of : Reader → Result (List PpToken) Broken
all_of reader = phase_3 reader.source reader.spot reader.spaced 0 reader.text.now reader.lines.now
