-- What functions that read a part of a text give.
use Rattle.std.specs.Prelude.{◌≡◌, ℕ, ◌<◌, List, Result, Ok, Err}
use Rattle.fsc_base.specs.declared.rule.Rule.{Rule}
use Rattle.fsc_base.specs.declared.rule.Rule.TheVariants.{K45}
use Rattle.c_lexer.specs.Characters.{Read, read_as, IsBad}

-- the byte and the text behind it are those of the character, or the escape is bad
abbrev pub Reads : {X : Type 0} → (X → List ℕ) → Result (ℕ × X) Rule → Read → Type 0
Reads bytes (Ok found) read = (found.0 < 256) × (read ≡ read_as found.0 (bytes found.1))
Reads bytes (Err rule) read = (rule ≡ K45) × IsBad read.value

-- the byte is that value, or the value is no byte
abbrev pub IsByte : Result ℕ Rule → ℕ → Type 0
IsByte (Ok byte) value = (value < 256) × (byte ≡ value)
IsByte (Err rule) value = (rule ≡ K45) × (255 < value)
