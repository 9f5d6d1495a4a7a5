-- What the lines of notes make of an ending.
use Rattle.std.specs.Prelude.{◌≡◌, ℕ, ◌⊎◌, List, ◌++◌, Option}
use Rattle.fsc_outside.specs.Streams.{Appends, AppendsPart}
use Rattle.fsc_ending.specs.declared.ending.Ending.{Ending}
use Rattle.fsc_ending.specs.declared.ending.Ending.TheVariants.{NoteFault, NoMemory}
use Rattle.block_report.specs.declared.live.Live.{Live}
use Rattle.fsc_ending.specs.Ending.{note_of}
use Rattle.fsc_ending.specs.Lives.{front_of}

-- the line of an ending, after that of the marks and those of the objects that are alive if they are told
abbrev pub notes_of : Option ℕ → Option (List Live) → Ending → List ℕ
notes_of marks lives ending = front_of marks lives ++ note_of ending

-- a line could not be written, or memory was refused
abbrev pub IsUnsaid : Ending → Type 0
IsUnsaid answer = (answer ≡ NoteFault) ⊎ (answer ≡ NoMemory)

-- The ending, or what took its place where its line could not be written or memory was refused.
abbrev pub IsUnless : (said answer : Ending) → Type 0
IsUnless said answer = (answer ≡ said) ⊎ IsUnsaid answer

-- The answer after an ending, its marks and its objects: the ending itself, and all lines stand in the notes; or a part of these lines
-- stands there, from their front and not all, and the answer says why.
abbrev pub IsReported : (said : Ending) (marks : Option ℕ) (lives : Option (List Live)) (answer : Ending) (before after : Option (List ℕ)) → Type 0
IsReported said marks lives answer before after =
    ((answer ≡ said) × Appends before after (notes_of marks lives said)) ⊎ (IsUnsaid answer × AppendsPart before after (notes_of marks lives said))
