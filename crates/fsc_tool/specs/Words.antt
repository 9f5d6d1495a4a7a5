-- What the words ask for, as the command lines are read.
use Rattle.std.specs.Prelude.{◌≡◌, ◌≢◌, ℕ, ◌⊎◌, List, [], ◌∷◌, length, Bool, Option, Some, None}
use Rattle.command_line.specs.Requests.{Listed}
use Rattle.command_line.specs.declared.request.Request.{Request}
use Rattle.command_line.specs.declared.request.Request.TheVariants as request
use Rattle.fsc_core.specs.Refusing.{Among}

-- `go` with these files, of at most so many instructions
abbrev pub AsksFiles : List (List ℕ) → (files : List (List ℕ)) (steps : ℕ) (stats : Bool) → Type 0
AsksFiles words files steps stats = Listed words (request.Go steps stats files)

-- the same with one file
abbrev pub AsksWith : List (List ℕ) → (file : List ℕ) (steps : ℕ) (stats : Bool) → Type 0
AsksWith words file steps stats = AsksFiles words (file ∷ []) steps stats

abbrev pub Asks : List (List ℕ) → (file : List ℕ) (steps : ℕ) → Type 0
Asks words file steps = (stats : Bool) × AsksWith words file steps stats

-- `report` of these files, of at most so many instructions
abbrev pub AsksReport : List (List ℕ) → (files : List (List ℕ)) (steps : ℕ) → Type 0
AsksReport words files steps = Listed words (request.Report steps files)

-- `run` of this image, of at most so many instructions
abbrev pub AsksRun : List (List ℕ) → (image : List ℕ) (steps : ℕ) (stats : Bool) → Type 0
AsksRun words image steps stats = Listed words (request.Run steps stats image)

-- the files that a request reads
abbrev pub reads_of : Request → List (List ℕ)
reads_of (request.Build image files) = files
reads_of (request.Compile unit file) = file ∷ []
reads_of (request.Link image units) = units
reads_of (request.Run steps stats image) = image ∷ []
reads_of (request.Go steps stats files) = files
reads_of (request.Mean cost files) = files
reads_of (request.Report steps files) = files
reads_of (request.Demo count) = []

-- the file that it writes
abbrev pub writes_of : Request → Option (List ℕ)
writes_of (request.Build image files) = Some image
writes_of (request.Compile unit file) = Some unit
writes_of (request.Link image units) = Some image
writes_of (request.Run steps stats image) = None
writes_of (request.Go steps stats files) = None
writes_of (request.Mean cost files) = None
writes_of (request.Report steps files) = None
writes_of (request.Demo count) = None

-- it reads texts of C, which may include others
abbrev pub IsOfTexts : Request → Type 0
IsOfTexts (request.Build image files) = Unit {0}
IsOfTexts (request.Compile unit file) = Unit {0}
IsOfTexts (request.Link image units) = ⊥
IsOfTexts (request.Run steps stats image) = ⊥
IsOfTexts (request.Go steps stats files) = Unit {0}
IsOfTexts (request.Mean cost files) = Unit {0}
IsOfTexts (request.Report steps files) = Unit {0}
IsOfTexts (request.Demo count) = ⊥

-- it makes a program or a unit, and is no `go` with one file
abbrev pub IsOfUnits : Request → Type 0
IsOfUnits (request.Build image files) = Unit {0}
IsOfUnits (request.Compile unit file) = Unit {0}
IsOfUnits (request.Link image units) = Unit {0}
IsOfUnits (request.Run steps stats image) = ⊥
IsOfUnits (request.Go steps stats files) = length files ≢ 1
IsOfUnits (request.Mean cost files) = Unit {0}
IsOfUnits (request.Report steps files) = Unit {0}
IsOfUnits (request.Demo count) = Unit {0}

-- it makes a program, and is no `go` with one file
abbrev pub IsOfProgram : Request → Type 0
IsOfProgram (request.Build image files) = Unit {0}
IsOfProgram (request.Compile unit file) = ⊥
IsOfProgram (request.Link image units) = Unit {0}
IsOfProgram (request.Run steps stats image) = ⊥
IsOfProgram (request.Go steps stats files) = length files ≢ 1
IsOfProgram (request.Mean cost files) = Unit {0}
IsOfProgram (request.Report steps files) = Unit {0}
IsOfProgram (request.Demo count) = Unit {0}

abbrev pub AsksUnits : List (List ℕ) → Type 0
AsksUnits words = (asked : Request) × Listed words asked × IsOfUnits asked

-- its program takes from the input: a run of an image, of files that are no one file, of a meaning, or one that is reported
abbrev pub TakesInput : Request → Type 0
TakesInput (request.Build image files) = ⊥
TakesInput (request.Compile unit file) = ⊥
TakesInput (request.Link image units) = ⊥
TakesInput (request.Run steps stats image) = Unit {0}
TakesInput (request.Go steps stats files) = length files ≢ 1
TakesInput (request.Mean cost files) = Unit {0}
TakesInput (request.Report steps files) = Unit {0}
TakesInput (request.Demo count) = ⊥

-- the file is one to be read
abbrev pub NamesToRead : List (List ℕ) → (file : List ℕ) → Type 0
NamesToRead words file = (asked : Request) × Listed words asked × Among file (reads_of asked)

-- the file is one of the units of `link`
abbrev pub AsksUnit : List (List ℕ) → (file : List ℕ) → Type 0
AsksUnit words file = (image : List ℕ) × (units : List (List ℕ)) × Listed words (request.Link image units) × Among file units

-- the file is one to be written
abbrev pub NamesToWrite : List (List ℕ) → (file : List ℕ) → Type 0
NamesToWrite words file = (asked : Request) × Listed words asked × (writes_of asked ≡ Some file)

-- a file that a text includes may be read besides, and the file that is written may fail
abbrev pub MayTouch : List (List ℕ) → (file : List ℕ) → Type 0
MayTouch words file = NamesToRead words file ⊎ (NamesToWrite words file ⊎ ((asked : Request) × Listed words asked × IsOfTexts asked))
