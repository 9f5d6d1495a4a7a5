-- What a stream that tells its bytes has before and after a call. One that doesn't is None, of which nothing is said.
use Rattle.std.specs.Prelude.{◌≡◌, ℕ, ◌<◌, ◌≤◌, List, [], ◌++◌, length, take, Option, Some, None}
use Rattle.fsc_outside.specs.declared.sink.Gave.{Gave}
use Rattle.fsc_outside.specs.declared.sink.Gave.TheVariants as gave
use Rattle.fsc_outside.specs.declared.source.Took.{Took}
use Rattle.fsc_outside.specs.declared.source.Took.TheVariants as took

-- what was written before is followed by these bytes now
abbrev pub Appends : Option (List ℕ) → Option (List ℕ) → List ℕ → Type 0
Appends None new bytes = Unit {0}
Appends (Some written) new bytes = new ≡ Some (written ++ bytes)

-- what was written before is followed by a part from the front of these bytes now
abbrev pub AppendsFront : Option (List ℕ) → Option (List ℕ) → List ℕ → Type 0
AppendsFront old new bytes = (n : ℕ) × (n ≤ length bytes) × Appends old new (take n bytes)

-- the same, and the part is not all of them
abbrev pub AppendsPart : Option (List ℕ) → Option (List ℕ) → List ℕ → Type 0
AppendsPart old new bytes = (n : ℕ) × (n < length bytes) × Appends old new (take n bytes)

-- what was left before began with these bytes, and the rest is left now
abbrev pub Takes : Option (List ℕ) → Option (List ℕ) → List ℕ → Type 0
Takes None new bytes = Unit {0}
Takes (Some left) new bytes = (rest : List ℕ) × (left ≡ bytes ++ rest) × (new ≡ Some rest)

-- nothing is left
abbrev pub AtEnd : Option (List ℕ) → Type 0
AtEnd None = Unit {0}
AtEnd (Some left) = left ≡ []

-- the part of a piece that a sink took
abbrev pub given_of : Gave → List ℕ → List ℕ
given_of (gave.Moved n) piece = take n piece
given_of gave.Failed piece = []
given_of gave.NoMemory piece = []

-- the part of a buffer that a source filled
abbrev pub taken_of : Took → List ℕ → List ℕ
taken_of (took.Moved n) buffer = take n buffer
taken_of took.End buffer = []
taken_of took.Failed buffer = []

-- a fact on how many bytes were moved
abbrev pub IfGave : Gave → (ℕ → Type 0) → Type 0
IfGave (gave.Moved n) P = P n
IfGave gave.Failed P = Unit {0}
IfGave gave.NoMemory P = Unit {0}

abbrev pub IfTook : Took → (ℕ → Type 0) → Type 0
IfTook (took.Moved n) P = P n
IfTook took.End P = Unit {0}
IfTook took.Failed P = Unit {0}
