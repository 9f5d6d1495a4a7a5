-- Files by name, of an object that tells what it holds. One that doesn't is None, of which nothing is said.
use Rattle.std.specs.Prelude.{◌≡◌, ◌≢◌, ℕ, List, Option, Some, None, IsSomeAnd}
use Rattle.std.specs.Ordering.{nat_cmp}
use Rattle.std.specs.Cmp.Lexicographic.{slice_cmp}
use Rattle.std.specs.FinMap as map
use Rattle.std.specs.Coded.{Coded, coded_ℕ, coded_list}
use Rattle.fsc_outside.specs.declared.files.Got.{Got}
use Rattle.fsc_outside.specs.declared.files.Got.TheVariants as got

-- from names to the bytes of the file
abbrev pub FileMap : Type 0
FileMap = map.FinMap (slice_cmp nat_cmp) (List ℕ)

-- it is stored as its entries
abbrev pub file_map_code : Coded FileMap
file_map_code = map.code (coded_list coded_ℕ) (coded_list coded_ℕ)

-- the bytes of a file, where there is one
abbrev pub file_of : FileMap → List ℕ → Option (List ℕ)
file_of files name = map.get files name

-- the file has these bytes, or none where that is None
abbrev pub Holds : Option FileMap → List ℕ → Option (List ℕ) → Type 0
Holds None name bytes = Unit {0}
Holds (Some files) name bytes = file_of files name ≡ bytes

-- the files are as before, and this one has these bytes
abbrev pub Replaces : Option FileMap → Option FileMap → List ℕ → List ℕ → Type 0
Replaces None new name bytes = Unit {0}
Replaces (Some files) new name bytes = new ≡ Some (map.insert files name bytes)

-- all files but this one are as before
abbrev pub KeepsOthers : Option FileMap → Option FileMap → List ℕ → Type 0
KeepsOthers None new name = Unit {0}
KeepsOthers (Some files) new name = IsSomeAnd new (λ (now : FileMap). (other : List ℕ) → other ≢ name → file_of now other ≡ file_of files other)

-- a fact on the bytes that were found
abbrev pub IfFound : Got → (List ℕ → Type 0) → Type 0
IfFound (got.Found bytes) P = P bytes
IfFound got.Absent P = Unit {0}
IfFound got.Failed P = Unit {0}
IfFound got.NoMemory P = Unit {0}
