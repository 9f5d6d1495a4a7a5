-- Tables of faults: rows in the order of the file, of which the first that holds counts.
use Rattle.std.specs.Prelude.{ℕ, ◌+◌, if◌then◌else◌, Bool, not, nat_lt, List, [], ◌∷◌, ◌++◌, Option, Some, None}
use Rattle.fat_code.specs.declared.fault.UnitFault.{UnitFault}
use Rattle.fat_code.specs.declared.fault.UnitFault.TheVariants.{Index, Limit}

-- a fault, whether it is there, and the offset that is told with it
pub record Row : Type 0 where
  pub fault : UnitFault
  pub holds : Bool
  pub offset : ℕ

abbrev pub row : UnitFault → Bool → ℕ → Row
row fault holds offset = record { fault = fault; holds = holds; offset = offset }

-- the fault of the first row that holds, and where
abbrev pub first_fault : List Row → Option (UnitFault × ℕ)
first_fault [] = None
first_fault (first ∷ rest) = if first.holds then Some (first.fault, first.offset) else first_fault rest

-- ---- common rows

-- an index names none of so many things
abbrev pub index_row : (index count at : ℕ) → Row
index_row index count at = row Index (not (nat_lt index count)) at

-- a number is above its limit
abbrev pub limit_row : (limit number at : ℕ) → Row
limit_row limit number at = row Limit (nat_lt limit number) at

-- ---- rows of a list

-- the rows of items, each of which has its index and its offset; the first stands at this offset
abbrev pub rows_from : {T : Type 0} → (rows : (index at : ℕ) → T → List Row) → (bytes : T → ℕ) → (index at : ℕ) → List T → List Row
rows_from rows bytes index at [] = []
rows_from rows bytes index at (item ∷ items) = rows index at item ++ rows_from rows bytes (index + 1) (at + bytes item) items

-- those of a list whose count stands at an offset
abbrev pub rows_of_list : {T : Type 0} → (rows : (index at : ℕ) → T → List Row) → (bytes : T → ℕ) → (at : ℕ) → List T → List Row
rows_of_list rows bytes at items = rows_from rows bytes 0 (at + 4) items
