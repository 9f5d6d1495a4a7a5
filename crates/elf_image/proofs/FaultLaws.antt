-- The first fault of rows that are joined.
use Rattle.std.proofs.Common.{◌≡◌, Bool, true, false, cond, List, [], ◌∷◌, ◌++◌, Option, Some, None, refl}
use Rattle.elf_image.specs.declared.fault.ReadElfNo.{ReadElfNo}
use Rattle.elf_image.specs.declared.fault.ReadElfNo.TheVariants.{Bad}
use Rattle.elf_image.specs.Faults.{Row, first_fault}

cond_none : (holds : Bool) (fault : ReadElfNo) (rest : Option ReadElfNo) → cond holds (Some fault) rest ≡ None → (holds ≡ false) × (rest ≡ None)
cond_none true fault rest none = absurd cc
cond_none false fault rest none = (refl, none)

cond_some : (holds : Bool) (fault found : ReadElfNo) (rest more : Option ReadElfNo) → (rest ≡ Some found → more ≡ Some found) → cond holds (Some fault) rest ≡ Some found → cond holds (Some fault) more ≡ Some found
cond_some true fault found rest more step some = some
cond_some false fault found rest more step some = step some

-- where none of the first rows holds, the fault is that of the others
pub after_none : (a b : List Row) → first_fault a ≡ None → first_fault (a ++ b) ≡ first_fault b
after_none [] b none = refl
after_none (first ∷ rest) b none =
    let parts = cond_none first.holds (Bad first.fault first.offset) (first_fault rest) none in
    rw parts.0 (after_none rest b parts.1)

-- the others are not asked where one of the first rows holds
pub after_some : (a b : List Row) (found : ReadElfNo) → first_fault a ≡ Some found → first_fault (a ++ b) ≡ Some found
after_some [] b found some = absurd cc
after_some (first ∷ rest) b found some =
    cond_some first.holds (Bad first.fault first.offset) found (first_fault rest) (first_fault (rest ++ b)) (after_some rest b found) some

-- where no row holds, none of the first nor of the others does
pub none_parts : (a b : List Row) → first_fault (a ++ b) ≡ None → (first_fault a ≡ None) × (first_fault b ≡ None)
none_parts [] b none = (refl, none)
none_parts (first ∷ rest) b none =
    let parts = cond_none first.holds (Bad first.fault first.offset) (first_fault (rest ++ b)) none in
    let more = none_parts rest b parts.1 in
    (rw parts.0 more.0, more.1)
