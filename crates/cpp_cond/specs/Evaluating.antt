-- What the functions that read an expression answer.
use Rattle.std.specs.Prelude.{◌≡◌, nat_lt, true, false, List, [], ◌∷◌, Option, Some, None, Result, Ok, Err}
use Rattle.cpp_cond.specs.declared.evaluation.Fault.{Fault}
use Rattle.cpp_cond.specs.declared.evaluation.Fault.TheVariants.{NoExpression, NoMemory}
use Rattle.cpp_cond.specs.declared.evaluation.Pending.{Pending}
use Rattle.cpp_cond.specs.declared.value.Value.{Value}
use Rattle.cpp_cond.specs.declared.operator.Level.{Level}
use Rattle.cpp_cond.specs.Reading.{Reading, rank, holds_at, completed, complete}

-- the innermost construct, if there is one, holds its operand less tightly than the level
abbrev pub IsHeld : Level → List Pending → Type 0
IsHeld level [] = Unit {0}
IsHeld level (innermost ∷ outer) = nat_lt (rank (holds_at innermost)) (rank level) ≡ true

-- the innermost construct was taken out, or there is none that holds its operand as tightly
abbrev pub Pops : Level → (old new : Reading) → Option Pending → Type 0
Pops level old new None = (new ≡ old) × IsHeld level old.pending
Pops level old new (Some innermost) = (old ≡ record new { pending = innermost ∷ new.pending }) × (nat_lt (rank (holds_at innermost)) (rank level) ≡ false)

-- the construct has this value with its last operand, or none
abbrev pub CompletesOne : Pending → Value → (old new : Reading) → Result Value Fault → Type 0
CompletesOne pending last old new (Ok value) = (completed old.live pending last ≡ Some (record { value = value; is_live = new.live })) × (new ≡ record old { live = new.live })
CompletesOne pending last old new (Err NoExpression) = completed old.live pending last ≡ None
CompletesOne pending last old new (Err NoMemory) = ⊥

-- the constructs were completed, or have no value
abbrev pub Completes : Level → Value → (old new : Reading) → Result Value Fault → Type 0
Completes level operand old new (Ok value) =
    (complete level old.pending old.live operand ≡ Some (record { value = value; live = new.live; pending = new.pending })) × (new.operand ≡ old.operand)
Completes level operand old new (Err NoExpression) = complete level old.pending old.live operand ≡ None
Completes level operand old new (Err NoMemory) = ⊥

-- what was read, as is said, or nothing where it can't be read
abbrev pub Steps : {X : Type 0} → Option Reading → (new : Reading) → Result X Fault → Type 0
Steps said new (Ok done) = said ≡ Some new
Steps said new (Err NoExpression) = said ≡ None
Steps said new (Err NoMemory) = Unit {0}

-- the value, as is said
abbrev pub IsValue : Option Value → Result Value Fault → Type 0
IsValue said (Ok value) = said ≡ Some value
IsValue said (Err NoExpression) = said ≡ None
IsValue said (Err NoMemory) = Unit {0}
