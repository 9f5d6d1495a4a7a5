-- What is asked of a function value that reads what lies one node deeper.
use Rattle.std.specs.Prelude.{ℕ, Result}
use Rattle.std.specs.declared.alloc.Global.{Global}
use denote.Ref.{MutBor}
use Rattle.c_cursor.specs.declared.parser.Parser.{Parser}
use Rattle.c_cursor.specs.Taking.{Takes}

-- it may be called with that room, and then takes a token
pub record IsDeeper {A E : Type 0} (room : ℕ) (pre : Global → MutBor Parser → ℕ → Type 0)
    (post : Global → MutBor Parser → ℕ → Result A E → MutBor Parser → Type 0) : Type 0 where
  pub callable : (alloc : Global) (old : MutBor Parser) → pre alloc old room
  pub takes : (alloc : Global) (old new : MutBor Parser) (r : Result A E) → post alloc old room r new → Takes old.now r new.now
