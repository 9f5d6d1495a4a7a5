-- How many tokens a production takes.
use Rattle.std.specs.Prelude.{ℕ, ◌<◌, ◌≤◌, Result, Ok, Err, length}
use Rattle.std.specs.declared.alloc.Global.{Global}
use denote.Ref.{MutBor}
use Rattle.c_cursor.specs.declared.parser.Parser.{Parser}

-- one at least, where it answers something
abbrev pub Takes : {A E : Type 0} → Parser → Result A E → Parser → Type 0
Takes old (Ok a) new = length new.rest.now < length old.rest.now
Takes old (Err e) new = Unit {0}

-- any number, where it answers something
abbrev pub MayTake : {A E : Type 0} → Parser → Result A E → Parser → Type 0
MayTake old (Ok a) new = length new.rest.now ≤ length old.rest.now
MayTake old (Err e) new = Unit {0}

-- what is asked of a function value that reads what lies one node deeper: it may be called with that room, and then takes a token
pub record IsNested {G A E : Type 0} (room : ℕ) (pre : Global → MutBor Parser → ℕ → G → Type 0)
    (post : Global → MutBor Parser → ℕ → G → Result A E → MutBor Parser → Type 0) : Type 0 where
  pub callable : (alloc : Global) (old : MutBor Parser) (goal : G) → pre alloc old room goal
  pub takes : (alloc : Global) (old new : MutBor Parser) (goal : G) (r : Result A E) → post alloc old room goal r new → Takes old.now r new.now
