-- What a function value that reads a statement one node deeper is asked for: that it may be called.
use Rattle.std.specs.Prelude.{ℕ, Bool}
use Rattle.std.specs.declared.alloc.Global.{Global}
use denote.Ref.{MutBor}
use Rattle.c_scope.specs.declared.scope.Scope.{Scope}
use Rattle.c_check_statement.specs.declared.switching.Switches.{Switches}

pub record IsNested {A : Type 0} (room : ℕ) (pre : Global → MutBor Scope → MutBor Switches → ℕ → Bool → A → Type 0) : Type 0 where
  pub callable : (alloc : Global) (scope : MutBor Scope) (switches : MutBor Switches) (in_loop : Bool) (given : A) → pre alloc scope switches room in_loop given
