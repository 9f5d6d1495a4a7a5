-- What a function value that reads one level deeper is asked for: that it may be called, whatever is read.
use Rattle.std.specs.Prelude.{ℕ}
use Rattle.std.specs.declared.alloc.Global.{Global}
use denote.Ref.{MutBor}
use Rattle.c_scope.specs.declared.scope.Scope.{Scope}

pub record IsNested {A : Type 0} (room : ℕ) (pre : Global → MutBor Scope → ℕ → A → Type 0) : Type 0 where
  pub callable : (alloc : Global) (scope : MutBor Scope) (part : A) → pre alloc scope room part
