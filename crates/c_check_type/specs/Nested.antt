-- What a function value that reads what lies deeper is asked for: that it may be called.
use Rattle.std.specs.Prelude.{ℕ, Bool}
use Rattle.std.specs.declared.alloc.Global.{Global}
use denote.Ref.{MutBor}
use Rattle.c_scope.specs.declared.scope.Scope.{Scope}

pub record IsNested {A : Type 0} (room : ℕ) (pre : Global → MutBor Scope → ℕ → A → Type 0) : Type 0 where
  pub callable : (alloc : Global) (scope : MutBor Scope) (part : A) → pre alloc scope room part

-- the same with whether ... ends a list
pub record IsNestedList {A : Type 0} (room : ℕ) (pre : Global → MutBor Scope → ℕ → A → Bool → Type 0) : Type 0 where
  pub callable_list : (alloc : Global) (scope : MutBor Scope) (list : A) (is_variadic : Bool) → pre alloc scope room list is_variadic
