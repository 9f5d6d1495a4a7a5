-- Levels and their ranks.
use Rattle.std.proofs.Common.{◌≡◌, refl, sym, ap, ◌∙◌, subst, ◌⊎◌, inl, inr, ℕ, suc, zero, ◌+◌, ◌-◌, ◌≤◌, List, Bool, arith}
use Rattle.cpp_cond.specs.declared.operator.Binary.{Binary}
use Rattle.cpp_cond.specs.declared.operator.Binary.TheVariants as binary
use Rattle.cpp_cond.specs.declared.operator.Level.{Level}
use Rattle.cpp_cond.specs.declared.operator.Level.TheVariants as level
use Rattle.cpp_cond.specs.declared.term.Term.{Term}
use Rattle.cpp_cond.specs.declared.value.Value.{Value}
use Rattle.cpp_cond.specs.Expressions.{Computes, level_of, tighter}
use Rattle.cpp_cond.specs.Reading.{rank}

pub binary_rank : (operator : Binary) → (4 ≤ rank (level_of operator)) × (rank (level_of operator) ≤ 11)
binary_rank binary.Multiply = (omega arith, omega arith)
binary_rank binary.Divide = (omega arith, omega arith)
binary_rank binary.Remainder = (omega arith, omega arith)
binary_rank binary.Add = (omega arith, omega arith)
binary_rank binary.Subtract = (omega arith, omega arith)
binary_rank binary.ShiftLeft = (omega arith, omega arith)
binary_rank binary.ShiftRight = (omega arith, omega arith)
binary_rank binary.Less = (omega arith, omega arith)
binary_rank binary.Greater = (omega arith, omega arith)
binary_rank binary.NotGreater = (omega arith, omega arith)
binary_rank binary.NotLess = (omega arith, omega arith)
binary_rank binary.Equal = (omega arith, omega arith)
binary_rank binary.Unequal = (omega arith, omega arith)
binary_rank binary.And = (omega arith, omega arith)
binary_rank binary.ExclusiveOr = (omega arith, omega arith)
binary_rank binary.Or = (omega arith, omega arith)

pub most_rank : (l : Level) → rank l ≤ 12
most_rank level.Enclosing = omega arith
most_rank level.Conditional = omega arith
most_rank level.LogicalOr = omega arith
most_rank level.LogicalAnd = omega arith
most_rank level.Or = omega arith
most_rank level.ExclusiveOr = omega arith
most_rank level.And = omega arith
most_rank level.Equality = omega arith
most_rank level.Relational = omega arith
most_rank level.Shift = omega arith
most_rank level.Additive = omega arith
most_rank level.Multiplicative = omega arith
most_rank level.Unary = omega arith

-- one tighter, but for the tightest
pub tighter_rank : (l : Level) → (rank (tighter l) ≡ rank l + 1) ⊎ ((rank l ≡ 12) × (rank (tighter l) ≡ 12))
tighter_rank level.Enclosing = inl refl
tighter_rank level.Conditional = inl refl
tighter_rank level.LogicalOr = inl refl
tighter_rank level.LogicalAnd = inl refl
tighter_rank level.Or = inl refl
tighter_rank level.ExclusiveOr = inl refl
tighter_rank level.And = inl refl
tighter_rank level.Equality = inl refl
tighter_rank level.Relational = inl refl
tighter_rank level.Shift = inl refl
tighter_rank level.Additive = inl refl
tighter_rank level.Multiplicative = inl refl
tighter_rank level.Unary = inr (refl, refl)

abbrev level_at : ℕ → Level
level_at zero = level.Enclosing
level_at (suc zero) = level.Conditional
level_at (suc (suc zero)) = level.LogicalOr
level_at (suc (suc (suc zero))) = level.LogicalAnd
level_at (suc (suc (suc (suc zero)))) = level.Or
level_at (suc (suc (suc (suc (suc zero))))) = level.ExclusiveOr
level_at (suc (suc (suc (suc (suc (suc zero)))))) = level.And
level_at (suc (suc (suc (suc (suc (suc (suc zero))))))) = level.Equality
level_at (suc (suc (suc (suc (suc (suc (suc (suc zero)))))))) = level.Relational
level_at (suc (suc (suc (suc (suc (suc (suc (suc (suc zero))))))))) = level.Shift
level_at (suc (suc (suc (suc (suc (suc (suc (suc (suc (suc zero)))))))))) = level.Additive
level_at (suc (suc (suc (suc (suc (suc (suc (suc (suc (suc (suc zero))))))))))) = level.Multiplicative
level_at (suc (suc (suc (suc (suc (suc (suc (suc (suc (suc (suc (suc n)))))))))))) = level.Unary

at_rank : (l : Level) → level_at (rank l) ≡ l
at_rank level.Enclosing = refl
at_rank level.Conditional = refl
at_rank level.LogicalOr = refl
at_rank level.LogicalAnd = refl
at_rank level.Or = refl
at_rank level.ExclusiveOr = refl
at_rank level.And = refl
at_rank level.Equality = refl
at_rank level.Relational = refl
at_rank level.Shift = refl
at_rank level.Additive = refl
at_rank level.Multiplicative = refl
at_rank level.Unary = refl

looser_one : (n : ℕ) (live : Bool) (loose tight : Level) (terms : List Term) (value : Value) → (rank (tighter loose) ≡ rank loose + 1) ⊎ ((rank loose ≡ 12) × (rank (tighter loose) ≡ 12))
    → rank tight ≡ suc n + rank loose → (rank tight ≡ n + rank (tighter loose) → Computes live (tighter loose) terms value) → Computes live loose terms value
looser_one n live loose tight terms value (inl one) more from = Computes.looser live loose terms value (from (omega (arith, one)))
looser_one n live loose tight terms value (inr (is, same)) more from = absurd (let most = most_rank tight in omega (arith, is, most))

looser_by : (n : ℕ) (live : Bool) (loose tight : Level) (terms : List Term) (value : Value) → rank tight ≡ n + rank loose → Computes live tight terms value → Computes live loose terms value
looser_by zero live loose tight terms value same computes =
    subst (λ (l : Level). Computes live l terms value) (sym (at_rank tight) ∙ (ap level_at (omega (arith, same)) ∙ at_rank loose)) computes
looser_by (suc n) live loose tight terms value more computes =
    looser_one n live loose tight terms value (tighter_rank loose) more (λ is. looser_by n live (tighter loose) tight terms value is computes)

-- an expression of a level is one of each looser level
pub as_loose : (live : Bool) (loose tight : Level) (terms : List Term) (value : Value) → rank loose ≤ rank tight → Computes live tight terms value → Computes live loose terms value
as_loose live loose tight terms value le computes = looser_by (rank tight - rank loose) live loose tight terms value (omega arith) computes
