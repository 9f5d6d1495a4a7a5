-- What a register holds once one was set.
use Rattle.std.proofs.Common.{◌≡◌, ◌≢◌, ℕ, zero, suc, ◌<◌, ◌^◌, eqb, false, List, length, get_or, set, refl, arith}
use Rattle.std.proofs.lemmas.Bool.{ne_eqb}
use Rattle.std.proofs.lemmas.List.{get_or-set_same, get_or-set_other}
use Rattle.rv_run.specs.Machine.{State, value_of, with_register}
use Rattle.rv_run.proofs.Moving.{SetsRegister, sets}

-- x0 is not set
pub with_register-zero : (s : State) (value : ℕ) → with_register s 0 value ≡ s
with_register-zero s value = refl

with_register-named : (s : State) (r value : ℕ) → 0 < r → with_register s r value ≡ record s { registers = set s.registers r value }
with_register-named s r value named =
    let e : eqb r 0 ≡ false = ne_eqb r 0 (λ (q : r ≡ 0). absurd (omega arith)) in rw e refl

-- the register that was set
pub value-with_register_same : (s : State) (r value : ℕ) → 0 < r → r < length s.registers → value_of (with_register s r value) r ≡ value
value-with_register_same s r value named within = rw (with_register-named s r value named) (get_or-set_same s.registers r value 0 within)

-- every other one
pub value-with_register_other : (s : State) (r value q : ℕ) → q ≢ r → value_of (with_register s r value) q ≡ value_of s q
value-with_register_other s zero value q other = refl
value-with_register_other s (suc r) value q other = rw (with_register-named s (suc r) value (omega arith)) (get_or-set_other s.registers (suc r) q value 0 other)

-- what stands beside the registers
pub with_register-beside : (s : State) (r value : ℕ) → SetsRegister (value < 2 ^ 32) s (with_register s r value)
with_register-beside s r value = sets (value < 2 ^ 32) s r value (λ h. h)
