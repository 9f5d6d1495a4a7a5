-- Which calls of an object in memory fail.
use Rattle.std.specs.Prelude.{ℕ, Bool, List, ◌==◌, refl}
use Rattle.std.specs.Coded.{Coded, code_by, coded×, coded_ℕ, coded_list}
use Rattle.std.specs.List.{list_any}
use Rattle.fsc_outside.specs.Counts.{one_more}

-- the numbers of the calls that fail, how many calls were made so far, and how many of these failed
pub record Plan : Type 0 where
  pub fail : List ℕ
  pub made : ℕ
  pub faults : ℕ

-- a plan is stored as its fields
abbrev pub plan_code : Coded Plan
plan_code =
    code_by (List ℕ × (ℕ × ℕ)) (coded× (coded_list coded_ℕ) (coded× coded_ℕ coded_ℕ)) (λ p. (p.fail, (p.made, p.faults)))
    (λ t. record { fail = t.0; made = t.1.0; faults = t.1.1 }) (λ _. refl)

-- no call was made yet
abbrev pub unused : List ℕ → Plan
unused fail = record { fail = fail; made = 0; faults = 0 }

-- whether the next call fails; the first has the number 1
abbrev pub fails_next : Plan → Bool
fails_next plan = list_any (λ number. number == one_more plan.made) plan.fail

-- the plan after one more call
abbrev pub with_call : Plan → Plan
with_call plan = record plan { made = one_more plan.made }

-- the plan after one more fault
abbrev pub with_fault : Plan → Plan
with_fault plan = record plan { faults = one_more plan.faults }
