-- Runs of steps, whatever states they go through: what a run writes, what it takes from its input, what it costs, how it ends.
use Rattle.std.specs.Prelude.{◌≡◌, ℕ, zero, suc, ◌+◌, ◌-◌, ◌≤◌, ◌<◌, nat_le, if◌then◌else◌, List, [], ◌∷◌, ◌++◌, drop, Option, Some, None}
use Rattle.fsc_base.specs.declared.end.End.{End}

-- What a step does. It goes on, at a cost of 1 and so much besides; it puts a byte; it takes the next byte of the input, or None
-- at its end; it ends the run.
pub data Action (S : Type 0) : Type 0 where
  Steps : (besides : ℕ) → S → Action S
  Puts : (byte : ℕ) → S → Action S
  Takes : (Option ℕ → S) → Action S
  Stops : End → Action S

-- The state after the most steps whose costs add up to at most a number; what these steps cost and wrote, what they left of
-- the input, and the end, where it has come.
pub record At (S : Type 0) : Type 0 where
  pub state : S
  pub cost : ℕ
  pub written : List ℕ
  pub left : List ℕ
  pub end : Option End

-- no step yet
abbrev pub resting : {S : Type 0} → S → (input : List ℕ) → At S
resting s input = record { state = s; cost = 0; written = []; left = input; end = None }

-- the last step, which changes nothing
abbrev pub ended : {S : Type 0} → S → (input : List ℕ) → End → At S
ended s input end = record { state = s; cost = 1; written = []; left = input; end = Some end }

-- a run with a step before it that cost so much and wrote these bytes
abbrev pub after : {S : Type 0} → (cost : ℕ) → (bytes : List ℕ) → At S → At S
after cost bytes run = record run { cost = cost + run.cost; written = bytes ++ run.written }

abbrev pub first_of : List ℕ → Option ℕ
first_of [] = None
first_of (byte ∷ bytes) = Some byte

-- one step, if it may cost so much in all, and then the rest of the run at what is left
abbrev pub goes_on : {S : Type 0} → (budget : ℕ) → S → (input : List ℕ) → (ℕ → S → List ℕ → At S) → Action S → At S
goes_on zero s input rest action = resting s input
goes_on (suc budget) s input rest (Steps besides t) =
    if nat_le besides budget then after (1 + besides) [] (rest (budget - besides) t input) else resting s input
goes_on (suc budget) s input rest (Puts byte t) = after 1 (byte ∷ []) (rest budget t input)
goes_on (suc budget) s input rest (Takes t) = after 1 [] (rest budget (t (first_of input)) (drop 1 input))
goes_on (suc budget) s input rest (Stops end) = ended s input end

-- at most so many steps
unfoldable pub run_by : {S : Type 0} → (steps : ℕ) → (S → Action S) → (budget : ℕ) → S → (input : List ℕ) → At S
run_by zero act budget s input = resting s input
run_by (suc n) act budget s input = goes_on budget s input (run_by n act) (act s)

-- each step costs at least 1, so the budget bounds their number too
abbrev pub run_of : {S : Type 0} → (S → Action S) → (budget : ℕ) → S → (input : List ℕ) → At S
run_of act budget s input = run_by budget act budget s input

-- ---- laws

-- the steps cost no more than the budget
abbrev pub CostsWithin : (S : Type 0) → Type 0
CostsWithin S = (act : S → Action S) (budget : ℕ) (s : S) (input : List ℕ) → (run_of act budget s input).cost ≤ budget

-- an ended run stays as it is
abbrev pub EndStays : (S : Type 0) → Type 0
EndStays S = (act : S → Action S) (budget more : ℕ) (s : S) (input : List ℕ) (end : End)
    → (run_of act budget s input).end ≡ Some end → run_of act (budget + more) s input ≡ run_of act budget s input

-- a run, and then another from where it stands
abbrev pub joined : {S : Type 0} → At S → At S → At S
joined run rest = record rest { cost = run.cost + rest.cost; written = run.written ++ rest.written }

-- one that has not ended goes on where it stands, with what it did not use
abbrev pub continued : {S : Type 0} → (S → Action S) → (budget : ℕ) → At S → At S
continued act budget run = joined run (run_of act (budget - run.cost) run.state run.left)

abbrev pub GoesOn : (S : Type 0) → Type 0
GoesOn S = (act : S → Action S) (budget more : ℕ) (s : S) (input : List ℕ) → (run_of act budget s input).end ≡ None
    → run_of act (budget + more) s input ≡ continued act (budget + more) (run_of act budget s input)

-- A budget may be cut at what the run cost.
abbrev pub CutsAtCost : (S : Type 0) → Type 0
CutsAtCost S = (act : S → Action S) (budget : ℕ) (s : S) (input : List ℕ)
    → run_of act (run_of act budget s input).cost s input ≡ run_of act budget s input
