-- Runs one step at a time, and how runs compose.
use Rattle.std.proofs.Common.{◌≡◌, ℕ, zero, suc, ◌+◌, ◌-◌, ◌<◌, ◌≤◌, List, [], ◌∷◌, ◌++◌, drop, Option, Some, None, ◌⊎◌, inl, inr, refl, sym, ap, subst, ◌∙◌, append_assoc, add_assoc, zero-add, Bool, true, false, cond, leb, arith}
use Rattle.std.proofs.lemmas.Bool.{le-leb, lt-leb}
use Rattle.std.proofs.lemmas.Bool.Decides.{leb_tells}
use Rattle.fsc_base.specs.declared.end.End.{End}
use Rattle.c_ops.specs.Runs.{Action, Steps, Puts, Takes, Stops, At, resting, ended, after, joined, first_of, goes_on, run_by, run_of, continued}

-- a step goes on alike, if the rests of the run are alike within what is left
alike : {S : Type 0} (budget : ℕ) (s : S) (input : List ℕ) (one other : ℕ → S → List ℕ → At S) (action : Action S)
    → ((k : ℕ) (t : S) (i : List ℕ) → k ≤ budget → one k t i ≡ other k t i)
    → goes_on (suc budget) s input one action ≡ goes_on (suc budget) s input other action
alike budget s input one other (Steps besides t) same =
    ap (λ r. cond (leb besides budget) (after (1 + besides) [] r) (resting s input)) (same (budget - besides) t input (omega arith))
alike budget s input one other (Puts byte t) same = ap (after 1 (byte ∷ [])) (same budget t input (omega arith))
alike budget s input one other (Takes t) same = ap (after 1 []) (same budget (t (first_of input)) (drop 1 input) (omega arith))
alike budget s input one other (Stops end) same = refl

-- more steps than the budget make no difference
enough : {S : Type 0} (act : S → Action S) (n m budget : ℕ) (s : S) (input : List ℕ) → budget ≤ n → budget ≤ m
    → run_by n act budget s input ≡ run_by m act budget s input
unfolding run_by
enough act zero zero budget s input a b = refl
enough act zero (suc m) zero s input a b = refl
enough act (suc n) zero zero s input a b = refl
enough act (suc n) (suc m) zero s input a b = refl
enough act zero (suc m) (suc budget) s input a b = absurd (omega arith)
enough act (suc n) zero (suc budget) s input a b = absurd (omega arith)
enough act (suc n) (suc m) (suc budget) s input a b =
    alike budget s input (run_by n act) (run_by m act) (act s) (λ k t i h. enough act n m k t i (omega arith) (omega arith))

-- with nothing to spend there is no step
pub rests_at_zero : {S : Type 0} (act : S → Action S) (s : S) (input : List ℕ) → run_of act 0 s input ≡ resting s input
unfolding run_by
rests_at_zero act s input = refl

-- the first step of a run
pub steps_once : {S : Type 0} (act : S → Action S) (budget : ℕ) (s : S) (input : List ℕ) (action : Action S) → act s ≡ action
    → run_of act (suc budget) s input ≡ goes_on (suc budget) s input (run_of act) action
unfolding run_by
steps_once act budget s input action is =
    ap (goes_on (suc budget) s input (run_by budget act)) is
    ∙ alike budget s input (run_by budget act) (run_of act) action (λ k t i h. enough act budget k k t i h (omega arith))

pub goes_on_by : {S : Type 0} (act : S → Action S) (budget besides : ℕ) (s t : S) (input : List ℕ) → act s ≡ Steps besides t
    → besides ≤ budget → run_of act (suc budget) s input ≡ after (1 + besides) [] (run_of act (budget - besides) t input)
goes_on_by act budget besides s t input is within =
    steps_once act budget s input (Steps besides t) is
    ∙ ap (λ b. cond b (after (1 + besides) [] (run_of act (budget - besides) t input)) (resting s input)) (le-leb besides budget within)

pub waits : {S : Type 0} (act : S → Action S) (budget besides : ℕ) (s t : S) (input : List ℕ) → act s ≡ Steps besides t
    → budget < besides → run_of act (suc budget) s input ≡ resting s input
waits act budget besides s t input is short =
    steps_once act budget s input (Steps besides t) is
    ∙ ap (λ b. cond b (after (1 + besides) [] (run_of act (budget - besides) t input)) (resting s input)) (lt-leb besides budget short)

-- ---- the first step, as runs of every budget have it

-- It goes on at a cost, is too dear, or ends the run.
pub data First {S : Type 0} (act : S → Action S) (budget : ℕ) (s : S) (input : List ℕ) : Type 0 where
  moves : (cost left : ℕ) (bytes : List ℕ) (t : S) (rest : List ℕ) → 0 < cost → suc budget ≡ cost + left
      → ((k : ℕ) → run_of act (cost + k) s input ≡ after cost bytes (run_of act k t rest)) → First act budget s input
  rests : run_of act (suc budget) s input ≡ resting s input → First act budget s input
  ends : (end : End) → ((k : ℕ) → run_of act (suc k) s input ≡ ended s input end) → First act budget s input

same_budget : {S : Type 0} (act : S → Action S) (n m : ℕ) (s : S) (input : List ℕ) → n ≡ m → run_of act n s input ≡ run_of act m s input
same_budget act n m s input is = ap (λ k. run_of act k s input) is

moves_by : {S : Type 0} (act : S → Action S) (besides k : ℕ) (s t : S) (input : List ℕ) → act s ≡ Steps besides t
    → run_of act (1 + besides + k) s input ≡ after (1 + besides) [] (run_of act k t input)
moves_by act besides k s t input is =
    same_budget act (1 + besides + k) (suc (besides + k)) s input (omega arith)
    ∙ goes_on_by act (besides + k) besides s t input is (omega arith)
    ∙ ap (after (1 + besides) []) (same_budget act (besides + k - besides) k t input (omega arith))

by_action : {S : Type 0} (act : S → Action S) (budget : ℕ) (s : S) (input : List ℕ) (action : Action S) → act s ≡ action → First act budget s input
by_action act budget s input (Steps besides t) is =
    elim (leb_tells besides budget) [
      | inl h ↦ moves (1 + besides) (budget - besides) [] t input (omega arith) (let within = h.1 in omega arith) (λ k. moves_by act besides k s t input is)
      | inr h ↦ rests (waits act budget besides s t input is h.1)
    ]
by_action act budget s input (Puts byte t) is =
    moves 1 budget (byte ∷ []) t input (omega arith) (omega arith)
    (λ k. same_budget act (1 + k) (suc k) s input (omega arith) ∙ steps_once act k s input (Puts byte t) is)
by_action act budget s input (Takes t) is =
    moves 1 budget [] (t (first_of input)) (drop 1 input) (omega arith) (omega arith)
    (λ k. same_budget act (1 + k) (suc k) s input (omega arith) ∙ steps_once act k s input (Takes t) is)
by_action act budget s input (Stops end) is = ends end (λ k. steps_once act k s input (Stops end) is)

pub first_step : {S : Type 0} (act : S → Action S) (budget : ℕ) (s : S) (input : List ℕ) → First act budget s input
first_step act budget s input = by_action act budget s input (act s) refl

-- ---- what a run costs

first_within : {S : Type 0} (act : S → Action S) (n budget : ℕ) (s : S) (input : List ℕ) → suc budget ≤ suc n
    → ((k : ℕ) (t : S) (i : List ℕ) → k ≤ n → (run_of act k t i).cost ≤ k)
    → First act budget s input → (run_of act (suc budget) s input).cost ≤ suc budget
first_within act n budget s input room less (moves cost left bytes t rest some sum goes) =
    let rest_within = less left t rest (omega arith) in
    let said : (run_of act (suc budget) s input).cost ≡ cost + (run_of act left t rest).cost =
    ap (λ r. r.cost) (same_budget act (suc budget) (cost + left) s input sum ∙ goes left) in
    omega arith
first_within act n budget s input room less (rests is) = let said : (run_of act (suc budget) s input).cost ≡ 0 = ap (λ r. r.cost) is in omega arith
first_within act n budget s input room less (ends end is) = let said : (run_of act (suc budget) s input).cost ≡ 1 = ap (λ r. r.cost) (is budget) in omega arith

within_by : {S : Type 0} (act : S → Action S) (n budget : ℕ) (s : S) (input : List ℕ) → budget ≤ n → (run_of act budget s input).cost ≤ budget
within_by act n zero s input room = rw (rests_at_zero act s input) (omega arith)
within_by act zero (suc budget) s input room = absurd (omega arith)
within_by act (suc n) (suc budget) s input room =
    first_within act n budget s input room (λ k t i h. within_by act n k t i h) (first_step act budget s input)

pub costs_within : {S : Type 0} (act : S → Action S) (budget : ℕ) (s : S) (input : List ℕ) → (run_of act budget s input).cost ≤ budget
costs_within act budget s input = within_by act budget budget s input (omega arith)

-- ---- an ended run stays

none_is_no_end : {end : End} {A : Type 0} → (let none : Option End = None in none ≡ Some end) → A
none_is_no_end is = absurd cc

first_stays : {S : Type 0} (act : S → Action S) (n budget more : ℕ) (s : S) (input : List ℕ) (end : End) → suc budget ≤ suc n
    → ((k : ℕ) (t : S) (i : List ℕ) → k ≤ n → (run_of act k t i).end ≡ Some end → run_of act (k + more) t i ≡ run_of act k t i)
    → First act budget s input → (run_of act (suc budget) s input).end ≡ Some end → run_of act (suc budget + more) s input ≡ run_of act (suc budget) s input
first_stays act n budget more s input end room less (moves cost left bytes t rest some sum goes) said =
    let here = same_budget act (suc budget) (cost + left) s input sum ∙ goes left in
    let there : (run_of act left t rest).end ≡ Some end = sym (ap (λ r. r.end) here) ∙ said in
    same_budget act (suc budget + more) (cost + (left + more)) s input (omega arith) ∙ goes (left + more)
    ∙ ap (after cost bytes) (less left t rest (omega arith) there) ∙ sym here
first_stays act n budget more s input end room less (rests is) said = none_is_no_end (sym (ap (λ r. r.end) is) ∙ said)
first_stays act n budget more s input end room less (ends other is) said =
    same_budget act (suc budget + more) (suc (budget + more)) s input (omega arith) ∙ is (budget + more) ∙ sym (is budget)

stays_by : {S : Type 0} (act : S → Action S) (n budget more : ℕ) (s : S) (input : List ℕ) (end : End) → budget ≤ n
    → (run_of act budget s input).end ≡ Some end → run_of act (budget + more) s input ≡ run_of act budget s input
stays_by act n zero more s input end room said = none_is_no_end (sym (ap (λ r. r.end) (rests_at_zero act s input)) ∙ said)
stays_by act zero (suc budget) more s input end room said = absurd (omega arith)
stays_by act (suc n) (suc budget) more s input end room said =
    first_stays act n budget more s input end room (λ k t i h. stays_by act n k more t i end h) (first_step act budget s input) said

pub end_stays : {S : Type 0} (act : S → Action S) (budget more : ℕ) (s : S) (input : List ℕ) (end : End)
    → (run_of act budget s input).end ≡ Some end → run_of act (budget + more) s input ≡ run_of act budget s input
end_stays act budget more s input end said = stays_by act budget budget more s input end (omega arith) said

-- ---- a longer run goes on

joined_after : {S : Type 0} (cost : ℕ) (bytes : List ℕ) (run rest : At S) → after cost bytes (joined run rest) ≡ joined (after cost bytes run) rest
joined_after cost bytes run rest =
    ap (λ n. record rest { cost = n; written = bytes ++ (run.written ++ rest.written) }) (sym (add_assoc cost run.cost rest.cost))
    ∙ ap (λ w. record rest { cost = cost + run.cost + rest.cost; written = w }) (sym (append_assoc bytes run.written rest.written))

joined_resting : {S : Type 0} (s : S) (input : List ℕ) (rest : At S) → joined (resting s input) rest ≡ rest
joined_resting s input rest = ap (λ n. record rest { cost = n }) (zero-add rest.cost)

after_rest : {S : Type 0} (act : S → Action S) (budget : ℕ) (s : S) (input : List ℕ) → run_of act budget s input ≡ continued act budget (resting s input)
after_rest act budget s input =
    sym (joined_resting s input (run_of act budget s input)) ∙ ap (joined (resting s input)) (same_budget act budget (budget - 0) s input (omega arith))

first_goes_on : {S : Type 0} (act : S → Action S) (n budget more : ℕ) (s : S) (input : List ℕ) → suc budget ≤ suc n
    → ((k : ℕ) (t : S) (i : List ℕ) → k ≤ n → (run_of act k t i).end ≡ None → run_of act (k + more) t i ≡ continued act (k + more) (run_of act k t i))
    → First act budget s input → (run_of act (suc budget) s input).end ≡ None
    → run_of act (suc budget + more) s input ≡ continued act (suc budget + more) (run_of act (suc budget) s input)
first_goes_on act n budget more s input room less (moves cost left bytes t rest some sum goes) said =
    let run = run_of act left t rest in
    let here : run_of act (suc budget) s input ≡ after cost bytes run = same_budget act (suc budget) (cost + left) s input sum ∙ goes left in
    let there : run.end ≡ None = sym (ap (λ r. r.end) here) ∙ said in
    same_budget act (suc budget + more) (cost + (left + more)) s input (omega arith) ∙ goes (left + more)
    ∙ ap (after cost bytes) (less left t rest (omega arith) there)
    ∙ joined_after cost bytes run (run_of act (left + more - run.cost) run.state run.left)
    ∙ ap (joined (after cost bytes run)) (same_budget act (left + more - run.cost) (suc budget + more - (cost + run.cost)) run.state run.left (omega arith))
    ∙ ap (continued act (suc budget + more)) (sym here)
first_goes_on act n budget more s input room less (rests is) said =
    after_rest act (suc budget + more) s input ∙ ap (continued act (suc budget + more)) (sym is)
first_goes_on act n budget more s input room less (ends end is) said = none_is_no_end (sym said ∙ ap (λ r. r.end) (is budget))

goes_on_within : {S : Type 0} (act : S → Action S) (n budget more : ℕ) (s : S) (input : List ℕ) → budget ≤ n
    → (run_of act budget s input).end ≡ None → run_of act (budget + more) s input ≡ continued act (budget + more) (run_of act budget s input)
goes_on_within act n zero more s input room said =
    after_rest act (zero + more) s input ∙ ap (continued act (zero + more)) (sym (rests_at_zero act s input))
goes_on_within act zero (suc budget) more s input room said = absurd (omega arith)
goes_on_within act (suc n) (suc budget) more s input room said =
    first_goes_on act n budget more s input room (λ k t i h. goes_on_within act n k more t i h) (first_step act budget s input) said

pub longer_goes_on : {S : Type 0} (act : S → Action S) (budget more : ℕ) (s : S) (input : List ℕ) → (run_of act budget s input).end ≡ None
    → run_of act (budget + more) s input ≡ continued act (budget + more) (run_of act budget s input)
longer_goes_on act budget more s input said = goes_on_within act budget budget more s input (omega arith) said

-- ---- a budget cut at the cost

first_cut : {S : Type 0} (act : S → Action S) (n budget : ℕ) (s : S) (input : List ℕ) → suc budget ≤ suc n
    → ((k : ℕ) (t : S) (i : List ℕ) → k ≤ n → run_of act (run_of act k t i).cost t i ≡ run_of act k t i)
    → First act budget s input → run_of act (run_of act (suc budget) s input).cost s input ≡ run_of act (suc budget) s input
first_cut act n budget s input room less (moves cost left bytes t rest some sum goes) =
    let run = run_of act left t rest in
    let here : run_of act (suc budget) s input ≡ after cost bytes run = same_budget act (suc budget) (cost + left) s input sum ∙ goes left in
    same_budget act (run_of act (suc budget) s input).cost (cost + run.cost) s input (ap (λ r. r.cost) here) ∙ goes run.cost
    ∙ ap (after cost bytes) (less left t rest (omega arith)) ∙ sym here
first_cut act n budget s input room less (rests is) =
    same_budget act (run_of act (suc budget) s input).cost 0 s input (ap (λ r. r.cost) is) ∙ rests_at_zero act s input ∙ sym is
first_cut act n budget s input room less (ends end is) =
    same_budget act (run_of act (suc budget) s input).cost 1 s input (ap (λ r. r.cost) (is budget)) ∙ is 0 ∙ sym (is budget)

cut_by : {S : Type 0} (act : S → Action S) (n budget : ℕ) (s : S) (input : List ℕ) → budget ≤ n
    → run_of act (run_of act budget s input).cost s input ≡ run_of act budget s input
cut_by act n zero s input room = same_budget act (run_of act 0 s input).cost 0 s input (ap (λ r. r.cost) (rests_at_zero act s input))
cut_by act zero (suc budget) s input room = absurd (omega arith)
cut_by act (suc n) (suc budget) s input room = first_cut act n budget s input room (λ k t i h. cut_by act n k t i h) (first_step act budget s input)

pub cuts_at_cost : {S : Type 0} (act : S → Action S) (budget : ℕ) (s : S) (input : List ℕ)
    → run_of act (run_of act budget s input).cost s input ≡ run_of act budget s input
cuts_at_cost act budget s input = cut_by act budget budget s input (omega arith)
