-- What the run of a program does that writes bytes and then exits, from the states that it passes.
use Rattle.std.proofs.Common.{◌≡◌, ◌≢◌, ℕ, suc, ◌+◌, ◌*◌, ◌-◌, ◌<◌, ◌≤◌, ◌⊎◌, inl, inr, List, [], ◌++◌, length, take, drop, refl, sym, ap, subst, ◌∙◌, arith}
use Rattle.std.proofs.lemmas.Bool.{cases_lt}
use Rattle.std.proofs.lemmas.List.{append-nil, length-append, length-take-le, take_all}
use Rattle.std.proofs.Math.Seq.{take-append_seam}
use Rattle.rv_run.specs.declared.stop.Stop.{Stop}
use Rattle.rv_run.specs.declared.stop.Stop.TheVariants.{Exit, Steps}
use Rattle.rv_run.specs.Machine.{State, Exits, action_of}
use Rattle.rv_run.specs.ImageRun.{ImageRun, image_run, asking_first, writing_first, Leads}
use Rattle.rv_run.proofs.Composing.{leads-run, leads-run_on, leads-stop, run-goes_on, run-left, run-written}
use Rattle.plain_image.specs.Writing.{Writes}

-- so many instructions lead from a state to another and write these bytes, and ask the input for nothing
abbrev pub Leaps : (n : ℕ) (s t : State) (written : List ℕ) → Type 0
Leaps n s t written = (input : List ℕ) → Leads n s input t input written 0

-- The program writes its bytes and then exits: all of it takes so many instructions, and the bytes up to each have their time.
pub record IsWriter (bytes : List ℕ) (status : ℕ) (s : State) : Type 0 where
  pub last : State
  pub total : ℕ
  pub short : total + 1 ≤ 64 * (length bytes + 2)
  pub leads : Leaps total s last bytes
  pub exits : action_of last ≡ Exits status
  pub in_time : (j : ℕ) → j ≤ length bytes → (n : ℕ) × (n ≤ 64 * (j + 1)) × ((t : State) × Leaps n s t (take j bytes))

-- a front of a list is that many of it
front_of : (front more all : List ℕ) → all ≡ front ++ more → front ≡ take (length front) all
front_of front more all h = rw (h, take-append_seam front more) refl

-- what is written by then stays
written_by_then : (s t : State) (bytes input : List ℕ) (j k n : ℕ) → j ≤ length bytes → k ≤ n → Leads k s input t input (take j bytes) 0 → j ≤ length (image_run n s input).written
written_by_then s t bytes input j k n within le h =
    let m = n - k in
    let all : n ≡ k + m = omega arith in
    let more = run-written k m s input in
    let front : (image_run k s input).written ≡ take j bytes = ap (λ (r : ImageRun). r.written) h.run in
    let long : length (image_run n s input).written ≡ length (take j bytes ++ more.0) =
    ap (λ (i : ℕ). length (image_run i s input).written) all ∙ ap length more.1 ∙ ap (λ (l : List ℕ). length (l ++ more.0)) front in
    omega (arith, length-append (take j bytes) more.0, length-take-le j bytes within)

-- before its exit
early : (bytes : List ℕ) (status : ℕ) (s last : State) (n m total : ℕ) (input : List ℕ) → total ≡ n + m → total + 1 ≤ 64 * (length bytes + 2) → Leads total s input last input bytes 0
    → ((j : ℕ) → j ≤ length bytes → 64 * (j + 1) ≤ n → j ≤ length (image_run n s input).written) → Writes bytes status n input (image_run n s input)
early bytes status s last n m total input all short h keeps_up =
    let run = image_run n s input in
    let whole : Leads (n + m) s input last input bytes 0 = subst (λ (k : ℕ). Leads k s input last input bytes 0) all h in
    let going : run.stop ≡ Steps = run-goes_on n m s input (leads-stop whole) in
    let more = run-written n m s input in
    let said : bytes ≡ run.written ++ more.0 = sym (ap (λ (r : ImageRun). r.written) whole.run) ∙ more.1 in
    let sum : 0 ≡ run.asked + (image_run m run.machine run.left).asked =
    sym (ap (λ (r : ImageRun). r.asked) whole.run) ∙ ap (λ (r : ImageRun). r.asked) (leads-run_on (leads-run n s input going) m) in
    let none : run.asked ≡ 0 = omega arith in
    record {
      front = front_of run.written more.0 bytes said;
      ends = inl going;
      in_time = λ enough. absurd (omega arith);
      keeps_up = keeps_up;
      asks = none;
      keeps = run-left n s input ∙ ap (λ (k : ℕ). drop k input) none;
    }

-- once it has exited
exit_run : (status m : ℕ) (s : State) (input : List ℕ) → action_of s ≡ Exits status
    → ((image_run (suc m) s input).stop ≡ Exit status) × ((image_run (suc m) s input).written ≡ []) × ((image_run (suc m) s input).left ≡ input) × ((image_run (suc m) s input).asked ≡ 0)
unfolding image_run
exit_run status m s input acts = rw acts (refl, refl, refl, refl)

late : (bytes : List ℕ) (status : ℕ) (s last : State) (n m total : ℕ) (input : List ℕ) → n ≡ total + suc m → Leads total s input last input bytes 0 → action_of last ≡ Exits status
    → Writes bytes status n input (image_run n s input)
late bytes status s last n m total input all h acts =
    let end = exit_run status m last input acts in
    let rest = image_run (suc m) last input in
    let is : image_run n s input ≡ asking_first 0 (writing_first bytes rest) = ap (λ (k : ℕ). image_run k s input) all ∙ leads-run_on h (suc m) in
    let wrote : (image_run n s input).written ≡ bytes = ap (λ (r : ImageRun). r.written) is ∙ ap (λ (l : List ℕ). bytes ++ l) end.1 ∙ append-nil bytes in
    let stops : (image_run n s input).stop ≡ Exit status = ap (λ (r : ImageRun). r.stop) is ∙ end.0 in
    let asked : (image_run n s input).asked ≡ 0 = ap (λ (r : ImageRun). r.asked) is ∙ omega (arith, end.3) in
    record {
      front = wrote ∙ sym (ap (λ (l : List ℕ). take (length l) bytes) wrote ∙ take_all (length bytes) bytes (omega arith));
      ends = inr (stops, wrote);
      in_time = λ enough still. cc;
      keeps_up = λ j within enough. omega (arith, ap length wrote);
      asks = asked;
      keeps = ap (λ (r : ImageRun). r.left) is ∙ end.2;
    }

-- at every bound, over every input
pub writer_writes : (bytes : List ℕ) (status : ℕ) (s : State) → IsWriter bytes status s → (n : ℕ) (input : List ℕ) → Writes bytes status n input (image_run n s input)
writer_writes bytes status s is n input =
    elim (cases_lt is.total n) [
      | inl past ↦
          let all : n ≡ is.total + suc (n - is.total - 1) = omega arith in
          late bytes status s is.last n (n - is.total - 1) is.total input all (is.leads input) is.exits
      | inr before ↦
          let all : is.total ≡ n + (is.total - n) = omega arith in
          early bytes status s is.last n (is.total - n) is.total input all is.short (is.leads input) (λ j within enough.
          let by = is.in_time j within in
          written_by_then s by.2.0 bytes input j by.0 n within (omega (arith, by.1)) (by.2.1 input))
    ]
