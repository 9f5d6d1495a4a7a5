-- The run of the image of a program.
use Rattle.std.proofs.Common.{◌≡◌, ℕ, ◌⊎◌, inl, inr, List, Bool, Option, subst, sym}
use Rattle.fsc_base.specs.declared.image.Image.{Image}
use Rattle.fsc_outside.specs.Streams.{Appends, AppendsFront}
use Rattle.rv_run.specs.declared.stop.Stop.{Stop}
use Rattle.rv_run.specs.declared.stop.Stop.TheVariants as stop
use Rattle.rv_run.specs.declared.stop.TrapKind.{TrapKind}
use Rattle.rv_run.specs.Machine.{State, start_of}
use Rattle.rv_run.specs.ImageRun.{ImageRun, Streams, image_run, given_of, Runs}
use Rattle.rv_run.proofs.Running.{known_unasked}
use Rattle.plain_text.specs.declared.program.Program.{Program}
use Rattle.plain_image.specs.Writing.{Writes}
use Rattle.fsc_ending.specs.declared.ending.Ending.{Ending}
use Rattle.fsc_ending.specs.declared.ending.Ending.TheVariants.{Exited, StepsUsed, ReadFault, WriteFault, NoMemory}
use Rattle.fsc_ending.specs.Ending.{ending_of}
use Rattle.fsc_run.specs.Running.{RanFrom}
use Rattle.fsc_commands.specs.Going.{IsImageOf}

-- every run of the image writes these bytes and exits so
abbrev pub RunsWrite : (bytes : List ℕ) (status : ℕ) → Image → Type 0
RunsWrite bytes status image = (n : ℕ) (input : List ℕ) → Writes bytes status n input (image_run n (start_of image) input)

pub unasked : (bytes : List ℕ) (status : ℕ) (image : Image) (s : State) (steps : ℕ) (given : List ℕ) → s ≡ start_of image → RunsWrite bytes status image
    → (image_run steps s given).asked ≡ 0
unasked bytes status image s steps given starts writes =
    subst (λ (t : State). (image_run steps t given).asked ≡ 0) (sym starts) (writes steps given).asks

-- What the run of such an image may answer: its exit with all bytes written, its bound with those that it wrote, or a
-- refusal of the output or of memory behind a front of them.
pub data Answers (run : ImageRun) (steps : ℕ) (ending : Ending) (before after : Option (List ℕ)) : Type 0 where
  exits : (status : ℕ) → ending ≡ Exited status → run.stop ≡ stop.Exit status → Appends before after run.written → Answers run steps ending before after
  bound : ending ≡ StepsUsed steps → run.stop ≡ stop.Steps → Appends before after run.written → Answers run steps ending before after
  cut : (ending ≡ WriteFault) ⊎ (ending ≡ NoMemory) → AppendsFront before after run.written → Answers run steps ending before after

no_stop_call : (run : ImageRun) (bytes : List ℕ) (kind block offset width status : ℕ) → stop.StopCall kind block offset width ≡ run.stop
    → (run.stop ≡ stop.Steps) ⊎ ((run.stop ≡ stop.Exit status) × (run.written ≡ bytes)) → ⊥
no_stop_call run bytes kind block offset width status is (inl steps) = cc
no_stop_call run bytes kind block offset width status is (inr exited) = let exit : run.stop ≡ stop.Exit status = exited.0 in cc

no_trap : (run : ImageRun) (bytes : List ℕ) (kind : TrapKind) (pc status : ℕ) → stop.Trap kind pc ≡ run.stop
    → (run.stop ≡ stop.Steps) ⊎ ((run.stop ≡ stop.Exit status) × (run.written ≡ bytes)) → ⊥
no_trap run bytes kind pc status is (inl steps) = cc
no_trap run bytes kind pc status is (inr exited) = let exit : run.stop ≡ stop.Exit status = exited.0 in cc

answers_of : (run : ImageRun) (steps : ℕ) (ending : Ending) (stopped : Stop) (machine : State) (bytes : List ℕ) (status : ℕ) (before after : Streams)
    → (run.stop ≡ stop.Steps) ⊎ ((run.stop ≡ stop.Exit status) × (run.written ≡ bytes)) → ending ≡ ending_of steps stopped → Runs run stopped machine before after
    → (ending ≡ ReadFault → ⊥) → Answers run steps ending before.written after.written
answers_of run steps ending (stop.Exit said) machine bytes status before after ends is runs unread = exits said is (sym runs.0) runs.2
answers_of run steps ending stop.Steps machine bytes status before after ends is runs unread = bound is (sym runs.0) runs.2
answers_of run steps ending (stop.StopCall kind block offset width) machine bytes status before after ends is runs unread =
    absurd (no_stop_call run bytes kind block offset width status runs.0 ends)
answers_of run steps ending (stop.Trap kind pc) machine bytes status before after ends is runs unread = absurd (no_trap run bytes kind pc status runs.0 ends)
answers_of run steps ending stop.ReadFault machine bytes status before after ends is runs unread = absurd (unread is)
answers_of run steps ending stop.WriteFault machine bytes status before after ends is runs unread = cut (inl is) runs
answers_of run steps ending stop.NoMemory machine bytes status before after ends is runs unread = cut (inr is) runs

-- the answer of the run of a program's image
pub answers : (program : Program) (image : Image) (steps : ℕ) (stats : Bool) (ending : Ending) (marks : Option ℕ) (before after : Streams) → IsImageOf program image
    → RanFrom (start_of image) steps stats ending marks before after → (ending ≡ ReadFault → ⊥)
    → Answers (image_run steps (start_of image) (given_of before.left)) steps ending before.written after.written
answers program image steps stats ending marks before after writes run unread =
    let given = given_of before.left in
    let said = writes steps given in
    answers_of (image_run steps (start_of image) given) steps ending run.stopped run.machine program.bytes program.status before after said.ends run.answer
    (run.runs given (known_unasked before.left _ said.asks)) unread
