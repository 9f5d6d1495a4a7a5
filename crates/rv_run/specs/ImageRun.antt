-- Runs: the machine's steps, one after another, what they take from the input and what they write.
use Rattle.std.specs.Prelude.{◌≡◌, ℕ, zero, suc, ◌+◌, ◌<◌, ◌≤◌, ◌⊎◌, List, [], ◌++◌, length, take, drop, Option, Some, None, Result, Ok, Err}
use Rattle.fsc_outside.specs.Streams.{Appends, AppendsFront}
use Rattle.rv_isa.specs.declared.inst.Inst.{Inst}
use Rattle.rv_run.specs.declared.stop.TrapKind.{TrapKind}
use Rattle.rv_run.specs.declared.stop.TrapKind.TheVariants as trap
use Rattle.rv_run.specs.declared.stop.Refusal.{Refusal}
use Rattle.rv_run.specs.declared.stop.Refusal.TheVariants as refusal
use Rattle.guest_mem.specs.declared.fault.StoreNo.{StoreNo}
use Rattle.guest_mem.specs.declared.fault.StoreNo.TheVariants as no
use Rattle.rv_run.specs.declared.stop.Step.{Step}
use Rattle.rv_run.specs.declared.stop.Step.TheVariants as step
use Rattle.rv_run.specs.declared.stop.Stop.{Stop}
use Rattle.rv_run.specs.declared.stop.Stop.TheVariants as stop
use Rattle.guest_mem.specs.Layout.{AreBytes}
use Rattle.guest_mem.specs.Filling.{TakesUpTo, TakesFront}
use Rattle.rv_run.specs.Machine.{State, Action, Goes, Takes, Exits, Stops, Traps, row, action_of, with_filled, counted}

-- ---- whole runs

-- A run of at most so many instructions: the state after it, what was written, what is left of the input, how many
-- bytes it asked the input for, and how it ended, which is Steps where all of them ran.
pub record ImageRun : Type 0 where
  pub machine : State
  pub written : List ℕ
  pub left : List ℕ
  pub asked : ℕ
  pub stop : Stop

-- the same with these bytes written before
abbrev pub writing_first : List ℕ → ImageRun → ImageRun
writing_first bytes run = record run { written = bytes ++ run.written }

-- the same with so many bytes asked for before
abbrev pub asking_first : ℕ → ImageRun → ImageRun
asking_first n run = record run { asked = n + run.asked }

-- a run that ends with the next instruction, which changes nothing and counts
abbrev pub ending : State → List ℕ → Stop → ImageRun
ending s input stop = record { machine = counted s; written = []; left = input; asked = 0; stop = stop }

-- the next instruction, and then the rest of the run
abbrev pub beginning : State → Action → (input : List ℕ) → (State → List ℕ → ImageRun) → ImageRun
beginning s (Goes bytes t) input rest = writing_first bytes (rest t input)
beginning s (Takes n t) input rest = asking_first n (rest (t (take n input)) (drop n input))
beginning s (Exits status) input rest = ending s input (stop.Exit status)
beginning s (Stops kind block offset width) input rest = ending s input (stop.StopCall kind block offset width)
beginning s (Traps kind) input rest = ending s input (stop.Trap kind s.pc)

unfoldable pub image_run : ℕ → State → (input : List ℕ) → ImageRun
image_run zero s input = record { machine = s; written = []; left = input; asked = 0; stop = stop.Steps }
image_run (suc n) s input = beginning s (action_of s) input (image_run n)

-- So many instructions lead from a state with an input to another with what is left of it, and none of them ends the run.
-- They write these bytes, and ask the input for so many.
pub record Leads (k : ℕ) (s : State) (input : List ℕ) (t : State) (left written : List ℕ) (asked : ℕ) : Type 0 where
  pub run : image_run k s input ≡ record { machine = t; written = written; left = left; asked = asked; stop = stop.Steps }

-- ---- how the program carries them out over a source and a sink

-- what the source has left, and what the sink holds, where they tell
pub record Streams : Type 0 where
  pub left : Option (List ℕ)
  pub written : Option (List ℕ)

-- an instruction went on
abbrev pub GoesOn : Action → (new : State) (before after : Streams) → Type 0
GoesOn (Goes bytes t) new before after = (new ≡ t) × (after.left ≡ before.left) × Appends before.written after.written bytes
GoesOn (Takes n t) new before after = (bytes : List ℕ) × (new ≡ t bytes) × TakesUpTo n before.left after.left bytes × (after.written ≡ before.written) × AreBytes bytes
GoesOn (Exits status) new before after = ⊥
GoesOn (Stops kind block offset width) new before after = ⊥
GoesOn (Traps kind) new before after = ⊥

-- an instruction takes nothing from the input
abbrev pub TakesNothing : Action → Type 0
TakesNothing (Takes n t) = n ≡ 0
TakesNothing (Goes bytes t) = Unit {0}
TakesNothing (Exits status) = Unit {0}
TakesNothing (Stops kind block offset width) = Unit {0}
TakesNothing (Traps kind) = Unit {0}

-- the sink refused what an instruction writes, after a front of it
abbrev pub IsCutShort : Action → (before after : Streams) → Type 0
IsCutShort (Goes bytes t) before after = (after.left ≡ before.left) × AppendsFront before.written after.written bytes
IsCutShort (Takes n t) before after = ⊥
IsCutShort (Exits status) before after = ⊥
IsCutShort (Stops kind block offset width) before after = ⊥
IsCutShort (Traps kind) before after = ⊥

-- memory was refused for what an instruction writes, after a front of it; or for the pages that it stores or fills, before
-- anything was written or taken
abbrev pub IsStarved : Action → (before after : Streams) → Type 0
IsStarved (Goes bytes t) before after = (after.left ≡ before.left) × AppendsFront before.written after.written bytes
IsStarved (Takes n t) before after = after ≡ before
IsStarved (Exits status) before after = ⊥
IsStarved (Stops kind block offset width) before after = ⊥
IsStarved (Traps kind) before after = ⊥

-- the source failed while an instruction took from it, and the buffer begins with what was taken
abbrev pub IsReadCut : Action → (old new : State) (before after : Streams) → Type 0
IsReadCut (Takes n t) old new before after =
    (bytes : List ℕ) × (new ≡ counted (with_filled old bytes)) × TakesFront bytes before.left after.left × (length bytes < n)
    × (after.written ≡ before.written) × AreBytes bytes
IsReadCut (Goes bytes t) old new before after = ⊥
IsReadCut (Exits status) old new before after = ⊥
IsReadCut (Stops kind block offset width) old new before after = ⊥
IsReadCut (Traps kind) old new before after = ⊥

-- an instruction ended the run; but for a fault of the source it left the state as it was, and counts
abbrev pub EndsBy : Action → Stop → (old new : State) (before after : Streams) → Type 0
EndsBy action (stop.Exit status) old new before after = (action ≡ Exits status) × (new ≡ counted old) × (after ≡ before)
EndsBy action (stop.StopCall kind block offset width) old new before after = (action ≡ Stops kind block offset width) × (new ≡ counted old) × (after ≡ before)
EndsBy action (stop.Trap kind pc) old new before after = (action ≡ Traps kind) × (pc ≡ old.pc) × (new ≡ counted old) × (after ≡ before)
EndsBy action stop.WriteFault old new before after = IsCutShort action before after × (new ≡ counted old)
EndsBy action stop.NoMemory old new before after = IsStarved action before after × (new ≡ counted old)
EndsBy action stop.ReadFault old new before after = IsReadCut action old new before after
EndsBy action stop.Steps old new before after = ⊥

-- one step of the program is one instruction of the machine
abbrev pub Performs : Action → Step → (old new : State) (before after : Streams) → Type 0
Performs action step.Next old new before after = GoesOn action new before after
Performs action (step.Ended stop) old new before after = EndsBy action stop old new before after

-- it goes on, and writes nothing
abbrev pub GoesQuietly : Action → Type 0
GoesQuietly (Goes bytes t) = bytes ≡ []
GoesQuietly (Takes n t) = ⊥
GoesQuietly (Exits status) = ⊥
GoesQuietly (Stops kind block offset width) = ⊥
GoesQuietly (Traps kind) = ⊥

-- what an instruction that asks nothing of the outside leaves of the state
abbrev pub MeetsRow : Action → (old new : State) → Result (Unit {0}) Refusal → Type 0
MeetsRow action old new (Ok _) = action ≡ Goes [] new
MeetsRow action old new (Err (refusal.Trap kind)) = (action ≡ Traps kind) × (new ≡ old)
MeetsRow action old new (Err refusal.NoMemory) = GoesQuietly action × (new ≡ old)

-- why a store that memory refuses does not go on
abbrev pub store_refusal : StoreNo → Refusal
store_refusal no.Misaligned = refusal.Trap trap.Misaligned
store_refusal no.Outside = refusal.Trap trap.Store
store_refusal no.NoMemory = refusal.NoMemory

-- which instruction the state asks for
abbrev pub FindsRow : State → Result Inst TrapKind → Type 0
FindsRow s (Ok inst) = action_of s ≡ row inst s
FindsRow s (Err kind) = action_of s ≡ Traps kind

-- a step that ends by a stop of the program's own, or by a trap
abbrev pub StopsBy : Action → (pc : ℕ) → Step → Type 0
StopsBy (Stops kind block offset width) pc answer = answer ≡ step.Ended (stop.StopCall kind block offset width)
StopsBy (Traps kind) pc answer = answer ≡ step.Ended (stop.Trap kind pc)
StopsBy (Goes bytes t) pc answer = ⊥
StopsBy (Takes n t) pc answer = ⊥
StopsBy (Exits status) pc answer = ⊥

-- ---- how the program carries out a whole run

-- The input that a run is given is what the source has left, where it tells; where it does not, the run asks it for nothing.
abbrev pub IsKnown : (told : Option (List ℕ)) (given : List ℕ) (asked : ℕ) → Type 0
IsKnown None given asked = asked ≡ 0
IsKnown (Some left) given asked = left ≡ given

-- what the source has left, where it tells
abbrev pub given_of : Option (List ℕ) → List ℕ
given_of None = []
given_of (Some left) = left

-- what is left of the input, where the source tells
abbrev pub LeavesInput : (before after : Option (List ℕ)) (left : List ℕ) → Type 0
LeavesInput None after left = Unit {0}
LeavesInput (Some given) after left = after ≡ Some left

-- the program ran all of this, and stopped so
abbrev pub RunsWhole : ImageRun → Stop → State → (before after : Streams) → Type 0
RunsWhole run stop new before after =
    (stop ≡ run.stop) × (new ≡ run.machine) × Appends before.written after.written run.written × LeavesInput before.left after.left run.left

-- the program ran this whole, or up to where the outside refused something
abbrev pub Runs : ImageRun → Stop → State → (before after : Streams) → Type 0
Runs run (stop.Exit status) new before after = RunsWhole run (stop.Exit status) new before after
Runs run (stop.StopCall kind block offset width) new before after = RunsWhole run (stop.StopCall kind block offset width) new before after
Runs run (stop.Trap kind pc) new before after = RunsWhole run (stop.Trap kind pc) new before after
Runs run stop.Steps new before after = RunsWhole run stop.Steps new before after
Runs run stop.ReadFault new before after = AppendsFront before.written after.written run.written
Runs run stop.WriteFault new before after = AppendsFront before.written after.written run.written
Runs run stop.NoMemory new before after = AppendsFront before.written after.written run.written

-- Some of the n instructions ran whole, and the next one ended the run.
pub record EndsWithin (n : ℕ) (old new : State) (given : List ℕ) (ending : Stop) (before after : Streams) : Type 0 where
  pub steps : ℕ
  pub fewer : steps < n
  -- where those led
  pub last : State
  pub left : List ℕ
  pub written : List ℕ
  pub asked : ℕ
  pub leads : Leads steps old given last left written asked
  -- what source and sink had then
  pub now : Streams
  pub wrote : Appends before.written now.written written
  pub keeps : LeavesInput before.left now.left left
  -- and what the next one did
  pub ends : EndsBy (action_of last) ending last new now after

-- ---- runs over a source that tells nothing

-- an action goes on to a state, with these bytes taken from the input
abbrev pub PassesTo : Action → (taken : List ℕ) → State → Type 0
PassesTo (Goes bytes t) taken u = (taken ≡ []) × (u ≡ t)
PassesTo (Takes n t) taken u = (length taken ≤ n) × AreBytes taken × (u ≡ t taken)
PassesTo (Exits status) taken u = ⊥
PassesTo (Stops kind block offset width) taken u = ⊥
PassesTo (Traps kind) taken u = ⊥

-- what an action writes
abbrev pub written_by : Action → List ℕ
written_by (Goes bytes t) = bytes
written_by (Takes n t) = []
written_by (Exits status) = []
written_by (Stops kind block offset width) = []
written_by (Traps kind) = []

-- A state is reached from another by actions, whatever they took from the input, and these bytes were written on the way.
pub data IsReached (from : State) : State → (written : List ℕ) → Type 0 where
  here : IsReached from from []
  onward : (s t : State) (written taken : List ℕ) → IsReached from s written → PassesTo (action_of s) taken t → IsReached from t (written ++ written_by (action_of s))

-- The run came to a state that is reached from the first, and there n instructions had run, or the next one ended it.
pub record EndsWhereReached (n : ℕ) (old new : State) (ending : Stop) (before after : Streams) : Type 0 where
  pub last : State
  pub written : List ℕ
  pub reached : IsReached old last written
  pub now : Streams
  pub wrote : Appends before.written now.written written
  pub ends : ((ending ≡ stop.Steps) × (new ≡ last) × (after ≡ now) × (last.count ≡ old.count + n))
      ⊎ (EndsBy (action_of last) ending last new now after × (last.count < old.count + n))
