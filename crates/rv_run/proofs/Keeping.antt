-- A sound state is kept by every action.
use Rattle.std.proofs.Common.{◌≡◌, ◌≢◌, ℕ, zero, suc, ◌+◌, ◌<◌, ◌≤◌, ◌^◌, ◌⊎◌, inl, inr, List, [], ◌∷◌, ◌++◌, length, get_or, set, replicate, take, drop, All, refl, sym, ap, subst, ◌∙◌, arith, lit<}
use Rattle.std.proofs.lemmas.List.{length-set, length-take, get_or-set_other}
use Rattle.std.proofs.lemmas.List.Elements.{All-set, All-nil, All-take, All-drop, All-replicate}
use Rattle.fsc_base.specs.declared.image.Image.{Image}
use Rattle.fsc_base.specs.declared.image.Segment.{Segment}
use Rattle.fsc_base.specs.Image.{IsSound}
use Rattle.guest_mem.specs.Regions.{Region}
use Rattle.guest_mem.specs.Layout.{Extent, layout, AllApart, AreBytes, HoldBytes}
use Rattle.guest_mem.specs.Guest.{memory_of, with_bytes}
use Rattle.guest_mem.proofs.Layouts.{layout-with_bytes, AllApart-layout, AllApart-memory_of, HoldBytes-with_bytes, HoldBytes-memory_of}
use Rattle.rv_run.specs.Machine.{State, Action, Goes, Takes, Exits, Stops, Traps, action_of, counted, start_of}
use Rattle.rv_run.specs.ImageRun.{beginning, image_run, PassesTo, IsReached, here, onward}
use Rattle.rv_run.specs.Sound.{IsSoundState}
use Rattle.rv_run.proofs.Moving.{InRanges, ChangesRegister, ChangesMemory, ChangesMarks, Moved, action_moves}
use Rattle.rv_run.proofs.Counting.{moves_goes, moves_takes}

in_ranges : (laid : List Extent) (s : State) (taken : List ℕ) → IsSoundState laid s → AreBytes taken → InRanges s taken
in_ranges laid s taken sound bytes = record { words = sound.words; bytes = sound.bytes; input = bytes }

-- ---- registers

abbrev Words : List ℕ → Type 0
Words registers = (length registers ≡ 32) × All (λ value. value < 2 ^ 32) registers × (get_or registers 0 0 ≡ 0)

registers_kept : (fits : Type 0) (old new : List ℕ) → fits → ChangesRegister fits old new → Words old → Words new
registers_kept fits old new holds (inl same) words = subst Words (sym same) words
registers_kept fits old new holds (inr (r, value, named, small, is)) words =
    let other : 0 ≢ r = λ (e : 0 ≡ r). absurd (omega arith) in
    subst Words (sym is) (
      length-set old r value ∙ words.0,
      All-set (λ v. v < 2 ^ 32) old r value (small holds) words.1,
      get_or-set_other old r 0 value 0 other ∙ words.2,
    )

-- ---- memory

abbrev Laid : List Extent → List Region → Type 0
Laid laid regions = HoldBytes regions × AllApart regions × (layout regions ≡ laid)

memory_kept : (fits : Type 0) (laid : List Extent) (old new : List Region) → fits → ChangesMemory fits old new → Laid laid old → Laid laid new
memory_kept fits laid old new holds (inl same) held = subst (Laid laid) (sym same) held
memory_kept fits laid old new holds (inr (at, bytes, are_bytes, is)) held =
    let same = layout-with_bytes old at bytes new is in
    (HoldBytes-with_bytes old at bytes new is (are_bytes holds) held.0, AllApart-layout old new same held.1, same ∙ held.2)

marks_kept : (old new count : ℕ) → ChangesMarks old new → old ≤ count → new ≤ count + 1
marks_kept old new count (inl same) few = omega arith
marks_kept old new count (inr more) few = omega arith

-- ---- states

-- what an instruction makes of a sound state is sound
pub moved_sound : (laid : List Extent) (taken : List ℕ) (s t : State) → IsSoundState laid s → AreBytes taken → Moved taken s t → IsSoundState laid t
moved_sound laid taken s t sound bytes moved =
    let holds = in_ranges laid s taken sound bytes in
    let words = registers_kept (InRanges s taken) s.registers t.registers holds moved.register (sound.registers, sound.words, sound.zero) in
    let held = memory_kept (InRanges s taken) laid s.memory t.memory holds moved.memory (sound.bytes, sound.apart, sound.layout) in
    record {
      registers = words.0;
      words = words.1;
      zero = words.2;
      pc = moved.pc;
      bytes = held.0;
      apart = held.1;
      layout = held.2;
      marks = rw moved.count (marks_kept s.marks t.marks s.count moved.marks sound.marks);
    }

-- an instruction that ends the run counts, and changes nothing else
pub counted_sound : (laid : List Extent) (s : State) → IsSoundState laid s → IsSoundState laid (counted s)
counted_sound laid s sound = record {
  registers = sound.registers;
  words = sound.words;
  zero = sound.zero;
  pc = sound.pc;
  bytes = sound.bytes;
  apart = sound.apart;
  layout = sound.layout;
  marks = omega (arith, sound.marks);
}

-- each action keeps it, whatever bytes it takes
pub passes_moved : (s t : State) (taken : List ℕ) (action : Action) → action_of s ≡ action → PassesTo action taken t → AreBytes taken × Moved taken s t
passes_moved s t taken (Goes bytes u) is passes =
    let moved = moves_goes s u bytes is in
    (subst AreBytes (sym passes.0) (All-nil (λ byte. byte < 256)), rw (passes.0, passes.1) moved)
passes_moved s t taken (Takes n f) is passes = (passes.1, rw passes.2 (moves_takes s n f is taken passes.0))
passes_moved s t taken (Exits status) is passes = absurd passes
passes_moved s t taken (Stops kind block offset width) is passes = absurd passes
passes_moved s t taken (Traps kind) is passes = absurd passes

pub passes_sound : (laid : List Extent) (s t : State) (taken : List ℕ) → IsSoundState laid s → PassesTo (action_of s) taken t → IsSoundState laid t
passes_sound laid s t taken sound passes =
    let moved = passes_moved s t taken (action_of s) refl passes in
    moved_sound laid taken s t sound moved.0 moved.1

-- so each state that is reached is sound
pub reached_sound : (laid : List Extent) (s t : State) (written : List ℕ) → IsSoundState laid s → IsReached s t written → IsSoundState laid t
reached_sound laid s t written sound here = sound
reached_sound laid s t written sound (onward between last front taken reached passes) =
    passes_sound laid between last taken (reached_sound laid s between front sound reached) passes

-- ---- runs over an input of bytes

begins_sound : (laid : List Extent) (n : ℕ) (s : State) (input : List ℕ) (action : Action) → action_of s ≡ action → IsSoundState laid s → AreBytes input
    → ((t : State) (left : List ℕ) → IsSoundState laid t → AreBytes left → IsSoundState laid (image_run n t left).machine)
    → IsSoundState laid (beginning s action input (image_run n)).machine
begins_sound laid n s input (Goes bytes t) is sound are_bytes rest =
    rest t input (moved_sound laid [] s t sound (All-nil (λ byte. byte < 256)) (moves_goes s t bytes is)) are_bytes
begins_sound laid n s input (Takes k f) is sound are_bytes rest =
    let byte : ℕ → Type 0 = λ b. b < 256 in
    let taken = take k input in
    let moved = moves_takes s k f is taken (omega (arith, length-take k input)) in
    let front : AreBytes taken = All-take byte k input are_bytes in
    rest (f taken) (drop k input) (moved_sound laid taken s (f taken) sound front moved) (All-drop byte k input are_bytes)
begins_sound laid n s input (Exits status) is sound are_bytes rest = counted_sound laid s sound
begins_sound laid n s input (Stops kind block offset width) is sound are_bytes rest = counted_sound laid s sound
begins_sound laid n s input (Traps kind) is sound are_bytes rest = counted_sound laid s sound

pub run_sound : (laid : List Extent) (n : ℕ) (s : State) (input : List ℕ) → IsSoundState laid s → AreBytes input → IsSoundState laid (image_run n s input).machine
unfolding image_run
run_sound laid zero s input sound are_bytes = sound
run_sound laid (suc n) s input sound are_bytes = begins_sound laid n s input (action_of s) refl sound are_bytes (run_sound laid n)

-- the run of an image of bytes starts with a sound state
pub start_sound : (image : Image) → IsSound image → All (λ (segment : Segment). AreBytes segment.bytes) image.segments → image.entry < 2 ^ 32
    → IsSoundState (layout (memory_of image)) (start_of image)
start_sound image sound bytes entry = record {
  registers = refl;
  words = All-replicate (λ value. value < 2 ^ 32) 32 0 (lit< tt);
  zero = refl;
  pc = entry;
  bytes = HoldBytes-memory_of image bytes;
  apart = AllApart-memory_of image sound;
  layout = refl;
  marks = omega arith;
}

-- ---- marks

marks_between : (old new : ℕ) → ChangesMarks old new → (old ≤ new) × (new ≤ old + 1)
marks_between old new (inl same) = (omega arith, omega arith)
marks_between old new (inr more) = (omega arith, omega arith)

-- they never fall, and grow by one an instruction at most
pub moved_marks : (taken : List ℕ) (s t : State) → Moved taken s t → (s.marks ≤ t.marks) × (t.marks ≤ s.marks + 1)
moved_marks taken s t moved = marks_between s.marks t.marks moved.marks
