-- What the objects in memory hold, answer and hold then.
use Rattle.std.specs.Prelude.{ℕ, ◌==◌, min, if◌then◌else◌, List, [], ◌++◌, length, refl, take, drop, fold, Option, Some, None}
use Rattle.std.specs.FinMap as map
use Rattle.std.specs.Coded.{Coded, code_by, coded×, coded_ℕ, coded_list}
use Rattle.fsc_outside.specs.Counts.{one_more}
use Rattle.fsc_outside.specs.FileMap.{FileMap, file_map_code, file_of}
use Rattle.fsc_outside.specs.Plan.{Plan, plan_code, unused, fails_next, with_call, with_fault}
use Rattle.fsc_outside.specs.declared.files.Got.{Got}
use Rattle.fsc_outside.specs.declared.files.Got.TheVariants as got
use Rattle.fsc_outside.specs.declared.files.Put.{Put}
use Rattle.fsc_outside.specs.declared.files.Put.TheVariants as put
use Rattle.fsc_outside.specs.declared.sink.Gave.{Gave}
use Rattle.fsc_outside.specs.declared.sink.Gave.TheVariants as gave
use Rattle.fsc_outside.specs.declared.source.Took.{Took}
use Rattle.fsc_outside.specs.declared.source.Took.TheVariants as took

-- ---- a source

-- the bytes that are left, the most that one call moves, and which calls fail
pub record SourceState : Type 0 where
  pub left : List ℕ
  pub most : ℕ
  pub plan : Plan

-- a source of these bytes, whose calls with the numbers in `fail` fail
abbrev pub new_source : List ℕ → ℕ → List ℕ → SourceState
new_source bytes most fail = record { left = bytes; most = most; plan = unused fail }

-- the answer of a read into a buffer of `room` bytes
abbrev pub took_by : SourceState → ℕ → Took
took_by source room =
    if fails_next source.plan then took.Failed
    else if length source.left == 0 then took.End
    else took.Moved (min room (min source.most (length source.left)))

-- the source after that answer
abbrev pub after_took : SourceState → Took → SourceState
after_took source (took.Moved n) = record source { left = drop n source.left; plan = with_call source.plan }
after_took source took.End = record source { plan = with_call source.plan }
after_took source took.Failed = record source { plan = with_fault (with_call source.plan) }

-- the buffer after that answer: what was taken, and then what was in it
abbrev pub filled_by : Took → List ℕ → List ℕ → List ℕ
filled_by (took.Moved n) left buffer = take n left ++ drop n buffer
filled_by took.End left buffer = buffer
filled_by took.Failed left buffer = buffer

-- ---- a sink

-- the bytes that were written, the most that one call moves, and which calls fail
pub record SinkState : Type 0 where
  pub written : List ℕ
  pub most : ℕ
  pub plan : Plan

-- a sink with nothing in it, whose calls with the numbers in `fail` fail
abbrev pub new_sink : ℕ → List ℕ → SinkState
new_sink most fail = record { written = []; most = most; plan = unused fail }

-- the answer of a write of a piece of `size` bytes, where memory suffices
abbrev pub gave_by : SinkState → ℕ → Gave
gave_by sink size = if fails_next sink.plan then gave.Failed else gave.Moved (min size sink.most)

-- the sink after an answer to a write of that piece
abbrev pub after_gave : SinkState → List ℕ → Gave → SinkState
after_gave sink piece (gave.Moved n) = record sink { written = sink.written ++ take n piece; plan = with_call sink.plan }
after_gave sink piece gave.Failed = record sink { plan = with_fault (with_call sink.plan) }
after_gave sink piece gave.NoMemory = record sink { plan = with_call sink.plan }

-- ---- files

-- the files, the name of the last that could not be read or written, how many were not there, and which calls fail
pub record FilesState : Type 0 where
  pub files : FileMap
  pub blamed : List ℕ
  pub absences : ℕ
  pub plan : Plan

-- this is stored as its fields
abbrev pub files_state_code : Coded FilesState
files_state_code =
    code_by (FileMap × (List ℕ × (ℕ × Plan))) (coded× file_map_code (coded× (coded_list coded_ℕ) (coded× coded_ℕ plan_code)))
    (λ f. (f.files, (f.blamed, (f.absences, f.plan)))) (λ t. record { files = t.0; blamed = t.1.0; absences = t.1.1.0; plan = t.1.1.1 }) (λ _. refl)

-- the files of these pairs of a name and its bytes; of several pairs with one name the last counts
abbrev pub files_of : List (List ℕ × List ℕ) → FileMap
files_of pairs = fold (λ files pair. map.insert files pair.0 pair.1) map.empty pairs

-- the files of these pairs, where the calls with the numbers in `fail` fail
abbrev pub new_files : List (List ℕ × List ℕ) → List ℕ → FilesState
new_files pairs fail = record { files = files_of pairs; blamed = []; absences = 0; plan = unused fail }

-- the answer of a read that finds these bytes, or no file
abbrev pub got_where : Option (List ℕ) → Got
got_where None = got.Absent
got_where (Some bytes) = got.Found bytes

-- the answer of a read of that file, where memory suffices
abbrev pub got_by : FilesState → List ℕ → Got
got_by state name = if fails_next state.plan then got.Failed else got_where (file_of state.files name)

-- the answer of a write, where memory suffices
abbrev pub put_by : FilesState → Put
put_by state = if fails_next state.plan then put.Failed else put.Done

-- one more call was made
abbrev pub called : FilesState → FilesState
called state = record state { plan = with_call state.plan }

-- a call for the file of that name failed
abbrev pub blaming : FilesState → List ℕ → FilesState
blaming state name = record state { blamed = name; plan = with_fault state.plan }

-- the files after an answer to a read
abbrev pub after_got : FilesState → List ℕ → Got → FilesState
after_got state name (got.Found bytes) = called state
after_got state name got.Absent = record (called state) { absences = one_more state.absences }
after_got state name got.Failed = blaming (called state) name
after_got state name got.NoMemory = called state

-- the files after an answer to a write of these bytes
abbrev pub after_put : FilesState → List ℕ → List ℕ → Put → FilesState
after_put state name bytes put.Done = record (called state) { files = map.insert state.files name bytes }
after_put state name bytes put.Failed = blaming (called state) name
after_put state name bytes put.NoMemory = called state
