-- Why files give no program.
use Rattle.std.specs.Prelude.{◌≡◌, ℕ, List, Some, None, slice_get}
use Rattle.fsc_outside.specs.Calls.{FileCounts, Fails, Misses}
use Rattle.fsc_outside.specs.FileMap.{Holds}
use Rattle.fsc_front.specs.Refusing.{IsCause}
use Rattle.fsc_core.specs.declared.refusal.CoreNo.{CoreNo}
use Rattle.fsc_core.specs.declared.refusal.CoreNo.TheVariants as core

-- the name is one of these
abbrev pub Among : List ℕ → List (List ℕ) → Type 0
Among name names = (at : ℕ) × (slice_get names at ≡ Some name)

-- why the file of that name gives no unit
abbrev pub RefusesOne : CoreNo → List ℕ → FileCounts → Type 0
RefusesOne (core.Broken broken file) name counts = IsCause broken counts
RefusesOne (core.Missing file) name counts = (file ≡ name) × Misses counts × Holds counts.told name None
RefusesOne (core.FileFault file) name counts = Fails file counts
RefusesOne (core.Link fault) name counts = ⊥
RefusesOne core.Misfit name counts = Unit {0}
RefusesOne core.NoMemory name counts = Unit {0}

-- why the files of these names give no units
abbrev pub RefusesSome : CoreNo → List (List ℕ) → FileCounts → Type 0
RefusesSome (core.Broken broken file) names counts = IsCause broken counts
RefusesSome (core.Missing file) names counts = Among file names × Misses counts × Holds counts.told file None
RefusesSome (core.FileFault file) names counts = Fails file counts
RefusesSome (core.Link fault) names counts = ⊥
RefusesSome core.Misfit names counts = Unit {0}
RefusesSome core.NoMemory names counts = Unit {0}

-- why units give no program, whatever the files are: a text of the library may break a rule
abbrev pub RefusesUnits : CoreNo → Type 0
RefusesUnits (core.Broken broken file) = (counts : FileCounts) → IsCause broken counts
RefusesUnits (core.Missing file) = ⊥
RefusesUnits (core.FileFault file) = ⊥
RefusesUnits _ = Unit {0}

-- why the files of these names give no program
abbrev pub RefusesFiles : CoreNo → List (List ℕ) → FileCounts → Type 0
RefusesFiles (core.Broken broken file) names counts = IsCause broken counts
RefusesFiles (core.Missing file) names counts = Among file names × Misses counts × Holds counts.told file None
RefusesFiles (core.FileFault file) names counts = Fails file counts
RefusesFiles (core.Link fault) names counts = Unit {0}
RefusesFiles core.Misfit names counts = Unit {0}
RefusesFiles core.NoMemory names counts = Unit {0}
