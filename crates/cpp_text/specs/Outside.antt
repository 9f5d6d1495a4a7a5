-- What a call may answer by what the files did in it.
use Rattle.std.specs.Prelude.{◌≡◌, ◌⊎◌, ℕ, List, None}
use Rattle.fsc_base.specs.declared.place.Broken.{Broken}
use Rattle.fsc_base.specs.declared.rule.Rule.TheVariants.{K40, L02}
use Rattle.fsc_outside.specs.Calls.{FileCounts, Fails, Misses}
use Rattle.fsc_outside.specs.FileMap.{Holds}
use Rattle.cpp_text.specs.Causes.{OfText}
use Rattle.cpp_text.specs.declared.refusal.Stop.{Stop}
use Rattle.cpp_text.specs.declared.refusal.Stop.TheVariants as stops
use Rattle.cpp_text.specs.declared.refusal.PpNo.{PpNo}
use Rattle.cpp_text.specs.declared.refusal.PpNo.TheVariants as refusals

-- a rule is broken: one on the text, on the depth of includes, or on a file that is absent
abbrev pub Breaks : Broken → FileCounts → Type 0
Breaks broken outside = OfText broken.rule ⊎ ((broken.rule ≡ L02) ⊎ ((broken.rule ≡ K40) × Misses outside))

-- what stops a search for a file
abbrev pub StopsSearch : Stop → FileCounts → Type 0
StopsSearch (stops.Broken broken) outside = ⊥
StopsSearch (stops.FileFault name) outside = Fails name outside
StopsSearch stops.NoMemory outside = Unit {0}

-- what stops a line
abbrev pub StopsLine : Stop → FileCounts → Type 0
StopsLine (stops.Broken broken) outside = Breaks broken outside
StopsLine (stops.FileFault name) outside = Fails name outside
StopsLine stops.NoMemory outside = Unit {0}

-- why the unit with this file of its own is refused
abbrev pub RefusesUnit : PpNo → List ℕ → FileCounts → Type 0
RefusesUnit (refusals.Broken broken file) name outside = Breaks broken outside
RefusesUnit refusals.Missing name outside = Misses outside × Holds outside.told name None
RefusesUnit (refusals.FileFault file) name outside = Fails file outside
RefusesUnit refusals.NoMemory name outside = Unit {0}

-- a refusal by the text alone
abbrev pub IsOfText : PpNo → Type 0
IsOfText (refusals.Broken broken file) = OfText broken.rule
IsOfText refusals.Missing = ⊥
IsOfText (refusals.FileFault file) = ⊥
IsOfText refusals.NoMemory = Unit {0}

-- the refusal of a file that could not be read
abbrev pub NamesFault : PpNo → List ℕ → Type 0
NamesFault (refusals.Broken broken file) name = ⊥
NamesFault refusals.Missing name = ⊥
NamesFault (refusals.FileFault file) name = file ≡ name
NamesFault refusals.NoMemory name = Unit {0}

-- the refusal of a text that breaks this
abbrev pub NamesBroken : PpNo → Broken → Type 0
NamesBroken (refusals.Broken found file) broken = found ≡ broken
NamesBroken refusals.Missing broken = ⊥
NamesBroken (refusals.FileFault file) broken = ⊥
NamesBroken refusals.NoMemory broken = Unit {0}

-- the refusal that goes with a stop
abbrev pub Answers : Stop → PpNo → Type 0
Answers (stops.Broken broken) refusal = NamesBroken refusal broken
Answers (stops.FileFault file) refusal = refusal ≡ refusals.FileFault file
Answers stops.NoMemory refusal = refusal ≡ refusals.NoMemory
