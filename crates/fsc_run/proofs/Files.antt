-- Answers that name the file that was to be read.
use Rattle.std.proofs.Common.{ℕ, inl, inr, List}
use Rattle.fsc_outside.specs.Calls.{FileCounts, Fails}
use Rattle.fsc_ending.specs.declared.ending.Ending.{Ending}
use Rattle.fsc_ending.specs.declared.ending.Ending.TheVariants.{MissingFile, FileFault}
use Rattle.fsc_run.specs.Reading.{IsAbsent, NamesFile, RefusesRead, absent, unreadable, unheld}

pub absent_file : (ending : Ending) (file : List ℕ) (counts : FileCounts) → NamesFile MissingFile file ending → IsAbsent file counts → RefusesRead ending file counts
absent_file ending file counts (inl named) why = absent named why
absent_file ending file counts (inr memory) why = unheld memory

pub faulty_file : (ending : Ending) (file : List ℕ) (counts : FileCounts) → NamesFile FileFault file ending → Fails file counts → RefusesRead ending file counts
faulty_file ending file counts (inl named) why = unreadable named why
faulty_file ending file counts (inr memory) why = unheld memory
