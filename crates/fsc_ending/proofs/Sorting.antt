-- What sort the ending of a run is.
use Rattle.std.proofs.Common.{◌≡◌, ℕ, ◌==◌, if◌then◌else◌, inl, inr, Bool, true, false, refl}
use Rattle.rv_run.specs.declared.stop.Stop.{Stop}
use Rattle.rv_run.specs.declared.stop.Stop.TheVariants as stop
use Rattle.fsc_ending.specs.declared.ending.Ending.{Ending}
use Rattle.fsc_ending.specs.Ending.{stopped_as, ending_of}
use Rattle.fsc_ending.specs.Sort.{ran, sort_of, IsOfSort}

either : (test : Bool) (this other : Ending) → sort_of this ≡ ran → sort_of other ≡ ran → sort_of (if test then this else other) ≡ ran
either true this other first second = first
either false this other first second = second

sort_of_stopped : (kind block offset width : ℕ) → sort_of (stopped_as kind block offset width) ≡ ran
sort_of_stopped kind block offset width =
    either (kind == 1) _ _ refl (either (kind == 2) _ _ refl (either (kind == 3) _ _ refl (either (kind == 4) _ _ refl (either (kind == 5) _ _ refl (either (kind == 6) _ _ refl refl)))))

-- a run ends by a run's ending
pub sort_of_run : (steps : ℕ) (stopped : Stop) → IsOfSort ran (ending_of steps stopped)
sort_of_run steps (stop.Exit status) = inl refl
sort_of_run steps (stop.StopCall kind block offset width) = inl (sort_of_stopped kind block offset width)
sort_of_run steps stop.Steps = inl refl
sort_of_run steps (stop.Trap kind pc) = inl refl
sort_of_run steps stop.ReadFault = inl refl
sort_of_run steps stop.WriteFault = inl refl
sort_of_run steps stop.NoMemory = inr refl
