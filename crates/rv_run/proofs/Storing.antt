-- A store that is refused for want of memory alone.
use Rattle.std.proofs.Common.{◌≡◌, [], Option, List, ℕ, Result, Ok, Err, true, false, refl, sym, ap, subst}
use Rattle.std.specs.Prelude.{IsTrue, is_ok}
use Rattle.fsc_outside.specs.Streams.{Appends, AppendsFront}
use Rattle.fsc_outside.proofs.Appending.{appends_nothing, appends_front_whole}
use Rattle.guest_mem.specs.Regions.{Region}
use Rattle.guest_mem.specs.declared.fault.Fault.{Fault}
use Rattle.rv_run.specs.Machine.{State, Action, Goes, Takes, Exits, Stops, Traps, put}
use Rattle.rv_run.specs.ImageRun.{Streams, GoesQuietly, IsStarved}

-- it would have gone on
pub put_goes : (s : State) (said : Result (List Region) Fault) → IsTrue (is_ok said) → GoesQuietly (put s said)
put_goes s (Ok memory) is = refl
put_goes s (Err why) is = absurd (let no : false ≡ true = is in cc)

-- and nothing was written or taken
pub starves : (action : Action) (now : Streams) → GoesQuietly action → IsStarved action now now
starves (Goes bytes t) now quiet =
    (refl, appends_front_whole now.written now.written bytes (subst (λ (l : List ℕ). Appends now.written now.written l) (sym quiet) (appends_nothing now.written)))
starves (Takes n t) now quiet = absurd quiet
starves (Exits status) now quiet = absurd quiet
starves (Stops kind block offset width) now quiet = absurd quiet
starves (Traps kind) now quiet = absurd quiet
