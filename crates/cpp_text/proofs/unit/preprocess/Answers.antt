use Rattle.std.proofs.Common.{refl}
use Rattle.cpp_text.proofs.Earlier.{line_earlier, refuses_stop}
use Rattle.cpp_text.proofs.unit.preprocess.Goals as goal

pub returns-clause-refused : goal.returns-clause-refused
returns-clause-refused g c =
    refuses_stop c.in-Err.stop c.stopped.result c.args.name.now _ c.stopped.ensures
    (line_earlier c.in-Err.stop _ _ c.in_ok-bytes.ensures.kept refl c.in_ok-bytes.ensures.faults_counted refl c.in_ok-bytes.ensures.absences_counted refl c.in-Err.ensures.stopped)
