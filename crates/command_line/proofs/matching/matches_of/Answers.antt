use Rattle.clap.specs.Walk.{texts}
use Rattle.clap.specs.Words.{app_of, fault_of}
use Rattle.command_line.proofs.Reading.{all_read, fit_and_free, fit_and_simple, usage_refused}
use Rattle.command_line.proofs.matching.matches_of.Goals as goal

pub returns-in_err-try_get_matches_from_mut-clause-usage :
    goal.returns-in_err-try_get_matches_from_mut-clause-usage
returns-in_err-try_get_matches_from_mut-clause-usage c =
    usage_refused c.from_residual.result (fault_of (app_of c.args.command) (texts c.args.words.now)) c.in_err-try_get_matches_from_mut.field-0.0
    (c.in_err-try_get_matches_from_mut.ensures.kinds (fit_and_free (app_of c.args.command) c.requires)) c.from_residual.ensures.1

pub returns-clause-rows : goal.returns-clause-rows
returns-clause-rows c = (c.in_ok-try_get_matches_from_mut.ensures.ok.2 (fit_and_simple (app_of c.args.command) c.requires)).0

pub returns-clause-taken : goal.returns-clause-taken
returns-clause-taken c = c.in_ok-try_get_matches_from_mut.ensures.kinds (fit_and_free (app_of c.args.command) c.requires)

pub returns-clause-read : goal.returns-clause-read
returns-clause-read c =
    let parse = c.in_ok-try_get_matches_from_mut.ensures in
    all_read c.args.command c.try_get_matches_from_mut.new.self c.in_ok-try_get_matches_from_mut.field-0 parse.ok.0 parse.ok.1 parse.after parse.fails c.requires
