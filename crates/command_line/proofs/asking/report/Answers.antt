use Rattle.std.proofs.Common.{refl, arith, codes}
use Rattle.clap.specs.Walk.{texts}
use Rattle.clap.specs.Words.{app_of, found_of, new_rule}
use Rattle.command_line.specs.Commands.{most_steps, report_command, steps_rule}
use Rattle.command_line.proofs.Holding.{all_is, numeral_in, rules_read, steps_is, takes_is}
use Rattle.command_line.proofs.asking.report.Goals as goal

pub steps_of-requires : goal.steps_of-requires
steps_of-requires c =
    numeral_in (found_of c.in_ok-matches.matches) steps_rule 1 most_steps
    (rules_read (app_of c.in_ok-report_command.field-0) report_command (found_of c.in_ok-matches.matches) c.in_ok-report_command.ensures
    c.in_ok-matches.ensures.read 0 (new_rule (codes "")) (omega arith)) refl

pub names_of-requires : goal.names_of-requires
names_of-requires c =
    (rules_read (app_of c.in_ok-report_command.field-0) report_command (found_of c.in_ok-matches.matches) c.in_ok-report_command.ensures
    c.in_ok-matches.ensures.read 1 (new_rule (codes "")) (omega arith)).given refl

pub returns-clause-found : goal.returns-clause-found
returns-clause-found c =
    let command = app_of c.in_ok-report_command.field-0 in
    let words = texts c.args.words.now in
    let found = found_of c.in_ok-matches.matches in
    let is = c.in_ok-report_command.ensures in
    let rows = c.in_ok-matches.ensures.rows in (
      takes_is command report_command words found is rows c.requires c.in_ok-matches.ensures.taken,
      steps_is command report_command words found is rows _ c.steps_of.ensures.value,
      all_is command report_command words found is rows (codes "files") _ c.in_ok-names_of.ensures.values,
    )
