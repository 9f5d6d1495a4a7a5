use Rattle.std.proofs.Common.{refl, arith, codes}
use Rattle.clap.specs.Walk.{texts}
use Rattle.clap.specs.Words.{app_of, found_of, new_rule}
use Rattle.command_line.specs.Commands.{demo_command, count_rule, most_count}
use Rattle.command_line.proofs.Holding.{count_is, numeral_in, rules_read, takes_is, text_given}
use Rattle.command_line.proofs.asking.demo.Goals as goal

pub count_of-requires-clause-given : goal.count_of-requires-clause-given
count_of-requires-clause-given c =
    let read = (rules_read (app_of c.in_ok-demo_command.field-0) demo_command (found_of c.in_ok-matches.matches) c.in_ok-demo_command.ensures
    c.in_ok-matches.ensures.read 0 (new_rule (codes "")) (omega arith)) in
    text_given (found_of c.in_ok-matches.matches) count_rule 1 most_count read refl (read.given refl)

pub count_of-requires-clause-numeral : goal.count_of-requires-clause-numeral
count_of-requires-clause-numeral c =
    numeral_in (found_of c.in_ok-matches.matches) count_rule 1 most_count
    (rules_read (app_of c.in_ok-demo_command.field-0) demo_command (found_of c.in_ok-matches.matches) c.in_ok-demo_command.ensures
    c.in_ok-matches.ensures.read 0 (new_rule (codes "")) (omega arith)) refl

pub returns-clause-found : goal.returns-clause-found
returns-clause-found c =
    let command = app_of c.in_ok-demo_command.field-0 in
    let words = texts c.args.words.now in
    let found = found_of c.in_ok-matches.matches in
    let is = c.in_ok-demo_command.ensures in
    let rows = c.in_ok-matches.ensures.rows in (
      takes_is command demo_command words found is rows c.requires c.in_ok-matches.ensures.taken,
      count_is command demo_command words found is rows _ c.count_of.ensures.value,
    )
