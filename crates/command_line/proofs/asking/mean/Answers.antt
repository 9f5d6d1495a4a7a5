use Rattle.std.proofs.Common.{refl, arith, codes}
use Rattle.clap.specs.Walk.{texts}
use Rattle.clap.specs.Words.{app_of, found_of, new_rule}
use Rattle.command_line.specs.Commands.{cost_rule, mean_command, most_cost}
use Rattle.command_line.proofs.Holding.{all_is, cost_is, numeral_in, rules_read, takes_is}
use Rattle.command_line.proofs.asking.mean.Goals as goal

pub cost_of-requires : goal.cost_of-requires
cost_of-requires c =
    numeral_in (found_of c.in_ok-matches.matches) cost_rule 1 most_cost
    (rules_read (app_of c.in_ok-mean_command.field-0) mean_command (found_of c.in_ok-matches.matches) c.in_ok-mean_command.ensures
    c.in_ok-matches.ensures.read 0 (new_rule (codes "")) (omega arith)) refl

pub names_of-requires : goal.names_of-requires
names_of-requires c =
    (rules_read (app_of c.in_ok-mean_command.field-0) mean_command (found_of c.in_ok-matches.matches) c.in_ok-mean_command.ensures
    c.in_ok-matches.ensures.read 1 (new_rule (codes "")) (omega arith)).given refl

pub returns-clause-found : goal.returns-clause-found
returns-clause-found c =
    let command = app_of c.in_ok-mean_command.field-0 in
    let words = texts c.args.words.now in
    let found = found_of c.in_ok-matches.matches in
    let is = c.in_ok-mean_command.ensures in
    let rows = c.in_ok-matches.ensures.rows in (
      takes_is command mean_command words found is rows c.requires c.in_ok-matches.ensures.taken,
      cost_is command mean_command words found is rows _ c.cost_of.ensures.value,
      all_is command mean_command words found is rows (codes "files") _ c.in_ok-names_of.ensures.values,
    )
