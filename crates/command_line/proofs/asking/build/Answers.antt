use Rattle.std.proofs.Common.{refl, arith, codes}
use Rattle.clap.specs.Walk.{texts}
use Rattle.clap.specs.Words.{app_of, found_of, new_rule}
use Rattle.command_line.specs.Commands.{build_command}
use Rattle.command_line.proofs.Holding.{all_is, first_is, rules_read, takes_is}
use Rattle.command_line.proofs.asking.build.Goals as goal

pub name_of-requires : goal.name_of-requires
name_of-requires c =
    (rules_read (app_of c.in_ok-build_command.field-0) build_command (found_of c.in_ok-matches.matches) c.in_ok-build_command.ensures
    c.in_ok-matches.ensures.read 0 (new_rule (codes "")) (omega arith)).given refl

pub names_of-requires : goal.names_of-requires
names_of-requires c =
    (rules_read (app_of c.in_ok-build_command.field-0) build_command (found_of c.in_ok-matches.matches) c.in_ok-build_command.ensures
    c.in_ok-matches.ensures.read 1 (new_rule (codes "")) (omega arith)).given refl

pub returns-clause-found : goal.returns-clause-found
returns-clause-found c =
    let command = app_of c.in_ok-build_command.field-0 in
    let words = texts c.args.words.now in
    let found = found_of c.in_ok-matches.matches in
    let is = c.in_ok-build_command.ensures in
    let rows = c.in_ok-matches.ensures.rows in (
      takes_is command build_command words found is rows c.requires c.in_ok-matches.ensures.taken,
      first_is command build_command words found is rows (codes "image") _ c.in_ok-name_of.ensures,
      all_is command build_command words found is rows (codes "files") _ c.in_ok-names_of.ensures.values,
    )
