-- The eight commands with their arguments, as clap sees them.
use Rattle.std.specs.Prelude.{◌^◌, ℕ, true, [], Some, codes}
use Rattle.clap.specs.Lexer.{usize_max}
use Rattle.clap.specs.Words.{App, Rule, Text, new_rule, with_rule}
use Rattle.clap.specs.Simple.{new_shape}
use Rattle.clap.specs.declared.builder.action.ArgAction.TheVariants.{Set, SetTrue}
use Rattle.clap.specs.declared.builder.value_parser.ValueParser.TheVariants as parser

-- how many instructions run at most where the words don't say
abbrev pub default_steps : ℕ
default_steps = 10 ^ 10

abbrev pub most_steps : ℕ
most_steps = 10 ^ 12

-- the greatest cost of a meaning where the words don't say
abbrev pub default_cost : ℕ
default_cost = 10 ^ 9

abbrev pub most_cost : ℕ
most_cost = 10 ^ 12

abbrev pub most_count : ℕ
most_count = 2000

-- the option `-o`, which is required and takes one value
abbrev pub output_rule : Text → Rule
output_rule id = record (new_rule id) { short = Some 111; required = true; action = Some Set }

-- a required positional of one value
abbrev pub single_rule : Text → Rule
single_rule id = record (new_rule id) { required = true; action = Some Set }

-- a required positional of one or more values
abbrev pub several_rule : Text → Rule
several_rule id = record (new_rule id) {
  required = true;
  range = Some (record { start_inclusive = 1; end_inclusive = usize_max });
}

-- the option `--steps`
abbrev pub steps_rule : Rule
steps_rule = record (new_rule (codes "steps")) {
  long = Some (codes "steps");
  action = Some Set;
  parser = Some (parser.Unsigned 1 most_steps);
}

-- the flag `--stats`
abbrev pub stats_rule : Rule
stats_rule = record (new_rule (codes "stats")) {
  long = Some (codes "stats");
  action = Some SetTrue;
  parser = Some parser.Bool;
}

-- the option `--cost`
abbrev pub cost_rule : Rule
cost_rule = record (new_rule (codes "cost")) {
  long = Some (codes "cost");
  action = Some Set;
  parser = Some (parser.Unsigned 1 most_cost);
}

-- the number that `demo` takes
abbrev pub count_rule : Rule
count_rule = record (new_rule (codes "count")) {
  required = true;
  action = Some Set;
  parser = Some (parser.Unsigned 1 most_count);
}

-- a command with no argument, help or version
abbrev pub bare_command : Text → App
bare_command name = record { top = record (new_shape name) { disable_help_flag = true }; subs = [] }

abbrev pub build_command : App
build_command =
    with_rule (with_rule (bare_command (codes "build")) (output_rule (codes "image"))) (several_rule (codes "files"))

abbrev pub compile_command : App
compile_command =
    with_rule (with_rule (bare_command (codes "compile")) (output_rule (codes "unit"))) (single_rule (codes "file"))

abbrev pub link_command : App
link_command =
    with_rule (with_rule (bare_command (codes "link")) (output_rule (codes "image"))) (several_rule (codes "units"))

abbrev pub run_command : App
run_command =
    with_rule (with_rule (with_rule (bare_command (codes "run")) steps_rule) stats_rule) (single_rule (codes "image"))

abbrev pub go_command : App
go_command =
    with_rule (with_rule (with_rule (bare_command (codes "go")) steps_rule) stats_rule) (several_rule (codes "files"))

abbrev pub mean_command : App
mean_command = with_rule (with_rule (bare_command (codes "mean")) cost_rule) (several_rule (codes "files"))

abbrev pub report_command : App
report_command = with_rule (with_rule (bare_command (codes "report")) steps_rule) (several_rule (codes "files"))

abbrev pub demo_command : App
demo_command = with_rule (bare_command (codes "demo")) count_rule
