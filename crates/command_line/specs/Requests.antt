-- What words ask for, by clap's reading of them.
use Rattle.std.specs.Prelude.{◌≡◌, ◌⊎◌, ◌≤◌, ◌<◌, ℕ, Bool, false, List, [], length, All, Some, codes, slice_get, option_map, ⊤}
use Rattle.std.specs.Option.{option_map_or}
use Rattle.std.specs.Str.{IsUtf8, bytes_eq}
use Rattle.std.specs.Str.Parse.{digits_value, without_leading_plus}
use Rattle.clap.specs.Words.{App, Row, Text, all_of, fault_of, first_of, matches_of, one_of}
use Rattle.command_line.specs.Commands.{build_command, compile_command, demo_command, go_command, link_command, mean_command, report_command, run_command}
use Rattle.command_line.specs.Commands.{default_cost, default_steps, most_cost, most_count, most_steps}
use Rattle.command_line.specs.declared.request.Request.{Request}
use Rattle.command_line.specs.declared.request.Request.TheVariants.{Build, Compile, Link, Run, Go, Mean, Report, Demo}

-- the number that Rust reads from digits, with a plus sign in front or without
abbrev pub number_in : Text → ℕ
number_in text = digits_value 10 (without_leading_plus text)

-- the value of `--steps`, or the default
abbrev pub steps_in : List Row → ℕ
steps_in rows = option_map_or number_in (one_of (codes "steps") rows) default_steps

-- the value of `--cost`, or the default
abbrev pub cost_in : List Row → ℕ
cost_in rows = option_map_or number_in (one_of (codes "cost") rows) default_cost

-- whether `--stats` stands among the words
abbrev pub stats_in : List Row → Bool
stats_in rows = option_map_or (λ text. bytes_eq text (codes "true")) (one_of (codes "stats") rows) false

-- the first word names the command, and clap finds no fault in the words after it
abbrev pub Takes : App → List Text → Type 0
Takes command words = (slice_get words 0 ≡ Some command.top.name) × (fault_of command words ≡ [])

-- at most 1,000 words, each of them UTF-8
abbrev pub IsReadable : List Text → Type 0
IsReadable words = (length words ≤ 1000) × All IsUtf8 words

-- one of the eight commands takes the words
abbrev pub IsTaken : List Text → Type 0
IsTaken words = Takes build_command words ⊎ (Takes compile_command words ⊎ (Takes link_command words
    ⊎ (Takes run_command words ⊎ (Takes go_command words ⊎ (Takes mean_command words ⊎ (Takes report_command words ⊎ Takes demo_command words))))))

-- at most 1,000 words, each of them UTF-8, which one of the eight commands takes
unfoldable pub IsUsable : List Text → Type 0
IsUsable words = IsReadable words × IsTaken words

-- a command takes the words, and its matches hold the request's values
abbrev pub Holds : List Text → Request → Type 0
Holds words (Build image files) = Takes build_command words
    × (first_of (codes "image") (matches_of build_command words) ≡ Some image)
    × (all_of (codes "files") (matches_of build_command words) ≡ Some files)
Holds words (Compile unit file) = Takes compile_command words
    × (first_of (codes "unit") (matches_of compile_command words) ≡ Some unit)
    × (first_of (codes "file") (matches_of compile_command words) ≡ Some file)
Holds words (Link image units) = Takes link_command words
    × (first_of (codes "image") (matches_of link_command words) ≡ Some image)
    × (all_of (codes "units") (matches_of link_command words) ≡ Some units)
Holds words (Run steps stats image) = Takes run_command words
    × (steps_in (matches_of run_command words) ≡ steps)
    × (stats_in (matches_of run_command words) ≡ stats)
    × (first_of (codes "image") (matches_of run_command words) ≡ Some image)
Holds words (Go steps stats files) = Takes go_command words
    × (steps_in (matches_of go_command words) ≡ steps)
    × (stats_in (matches_of go_command words) ≡ stats)
    × (all_of (codes "files") (matches_of go_command words) ≡ Some files)
Holds words (Mean cost files) = Takes mean_command words
    × (cost_in (matches_of mean_command words) ≡ cost)
    × (all_of (codes "files") (matches_of mean_command words) ≡ Some files)
Holds words (Report steps files) = Takes report_command words
    × (steps_in (matches_of report_command words) ≡ steps)
    × (all_of (codes "files") (matches_of report_command words) ≡ Some files)
Holds words (Demo count) = Takes demo_command words
    × (option_map number_in (one_of (codes "count") (matches_of demo_command words)) ≡ Some count)

-- The words are listed as this request: at most 1,000 words, each of them UTF-8, as which clap reads the request.
unfoldable pub Listed : List Text → Request → Type 0
Listed words request = IsReadable words × Holds words request

-- the numbers of a request lie in their bounds, and its lists are not empty
abbrev pub IsBounded : Request → Type 0
IsBounded (Build image files) = 0 < length files
IsBounded (Compile unit file) = ⊤
IsBounded (Link image units) = 0 < length units
IsBounded (Run steps stats image) = (0 < steps) × (steps ≤ most_steps)
IsBounded (Go steps stats files) = (0 < steps) × (steps ≤ most_steps) × (0 < length files)
IsBounded (Mean cost files) = (0 < cost) × (cost ≤ most_cost) × (0 < length files)
IsBounded (Report steps files) = (0 < steps) × (steps ≤ most_steps) × (0 < length files)
IsBounded (Demo count) = (0 < count) × (count ≤ most_count)
