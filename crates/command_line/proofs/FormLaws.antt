-- The plain forms of the commands `go` and `run`.
use Rattle.std.proofs.Common.{◌≡◌, ◌∙◌, ◌<◌, ◌≤◌, ◌^◌, ap, ℕ, false, [], ◌∷◌, get_or, Some, refl, codes, arith, rules}
use Rattle.std.specs.Fmt.{decimal}
use Rattle.std.specs.Str.{IsUtf8}
use Rattle.std.specs.Str.Parse.{digits_value, without_leading_plus}
use Rattle.std.proofs.lemmas.Bool.{ne_eqb}
use Rattle.std.proofs.lemmas.Fmt.{IsAscii-decimal, decimal_is_IsNumeral, first_decimal}
use Rattle.std.proofs.lemmas.List.Elements.{All-cons, All-nil}
use Rattle.std.proofs.lemmas.Str.{IsUtf8-from_ascii}
use Rattle.std.proofs.lemmas.Str.Parse.{without_leading_plus_none}
use Rattle.clap.specs.Walk.{Held, Walk, after_step, nothing_held, value, walk_from}
use Rattle.clap.specs.Simple.{App, built}
use Rattle.clap.specs.Kinds.{or_else}
use Rattle.clap.specs.Values.{Accepts}
use Rattle.clap.specs.Words.{Text, all_of, fault_of, first_of, matches_of}
use Rattle.clap.specs.declared.builder.value_parser.ValueParser.{ValueParser}
use Rattle.clap.specs.declared.builder.value_parser.ValueParser.TheVariants as parser
use Rattle.clap.proofs.KindLemmas.{value_kinds-ok}
use Rattle.clap.proofs.OnLiterals.{clap_on_literals}
use Rattle.command_line.specs.Commands.{default_steps, go_command, most_steps, run_command}
use Rattle.command_line.specs.Forms.{IsFileWord, plain_words, words_with_steps}
use Rattle.command_line.specs.Requests.{IsReadable, Listed, number_in, stats_in, steps_in}
use Rattle.command_line.specs.declared.request.Request.TheVariants.{Go, Run}
use Rattle.command_line.proofs.Turns.{IsBare, Turn, bare_empty, bare_word, fault_after, option_turn, rest_fault, rest_rows, resting, rows_after_turn, value_turn, waiting_for}

-- ---- names and numbers

bare_file : (file : Text) → IsFileWord file → IsBare file
bare_file [] is = bare_empty
bare_file (x ∷ xs) is = bare_word x xs (ne_eqb x 45 (λ e. is (ap Some e)))

bare_from : (word : Text) → 48 < get_or word 0 0 → IsBare word
bare_from [] above = bare_empty
bare_from (x ∷ xs) above = bare_word x xs (ne_eqb x 45 (λ e. omega arith))

below_word : (steps : ℕ) → steps ≤ most_steps → steps < 2 ^ 64
below_word steps most = omega arith

no_plus : (steps : ℕ) → 0 < steps → steps ≤ most_steps → without_leading_plus (decimal steps) ≡ decimal steps
no_plus steps some most =
    let first = first_decimal steps some (below_word steps most) in
    without_leading_plus_none (decimal steps) (λ e. omega arith)

decimal_number : (steps : ℕ) → 0 < steps → steps ≤ most_steps → number_in (decimal steps) ≡ steps
decimal_number steps some most =
    ap (digits_value 10) (no_plus steps some most) ∙ (decimal_is_IsNumeral steps (below_word steps most)).1

abbrev steps_parser : ValueParser
steps_parser = parser.Unsigned 1 most_steps

decimal_accepted : (steps : ℕ) → 0 < steps → steps ≤ most_steps → Accepts false steps_parser (decimal steps)
decimal_accepted steps some most =
    let plain = no_plus steps some most in
    let numeral = decimal_is_IsNumeral steps (below_word steps most) in
    rw plain (numeral.0, rw numeral.1 (below_word steps most), rw numeral.1 (omega arith), rw numeral.1 (omega arith))

utf8_decimal : (steps : ℕ) → steps ≤ most_steps → IsUtf8 (decimal steps)
utf8_decimal steps most = IsUtf8-from_ascii (decimal steps) (IsAscii-decimal steps (below_word steps most))

-- ---- the walks

abbrev start : Walk
start = walk_from nothing_held

-- after `--steps`, and after its value
abbrev asked : Held
asked = record { rows = []; pending = Some (codes "steps", []); skip = 0 }

abbrev given : Text → Held
given number = record { rows = []; pending = Some (codes "steps", number ∷ []); skip = 0 }

abbrev at_file : App → Held → Text → Walk
at_file a h file = after_step (built a).top.rules file (resting h 1) h value

go_asks : Turn (built go_command).top start (codes "--steps") (waiting_for (codes "steps") asked 1)
unfolding clap_on_literals
go_asks = record { fault = refl; walk = refl }

run_asks : Turn (built run_command).top start (codes "--steps") (waiting_for (codes "steps") asked 1)
unfolding clap_on_literals
run_asks = record { fault = refl; walk = refl }

go_gives : (number : Text) → IsBare number → Turn (built go_command).top (waiting_for (codes "steps") asked 1) number (resting (given number) 1)
go_gives number bare = option_turn (built go_command).top (codes "steps") number asked 1 bare

run_gives : (number : Text) → IsBare number → Turn (built run_command).top (waiting_for (codes "steps") asked 1) number (resting (given number) 1)
run_gives number bare = option_turn (built run_command).top (codes "steps") number asked 1 bare

go_names : (file : Text) → IsBare file → Turn (built go_command).top start file (at_file go_command nothing_held file)
go_names file bare = value_turn (built go_command).top file nothing_held 1 bare refl

run_names : (file : Text) → IsBare file → Turn (built run_command).top start file (at_file run_command nothing_held file)
run_names file bare = value_turn (built run_command).top file nothing_held 1 bare refl

go_names_next : (number file : Text) → Accepts false steps_parser number → IsBare file
    → Turn (built go_command).top (resting (given number) 1) file (at_file go_command (given number) file)
go_names_next number file accepted bare =
    value_turn (built go_command).top file (given number) 1 bare (ap (λ kinds. or_else kinds []) (value_kinds-ok false steps_parser number accepted))

run_names_next : (number file : Text) → Accepts false steps_parser number → IsBare file
    → Turn (built run_command).top (resting (given number) 1) file (at_file run_command (given number) file)
run_names_next number file accepted bare =
    value_turn (built run_command).top file (given number) 1 bare (ap (λ kinds. or_else kinds []) (value_kinds-ok false steps_parser number accepted))

-- ---- the ends

go_ends : (file : Text) → rest_fault (built go_command) (at_file go_command nothing_held file) [] ≡ []
unfolding clap_on_literals
go_ends file = refl

run_ends : (file : Text) → rest_fault (built run_command) (at_file run_command nothing_held file) [] ≡ []
unfolding clap_on_literals
run_ends file = refl

go_ends_given : (number file : Text) → rest_fault (built go_command) (at_file go_command (given number) file) [] ≡ []
unfolding clap_on_literals
go_ends_given number file = refl

run_ends_given : (number file : Text) → rest_fault (built run_command) (at_file run_command (given number) file) [] ≡ []
unfolding clap_on_literals
run_ends_given number file = refl

-- ---- no fault

go_plain_fault : (file : Text) → IsBare file → fault_of go_command (plain_words (codes "go") file) ≡ []
go_plain_fault file bare = fault_after (built go_command) start (at_file go_command nothing_held file) file [] (go_names file bare) ∙ go_ends file

run_plain_fault : (file : Text) → IsBare file → fault_of run_command (plain_words (codes "run") file) ≡ []
run_plain_fault file bare = fault_after (built run_command) start (at_file run_command nothing_held file) file [] (run_names file bare) ∙ run_ends file

go_steps_fault : (number file : Text) → IsBare number → Accepts false steps_parser number → IsBare file
    → fault_of go_command (codes "go" ∷ codes "--steps" ∷ number ∷ file ∷ []) ≡ []
go_steps_fault number file digits accepted bare =
    fault_after (built go_command) start (waiting_for (codes "steps") asked 1) (codes "--steps") (number ∷ file ∷ []) go_asks
    ∙ fault_after (built go_command) (waiting_for (codes "steps") asked 1) (resting (given number) 1) number (file ∷ []) (go_gives number digits)
    ∙ fault_after (built go_command) (resting (given number) 1) (at_file go_command (given number) file) file [] (go_names_next number file accepted bare)
    ∙ go_ends_given number file

run_steps_fault : (number file : Text) → IsBare number → Accepts false steps_parser number → IsBare file
    → fault_of run_command (codes "run" ∷ codes "--steps" ∷ number ∷ file ∷ []) ≡ []
run_steps_fault number file digits accepted bare =
    fault_after (built run_command) start (waiting_for (codes "steps") asked 1) (codes "--steps") (number ∷ file ∷ []) run_asks
    ∙ fault_after (built run_command) (waiting_for (codes "steps") asked 1) (resting (given number) 1) number (file ∷ []) (run_gives number digits)
    ∙ fault_after (built run_command) (resting (given number) 1) (at_file run_command (given number) file) file [] (run_names_next number file accepted bare)
    ∙ run_ends_given number file

-- ---- the rows

go_plain_rows : (file : Text) → IsBare file
    → matches_of go_command (plain_words (codes "go") file) ≡ rest_rows (built go_command) (at_file go_command nothing_held file) []
go_plain_rows file bare = rows_after_turn (built go_command) start (at_file go_command nothing_held file) file [] (go_names file bare)

run_plain_rows : (file : Text) → IsBare file
    → matches_of run_command (plain_words (codes "run") file) ≡ rest_rows (built run_command) (at_file run_command nothing_held file) []
run_plain_rows file bare = rows_after_turn (built run_command) start (at_file run_command nothing_held file) file [] (run_names file bare)

go_steps_rows : (number file : Text) → IsBare number → Accepts false steps_parser number → IsBare file
    → matches_of go_command (codes "go" ∷ codes "--steps" ∷ number ∷ file ∷ []) ≡ rest_rows (built go_command) (at_file go_command (given number) file) []
go_steps_rows number file digits accepted bare =
    rows_after_turn (built go_command) start (waiting_for (codes "steps") asked 1) (codes "--steps") (number ∷ file ∷ []) go_asks
    ∙ rows_after_turn (built go_command) (waiting_for (codes "steps") asked 1) (resting (given number) 1) number (file ∷ []) (go_gives number digits)
    ∙ rows_after_turn (built go_command) (resting (given number) 1) (at_file go_command (given number) file) file [] (go_names_next number file accepted bare)

run_steps_rows : (number file : Text) → IsBare number → Accepts false steps_parser number → IsBare file
    → matches_of run_command (codes "run" ∷ codes "--steps" ∷ number ∷ file ∷ []) ≡ rest_rows (built run_command) (at_file run_command (given number) file) []
run_steps_rows number file digits accepted bare =
    rows_after_turn (built run_command) start (waiting_for (codes "steps") asked 1) (codes "--steps") (number ∷ file ∷ []) run_asks
    ∙ rows_after_turn (built run_command) (waiting_for (codes "steps") asked 1) (resting (given number) 1) number (file ∷ []) (run_gives number digits)
    ∙ rows_after_turn (built run_command) (resting (given number) 1) (at_file run_command (given number) file) file [] (run_names_next number file accepted bare)

-- ---- the words are readable

utf8_go : IsUtf8 (codes "go")
utf8_go = IsUtf8-from_ascii (codes "go") (search rules)

utf8_run : IsUtf8 (codes "run")
utf8_run = IsUtf8-from_ascii (codes "run") (search rules)

utf8_steps : IsUtf8 (codes "--steps")
utf8_steps = IsUtf8-from_ascii (codes "--steps") (search rules)

readable_two : (a b : Text) → IsUtf8 a → IsUtf8 b → IsReadable (a ∷ b ∷ [])
readable_two a b ua ub = (omega arith, All-cons IsUtf8 a (b ∷ []) ua (All-cons IsUtf8 b [] ub (All-nil IsUtf8)))

readable_four : (a b c d : Text) → IsUtf8 a → IsUtf8 b → IsUtf8 c → IsUtf8 d → IsReadable (a ∷ b ∷ c ∷ d ∷ [])
readable_four a b c d ua ub uc ud = (
  omega arith,
  All-cons IsUtf8 a (b ∷ c ∷ d ∷ []) ua (All-cons IsUtf8 b (c ∷ d ∷ []) ub (readable_two c d uc ud).1),
)

-- ---- the requests

pub go_listed : (file : Text) → IsUtf8 file → IsFileWord file → Listed (plain_words (codes "go") file) (Go default_steps false (file ∷ []))
unfolding clap_on_literals Listed
go_listed file utf8 is =
    let bare = bare_file file is in
    let rows = go_plain_rows file bare in (
      readable_two (codes "go") file utf8_go utf8,
      (
        (refl, go_plain_fault file bare),
        ap steps_in rows,
        ap stats_in rows,
        ap (all_of (codes "files")) rows,
      ),
    )

pub run_listed : (file : Text) → IsUtf8 file → IsFileWord file → Listed (plain_words (codes "run") file) (Run default_steps false file)
unfolding clap_on_literals Listed
run_listed file utf8 is =
    let bare = bare_file file is in
    let rows = run_plain_rows file bare in (
      readable_two (codes "run") file utf8_run utf8,
      (
        (refl, run_plain_fault file bare),
        ap steps_in rows,
        ap stats_in rows,
        ap (first_of (codes "image")) rows,
      ),
    )

pub go_steps_listed : (file : Text) (steps : ℕ) → IsUtf8 file → IsFileWord file → 0 < steps → steps ≤ most_steps
    → Listed (words_with_steps (codes "go") steps file) (Go steps false (file ∷ []))
unfolding clap_on_literals Listed
go_steps_listed file steps utf8 is some most =
    let bare = bare_file file is in
    let digits = bare_from (decimal steps) (first_decimal steps some (below_word steps most)) in
    let accepted = decimal_accepted steps some most in
    let rows = go_steps_rows (decimal steps) file digits accepted bare in (
      readable_four (codes "go") (codes "--steps") (decimal steps) file utf8_go utf8_steps (utf8_decimal steps most) utf8,
      (
        (refl, go_steps_fault (decimal steps) file digits accepted bare),
        ap steps_in rows ∙ decimal_number steps some most,
        ap stats_in rows,
        ap (all_of (codes "files")) rows,
      ),
    )

pub run_steps_listed : (file : Text) (steps : ℕ) → IsUtf8 file → IsFileWord file → 0 < steps → steps ≤ most_steps
    → Listed (words_with_steps (codes "run") steps file) (Run steps false file)
unfolding clap_on_literals Listed
run_steps_listed file steps utf8 is some most =
    let bare = bare_file file is in
    let digits = bare_from (decimal steps) (first_decimal steps some (below_word steps most)) in
    let accepted = decimal_accepted steps some most in
    let rows = run_steps_rows (decimal steps) file digits accepted bare in (
      readable_four (codes "run") (codes "--steps") (decimal steps) file utf8_run utf8_steps (utf8_decimal steps most) utf8,
      (
        (refl, run_steps_fault (decimal steps) file digits accepted bare),
        ap steps_in rows ∙ decimal_number steps some most,
        ap stats_in rows,
        ap (first_of (codes "image")) rows,
      ),
    )
