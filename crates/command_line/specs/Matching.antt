-- What the code asks of a command, and what it may then read of its matches.
use Rattle.std.specs.Prelude.{◌≡◌, ◌==◌, ◌&&◌, ◌||◌, ⊤, ℕ, Bool, true, false, not, List, [], ◌∷◌, All, Option, Some, None, codes, is_some, map}
use Rattle.std.specs.List.{list_all, list_any}
use Rattle.std.specs.Option.{option_map_or}
use Rattle.std.specs.Str.{bytes_eq}
use Rattle.clap.specs.Facts.{unwrap_or_range}
use Rattle.clap.specs.Faults.{has_free_rules}
use Rattle.clap.specs.Simple.{built, is_ready}
use Rattle.clap.specs.Walk.{action_of, is_empty}
use Rattle.clap.specs.Words.{Accepts, App, Rule, Text, first_value, is_simple_and_free, one_text, read_as, reading_of, IsUnsignedIn}
use Rattle.clap.specs.declared.parser.matches.Found.{Found}
use Rattle.clap.specs.declared.builder.action.ArgAction.{ArgAction}
use Rattle.clap.specs.declared.builder.action.ArgAction.TheVariants.{Count}
use Rattle.clap.specs.declared.builder.value_parser.ValueParser.{ValueParser}
use Rattle.clap.specs.declared.builder.value_parser.ValueParser.TheVariants as vp

-- the ids differ
abbrev pub are_distinct : List Text → Bool
are_distinct [] = true
are_distinct (id ∷ ids) = not (list_any (bytes_eq id) ids) && are_distinct ids

-- an id that clap gives to no argument of its own
abbrev pub is_own_id : Text → Bool
is_own_id id = not (is_empty id) && (not (bytes_eq id (codes "help")) && not (bytes_eq id (codes "version")))

abbrev pub ids_of : App → List Text
ids_of command = map (λ (rule : Rule). rule.id) command.top.rules

abbrev pub counts : ArgAction → Bool
counts Count = true
counts _ = false

-- a use of the argument may leave it without a value
abbrev pub is_loose : Rule → Bool
is_loose rule = (unwrap_or_range rule.range).start_inclusive == 0 || (not rule.is_simple || counts (action_of rule))

-- no argument with the id of a required one is loose
abbrev pub gives_values : List Rule → List Rule → Bool
gives_values wanted rules =
    list_all (λ rule. not rule.required || not (list_any (λ other. bytes_eq other.id rule.id && is_loose other) rules)) wanted

-- each required argument gets a value, before the command is built and after it
abbrev pub gives_required : App → Bool
gives_required command = gives_values command.top.rules command.top.rules && gives_values command.top.rules (built command).top.rules

-- the command has no subcommand, no rule on two arguments, no two arguments of one id and no required argument that
-- may be left without a value
abbrev pub is_fit : App → Bool
is_fit command = is_simple_and_free command && (is_ready command.top && (has_free_rules command.top
    && (is_empty command.subs && (not command.top.subcommand_negates_reqs
    && (are_distinct (ids_of command) && (list_all is_own_id (ids_of command) && gives_required command))))))

-- what a parse found for an argument: a value where it is required, and a first value that passed its parser and is
-- read as that parser says
pub record IsRead (found : Found) (rule : Rule) : Type 0 where
  pub given : rule.required ≡ true → is_some (first_value found rule.id) ≡ true
  pub passes : (parser : ValueParser) → rule.parser ≡ Some parser → is_some (first_value found rule.id) ≡ true
      → (text : Text) × (one_text found rule.id ≡ Some (read_as (reading_of parser) text)) × Accepts rule.ignore_case parser text

-- what a parse found for each of the arguments
abbrev pub AreRead : List Rule → Found → Type 0
AreRead rules found = All (IsRead found) rules

-- a text, if there is one, is a number in the bounds
abbrev pub IsNumeralIn : ℕ → ℕ → Option Text → Type 0
IsNumeralIn least most None = ⊤
IsNumeralIn least most (Some text) = IsUnsignedIn least most text

-- a text, if there is one, is `true` or `false`
abbrev pub IsSwitch : Option Text → Type 0
IsSwitch None = ⊤
IsSwitch (Some text) = Accepts false vp.Bool text

-- the text is there, and is `true`
abbrev pub is_switched_on : Option Text → Bool
is_switched_on text = option_map_or (λ t. bytes_eq t (codes "true")) text false
