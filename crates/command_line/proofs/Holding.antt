-- From what a parse found to the request that the words hold.
use Rattle.std.proofs.Common.{◌≡◌, ◌∙◌, ap, ℕ, Bool, true, false, List, [], ◌∷◌, is_some, Option, Some, None, refl, sym, subst, codes}
use Rattle.std.specs.Prelude.{option_and_then, option_map, slice_get}
use Rattle.std.specs.Borrow.{Bor}
use Rattle.std.specs.Option.{option_map_or}
use Rattle.clap.specs.Words.{Accepts, App, IsUnsignedIn, Rule, Text, all_of, fault_of, first_of, first_value, matched_of, matches_of, one_of, one_text, raw_values, read_as, rows_of}
use Rattle.clap.specs.declared.parser.matches.Found.{Found}
use Rattle.clap.specs.declared.parser.matches.MatchedArg.{MatchedArg}
use Rattle.clap.specs.declared.builder.value_parser.Reading.{Reading}
use Rattle.clap.specs.declared.builder.value_parser.ValueParser.TheVariants as parser
use Rattle.clap.proofs.WalkLemmas.{first_value-rows, one_text-rows, raw_values-rows}
use Rattle.command_line.specs.Commands.{default_cost, default_steps}
use Rattle.command_line.specs.Matching.{AreRead, IsNumeralIn, IsRead, IsSwitch, is_switched_on}
use Rattle.command_line.specs.Requests.{Takes, cost_in, number_in, stats_in, steps_in}

pub rules_read : (command literal : App) (f : Found) → command ≡ literal → AreRead command.top.rules f → AreRead literal.top.rules f
rules_read command literal f is read = subst (λ (a : App). AreRead a.top.rules f) is read

module _ (command literal : App) (words : List Text) (f : Found) (is : command ≡ literal) (rows : rows_of f ≡ matches_of command words) where
  same_rows : rows_of f ≡ matches_of literal words
  same_rows = rows ∙ ap (λ (a : App). matches_of a words) is

  pub first_is : (id name : Text) → first_value f id ≡ Some name → first_of id (matches_of literal words) ≡ Some name
  first_is id name e = ap (first_of id) (sym same_rows) ∙ (sym (first_value-rows f id) ∙ e)

  pub all_is : (id : Text) (names : List Text) → option_map raw_values (matched_of f id) ≡ Some names → all_of id (matches_of literal words) ≡ Some names
  all_is id names e = ap (all_of id) (sym same_rows) ∙ (sym (raw_values-rows f id) ∙ e)

  one_is : (id : Text) → one_of id (matches_of literal words) ≡ one_text f id
  one_is id = ap (one_of id) (sym same_rows) ∙ sym (one_text-rows f id)

  pub steps_is : (steps : ℕ) → steps ≡ option_map_or number_in (one_text f (codes "steps")) default_steps → steps_in (matches_of literal words) ≡ steps
  steps_is steps e = ap (λ t. option_map_or number_in t default_steps) (one_is (codes "steps")) ∙ sym e

  pub cost_is : (cost : ℕ) → cost ≡ option_map_or number_in (one_text f (codes "cost")) default_cost → cost_in (matches_of literal words) ≡ cost
  cost_is cost e = ap (λ t. option_map_or number_in t default_cost) (one_is (codes "cost")) ∙ sym e

  pub stats_is : (stats : Bool) → stats ≡ is_switched_on (one_text f (codes "stats")) → stats_in (matches_of literal words) ≡ stats
  stats_is stats e = ap is_switched_on (one_is (codes "stats")) ∙ sym e

  pub count_is : (count : ℕ) → option_map number_in (one_text f (codes "count")) ≡ Some count
      → option_map number_in (one_of (codes "count") (matches_of literal words)) ≡ Some count
  count_is count e = ap (option_map number_in) (one_is (codes "count")) ∙ e

  pub takes_is : slice_get words 0 ≡ Some literal.top.name → fault_of command words ≡ [] → Takes literal words
  takes_is first taken = (first, ap (λ (a : App). fault_of a words) (sym is) ∙ taken)

-- ---- values that passed their parser

some_first : (f : Found) (id : Text) (text : Text) → one_text f id ≡ Some text → is_some (first_value f id) ≡ true
some_first f id text e = at_entry (matched_of f id) e
  where
    at_value : (how : Reading) (vs : List (Bor Text)) → option_map (λ s. read_as how s.now) (slice_get vs 0) ≡ Some text
        → is_some (option_map (λ s. s.now) (slice_get vs 0)) ≡ true
    at_value how [] none = cc
    at_value how (v ∷ vs) some = refl

    at_entry : (o : Option MatchedArg) → option_and_then (λ (a : MatchedArg). option_map (λ s. read_as a.reading s.now) (slice_get a.vals.items 0)) o ≡ Some text
        → is_some (option_and_then (λ (a : MatchedArg). option_map (λ s. s.now) (slice_get a.vals.items 0)) o) ≡ true
    at_entry None none = cc
    at_entry (Some x) some = at_value x.reading x.vals.items some

inner : (o : Option Text) (a b : Text) → o ≡ Some a → o ≡ Some b → b ≡ a
inner o a b p q = cc

pub numeral_in : (f : Found) (rule : Rule) (least most : ℕ) → IsRead f rule → rule.parser ≡ Some (parser.Unsigned least most)
    → IsNumeralIn least most (one_text f rule.id)
numeral_in f rule least most read is = go (one_text f rule.id) refl
  where
    go : (o : Option Text) → one_text f rule.id ≡ o → IsNumeralIn least most o
    go None e = tt
    go (Some text) e =
        let got = read.passes (parser.Unsigned least most) is (some_first f rule.id text e) in
        subst (λ (t : Text). IsUnsignedIn least most t) (inner (one_text f rule.id) text got.0 e got.1) got.2

pub switch_in : (f : Found) (rule : Rule) → IsRead f rule → rule.parser ≡ Some parser.Bool → IsSwitch (one_text f rule.id)
switch_in f rule read is = go (one_text f rule.id) refl
  where
    go : (o : Option Text) → one_text f rule.id ≡ o → IsSwitch o
    go None e = tt
    go (Some text) e =
        let got = read.passes parser.Bool is (some_first f rule.id text e) in
        subst (λ (t : Text). Accepts false parser.Bool t) (inner (one_text f rule.id) text got.0 e got.1) got.2

-- a required value has a text
pub text_given : (f : Found) (rule : Rule) (least most : ℕ) → IsRead f rule → rule.parser ≡ Some (parser.Unsigned least most)
    → is_some (first_value f rule.id) ≡ true → is_some (one_text f rule.id) ≡ true
text_given f rule least most read is has =
    let got = read.passes (parser.Unsigned least most) is has in
    ap is_some got.1
