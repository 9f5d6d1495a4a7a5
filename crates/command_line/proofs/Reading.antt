-- What a parse found for each argument of a command that is fit.
use Rattle.std.proofs.Common.{◌≡◌, ◌≢◌, ◌⊎◌, ◌∙◌, ◌<◌, ◌==◌, ◌&&◌, ◌||◌, not, ap, ℕ, Bool, true, false, true≢false, zero, suc, List, [], ◌∷◌, length, map, is_some, Option, Some, None, Result, Ok, Err, IfErr, IsErrAnd, refl, sym, subst, inl, inr, arith}
use Rattle.std.specs.List.{All, Any, list_all, list_any, slice_index_or}
use Rattle.std.specs.Str.{bytes_eq}
use Rattle.std.specs.Prelude.{option_map, slice_get, unwrap_or}
use Rattle.std.specs.Borrow.{Bor}
use Rattle.std.proofs.lemmas.List.Elements.{All-get_or}
use Rattle.std.proofs.lemmas.Slice.Eq.{bytes_eq-Decides}
use Rattle.clap.specs.Facts.{args_of, groups_of, IsParsed, Entry, EntryPasses, ValuesPass, PassesArg, HasReading, MayBeEmpty, parser_of, parser_of_value, unwrap_or_range}
use Rattle.clap.specs.Built.{BuildsOrBreaks, BuildsTo, IsPlain, IsParsedFrom, IsAuto, SameRules, is_broken}
use Rattle.clap.specs.Matches.{matched_of, first_value, has_subcommand, one_text, found_of}
use Rattle.clap.specs.Faults.{has_free_rules}
use Rattle.clap.specs.Simple.{App, IsSimple, app_of, built, is_buildable, is_ready, is_ready_leaf, shape_of}
use Rattle.clap.specs.Walk.{Rule, Text, is_empty, is_simple_arg, rule_of}
use Rattle.clap.specs.Values.{Accepts, read_as, reading_of}
use Rattle.clap.specs.Words.{HasKind, Kinds, is_simple, is_simple_and_free, kind_of}
use Rattle.clap.specs.declared.error.Error.{Error}
use Rattle.clap.specs.declared.error.kind.ErrorKind.TheVariants.{OutOfMemory}
use Rattle.clap.specs.declared.builder.value_parser.Reading.{Reading}
use Rattle.clap.specs.declared.builder.value_parser.ValueParser.{ValueParser}
use Rattle.clap.specs.declared.builder.arg.Arg.{Arg}
use Rattle.clap.specs.declared.builder.action.ArgAction.TheVariants.{Set, Count}
use Rattle.clap.specs.declared.builder.command.Command.{Command}
use Rattle.clap.specs.declared.builder.command.Command.TheViews.{out-Command}
use Rattle.clap.specs.declared.parser.matches.ArgMatches.{ArgMatches}
use Rattle.clap.specs.declared.parser.matches.Found.{Found}
use Rattle.clap.specs.declared.parser.matches.MatchedArg.{MatchedArg}
use Rattle.clap.proofs.CallerLemmas.{entry_by_id, present_has_entry, required_present, same_rules_by_id}
use Rattle.clap.proofs.SimpleLemmas.{is_nil, is_false, ready_simple, simple_groups}
use Rattle.clap.proofs.TakesLemmas.{each_rule, free_arg}
use Rattle.clap.proofs.WalkLemmas.{both}
use Rattle.command_line.specs.declared.refusal.WordsNo.{WordsNo}
use Rattle.command_line.specs.declared.refusal.WordsNo.TheVariants.{Usage}
use Rattle.command_line.specs.Matching.{AreRead, IsRead, are_distinct, counts, gives_required, gives_values, ids_of, is_fit, is_loose, is_own_id}

-- ---- the value of an entry

head_passes : (P : Bor (List ℕ) → Type 0) (how : Reading) (vs : List (Bor (List ℕ))) → All P vs
    → is_some (option_map (λ s. s.now) (slice_get vs 0)) ≡ true
    → (v : Bor (List ℕ)) × (option_map (λ s. read_as how s.now) (slice_get vs 0) ≡ Some (read_as how v.now)) × P v
head_passes P how [] h some = cc
head_passes P how (v ∷ vs) h some = (v, refl, All-get_or P (v ∷ vs) 0 v (omega arith) h)

one_text_at_entry : (f : Found) (id : List ℕ) (x : MatchedArg) (how : Reading) (t : List ℕ) → matched_of f id ≡ Some x → x.reading ≡ how
    → option_map (λ s. read_as how s.now) (slice_get x.vals.items 0) ≡ Some t → one_text f id ≡ Some t
one_text_at_entry f id x how t found is v = rw (found, is) v

-- an argument with the id of the caller's argument is read as the caller's parser says
only_reading : (old : Command) (m : ArgMatches) (p : IsParsedFrom old m) (k : ℕ) (d : Arg) → k < length (args_of old)
    → ((j : ℕ) (e : Arg) → j < length (args_of old)
    → bytes_eq (slice_index_or (args_of old) j e).id.now (slice_index_or (args_of old) k d).id.now ≡ true → j ≡ k)
    → (IsAuto (slice_index_or (args_of old) k d) → ⊥)
    → (q : ValueParser) → (slice_index_or (args_of old) k d).value_parser ≡ Some q
    → (r : Reading) → HasReading p.built (slice_index_or (args_of old) k d).id.now r → r ≡ reading_of q
only_reading old m p k d lt unique own q parser r any =
    let s = same_rules_by_id old m p k d lt unique own any.0 any.1 any.2 any.3 any.4.0 in
    let is_q : parser_of any.1 ≡ q = ap parser_of_value (s.parser q parser) in
    sym any.4.1 ∙ ap reading_of is_q

accepts_of : (a y : Arg) (q : ValueParser) (t : List ℕ) → SameRules a y → a.value_parser ≡ Some q
    → Accepts y.ignore_case (parser_of y) t → Accepts a.ignore_case q t
accepts_of a y q t s parser read =
    let is_q : parser_of y ≡ q = ap parser_of_value (s.parser q parser) in
    let as_q : Accepts y.ignore_case q t = subst (λ (w : ValueParser). Accepts y.ignore_case w t) is_q read in
    subst (λ (b : Bool). Accepts b q t) s.ignore_case as_q

passes_read : (old : Command) (m : ArgMatches) (p : IsParsedFrom old m) (k : ℕ) (d : Arg) → k < length (args_of old)
    → ((j : ℕ) (e : Arg) → j < length (args_of old)
    → bytes_eq (slice_index_or (args_of old) j e).id.now (slice_index_or (args_of old) k d).id.now ≡ true → j ≡ k)
    → (IsAuto (slice_index_or (args_of old) k d) → ⊥)
    → (q : ValueParser) → (slice_index_or (args_of old) k d).value_parser ≡ Some q
    → (w : List ℕ) (v : Bor (List ℕ)) → w ≡ (slice_index_or (args_of old) k d).id.now → PassesArg p.built w v.now
    → Accepts (slice_index_or (args_of old) k d).ignore_case q v.now
passes_read old m p k d lt unique own q parser w v key pass =
    let same : bytes_eq pass.1.id.now (slice_index_or (args_of old) k d).id.now ≡ true =
    subst (λ (u : List ℕ). bytes_eq pass.1.id.now u ≡ true) key pass.4.0 in
    accepts_of _ pass.1 q v.now (same_rules_by_id old m p k d lt unique own pass.0 pass.1 pass.2 pass.3 same) parser pass.4.1

-- what one entry gives
read_of : (c : Command) (f : Found) (id : List ℕ) (Q : List ℕ → Type 0) (how : Reading) (x : MatchedArg) (e : Entry)
    → groups_of c ≡ [] → (id ≡ [] → ⊥) → ((r : Reading) → HasReading c id r → r ≡ how)
    → ((v : Bor (List ℕ)) → PassesArg c id v.now → Q v.now)
    → matched_of f id ≡ Some x → is_some (option_map (λ s. s.now) (slice_get x.vals.items 0)) ≡ true
    → e.1 ≡ x → e.0.now ≡ id → EntryPasses c e
    → (t : List ℕ) × (one_text f id ≡ Some (read_as how t)) × Q t
read_of c f id Q how x e no_groups named reads read found first same_x key_id pass =
    let no_group : e.1.is_group ≡ true → ⊥ = λ g. elim (pass.3 g) [
      | inl empty ↦ named (sym key_id ∙ empty)
      | inr lots ↦
          let bad : 0 < 0 = rw no_groups at lots in
          absurd (omega arith)
    ] in
    let all : All (λ v. PassesArg c id v.now) x.vals.items = elim pass.0 [
      | inl g ↦ absurd (no_group g)
      | inr vals ↦ subst (λ (w : List ℕ). All (λ v. PassesArg c w v.now) x.vals.items) key_id (rw same_x at vals)
    ] in
    let is : e.1.reading ≡ how = elim pass.4 [
      | inl g ↦ absurd (no_group g)
      | inr h ↦ reads e.1.reading (subst (λ (w : List ℕ). HasReading c w e.1.reading) key_id h)
    ] in
    finish (head_passes (λ v. PassesArg c id v.now) how x.vals.items all first) (ap (λ (y : MatchedArg). y.reading) (sym same_x) ∙ is)
  where
    finish : ((v : Bor (List ℕ)) × (option_map (λ s. read_as how s.now) (slice_get x.vals.items 0) ≡ Some (read_as how v.now)) × PassesArg c id v.now)
        → x.reading ≡ how → (t : List ℕ) × (one_text f id ≡ Some (read_as how t)) × Q t
    finish hd is = (hd.0.now, one_text_at_entry f id x how (read_as how hd.0.now) found is hd.1, read hd.0 hd.2)

-- what the entry of an id gives, where it is an argument's with a first value
entry_read : (c : Command) (f : Found) (id : List ℕ) (Q : List ℕ → Type 0) (how : Reading) → ValuesPass c f → groups_of c ≡ [] → (id ≡ [] → ⊥)
    → is_some (first_value f id) ≡ true → ((r : Reading) → HasReading c id r → r ≡ how)
    → ((v : Bor (List ℕ)) → PassesArg c id v.now → Q v.now)
    → (t : List ℕ) × (one_text f id ≡ Some (read_as how t)) × Q t
entry_read c f id Q how values no_groups named has reads read = go (matched_of f id) refl has
  where
    step : (x : MatchedArg) → matched_of f id ≡ Some x → is_some (option_map (λ s. s.now) (slice_get x.vals.items 0)) ≡ true
        → ((e : Entry) × (e.1 ≡ x) × (bytes_eq e.0.now id ≡ true) × EntryPasses c e)
        → (t : List ℕ) × (one_text f id ≡ Some (read_as how t)) × Q t
    step x found first got =
        read_of c f id Q how x got.0 no_groups named reads read found first got.1 ((bytes_eq-Decides got.0.0.now id).0 got.2) got.3

    go : (o : Option MatchedArg) → matched_of f id ≡ o → is_some (first_value f id) ≡ true → (t : List ℕ) × (one_text f id ≡ Some (read_as how t)) × Q t
    go None e h =
        let bad : false ≡ true = rw e at h in
        cc
    go (Some x) e h = step x e (rw e at h) (entry_by_id (EntryPasses c) f.entries.items id x values e)

-- ---- lists of ids

id_of : Arg → Text
id_of a = (rule_of a).id

true_of_not : (b : Bool) → not b ≡ true → b ≡ true → ⊥
true_of_not true e t = true≢false (sym e)
true_of_not false e t = true≢false (sym t)

abbrev arg_ids : List Arg → List Text
arg_ids xs = map (λ (rule : Rule). rule.id) (map rule_of xs)

any_here : (p : Text → Bool) (xs : List Arg) (k : ℕ) (d : Arg) → k < length xs → p (slice_index_or xs k d).id.now ≡ true → list_any p (arg_ids xs) ≡ true
any_here p [] k d lt e = absurd (omega arith)
any_here p (x ∷ xs) zero d lt e = rw e refl
any_here p (x ∷ xs) (suc k) d lt e = go (p x.id.now) (any_here p xs k d (omega arith) e)
  where
    go : (b : Bool) → list_any p (arg_ids xs) ≡ true → (b || list_any p (arg_ids xs)) ≡ true
    go true h = refl
    go false h = h

flipped : (a b : Text) → bytes_eq a b ≡ true → bytes_eq b a ≡ true
flipped a b e =
    let same : a ≡ b = (bytes_eq-Decides a b).0 e in
    rw same (rw same at e)

distinct_places : (xs : List Arg) → are_distinct (arg_ids xs) ≡ true → (j k : ℕ) (e d : Arg) → j < length xs → k < length xs
    → bytes_eq (slice_index_or xs j e).id.now (slice_index_or xs k d).id.now ≡ true → j ≡ k
distinct_places [] h j k e d jlt klt same = absurd (omega arith)
distinct_places (x ∷ xs) h zero zero e d jlt klt same = refl
distinct_places (x ∷ xs) h zero (suc k) e d jlt klt same =
    absurd (true_of_not _ (both _ _ h).0 (any_here (bytes_eq x.id.now) xs k d (omega arith) same))
distinct_places (x ∷ xs) h (suc j) zero e d jlt klt same =
    absurd (true_of_not _ (both _ _ h).0 (any_here (bytes_eq x.id.now) xs j e (omega arith) (flipped (slice_index_or xs j e).id.now x.id.now same)))
distinct_places (x ∷ xs) h (suc j) (suc k) e d jlt klt same =
    ap suc (distinct_places xs (both _ _ h).1 j k e d (omega arith) (omega arith) same)

own_here : (xs : List Arg) (k : ℕ) (d : Arg) → k < length xs → list_all is_own_id (arg_ids xs) ≡ true → is_own_id (slice_index_or xs k d).id.now ≡ true
own_here [] k d lt h = absurd (omega arith)
own_here (x ∷ xs) zero d lt h = (both _ _ h).0
own_here (x ∷ xs) (suc k) d lt h = own_here xs k d (omega arith) (both _ _ h).1

same_text : (a b : Text) → a ≡ b → bytes_eq a b ≡ true
same_text a b e = (bytes_eq-Decides a b).1 e

not_empty_id : (id : Text) → is_own_id id ≡ true → id ≡ [] → ⊥
not_empty_id id h e = true≢false (sym h ∙ ap is_own_id e)

not_auto : (a : Arg) → is_own_id a.id.now ≡ true → IsAuto a → ⊥
not_auto a h (inl e) = true≢false (sym h ∙ ap is_own_id e)
not_auto a h (inr e) = true≢false (sym h ∙ ap is_own_id e)

-- ---- values of required arguments

rule_here : (p : Rule → Bool) (xs : List Arg) (k : ℕ) (d : Arg) → k < length xs → p (rule_of (slice_index_or xs k d)) ≡ true → list_any p (map rule_of xs) ≡ true
rule_here p [] k d lt e = absurd (omega arith)
rule_here p (x ∷ xs) zero d lt e = rw e refl
rule_here p (x ∷ xs) (suc k) d lt e = go (p (rule_of x)) (rule_here p xs k d (omega arith) e)
  where
    go : (b : Bool) → list_any p (map rule_of xs) ≡ true → (b || list_any p (map rule_of xs)) ≡ true
    go true h = refl
    go false h = h

abbrev is_loose_one : Text → Rule → Bool
is_loose_one id other = bytes_eq other.id id && is_loose other

loose_here : (c : Command) (id : Text) (any : Any (λ a. (bytes_eq a.id.now id ≡ true) × (is_loose (rule_of a) ≡ true)) (args_of c))
    → list_any (is_loose_one id) (map rule_of (args_of c)) ≡ true
loose_here c id any =
    rule_here (is_loose_one id) (args_of c) any.0 any.1 any.2
    (ap (λ (a : Arg). is_loose_one id (rule_of a)) any.3 ∙ rw (any.4.0, any.4.1) refl)

or_right : (a b : Bool) → b ≡ true → (a || b) ≡ true
or_right true b e = refl
or_right false b e = e

left_true : (a b : Bool) → a ≡ true → (a || b) ≡ true
left_true true b e = refl
left_true false b e = absurd (true≢false (sym e))

delimited : (a : Arg) → is_some a.val_delim ≡ true → not (is_simple_arg a) ≡ true
delimited a some = go (is_simple_arg a) refl
  where
    go : (simple : Bool) → is_simple_arg a ≡ simple → not simple ≡ true
    go false e = refl
    go true e =
        let p = both (is_empty a.overrides.items) _ e in
        let q = both (is_empty a.default_vals_ifs.items) _ p.1 in
        let r = both (is_empty a.groups.items) _ q.1 in
        let s = both (not (is_some a.val_delim)) _ r.1 in
        absurd (true_of_not (is_some a.val_delim) s.0 some)

none_loose : (a : Arg) → MayBeEmpty a → is_loose (rule_of a) ≡ true
none_loose a (inl none) = rw none refl
none_loose a (inr delimiter) =
    or_right ((unwrap_or_range a.num_vals).start_inclusive == 0) (not (is_simple_arg a) || counts (unwrap_or a.action Set)) (left_true _ _ (delimited a delimiter))

count_loose : (a : Arg) → unwrap_or a.action Set ≡ Count → is_loose (rule_of a) ≡ true
count_loose a counted = or_right _ _ (or_right _ _ (ap counts counted))

first_some : (xs : List (Bor (List ℕ))) → 0 < length xs → is_some (option_map (λ s. s.now) (slice_get xs 0)) ≡ true
first_some [] lt = absurd (omega arith)
first_some (x ∷ xs) lt = refl

-- an entry of an id that no loose argument has holds a value
has_value : (c : Command) (f : Found) (id : Text) → ValuesPass c f → groups_of c ≡ [] → (id ≡ [] → ⊥)
    → list_any (is_loose_one id) (map rule_of (args_of c)) ≡ false → is_some (matched_of f id) ≡ true → is_some (first_value f id) ≡ true
has_value c f id values no_groups named tight some = go (matched_of f id) refl some
  where
    loose : Any (λ a. (bytes_eq a.id.now id ≡ true) × (is_loose (rule_of a) ≡ true)) (args_of c) → ⊥
    loose any = true≢false (sym (loose_here c id any) ∙ tight)

    go : (o : Option MatchedArg) → matched_of f id ≡ o → is_some (matched_of f id) ≡ true → is_some (first_value f id) ≡ true
    go None e some = cc
    go (Some x) e some =
        let got = entry_by_id (EntryPasses c) f.entries.items id x values e in
        let same_x : got.0.1 ≡ x = got.1 in
        let key_id : got.0.0.now ≡ id = (bytes_eq-Decides got.0.0.now id).0 got.2 in
        elim got.3.1 [
          | inl h ↦ elim h.1 [
            | inl empty ↦ absurd (named (sym key_id ∙ empty))
            | inr has ↦
                let bad : 0 < 0 = rw no_groups at has in
                absurd (omega arith)
          ]
          | inr (inl v) ↦ rw e (first_some x.vals.items (rw same_x at v))
          | inr (inr (inl h)) ↦
              let any = h.1 in
              absurd (loose (any.0, any.1, any.2, any.3, (rw key_id at any.4.0, count_loose any.1 any.4.1)))
          | inr (inr (inr any)) ↦ absurd (loose (any.0, any.1, any.2, any.3, (rw key_id at any.4.0, none_loose any.1 any.4.1)))
        ]

-- the tests hold of the command as it was built
values_kept : (old new : Command) → gives_required (app_of old) ≡ true → is_simple (app_of old) ≡ true
    → (app_of new ≡ app_of old) ⊎ (is_buildable (app_of old) ≡ true → app_of new ≡ built (app_of old))
    → gives_values (app_of old).top.rules (app_of new).top.rules ≡ true
values_kept old new gives simple (inl same) =
    ap (λ (a : App). gives_values (app_of old).top.rules a.top.rules) same ∙ (both (gives_values (app_of old).top.rules (app_of old).top.rules) _ gives).0
values_kept old new gives simple (inr made) =
    ap (λ (a : App). gives_values (app_of old).top.rules a.top.rules) (made (both (is_buildable (app_of old)) _ simple).0)
    ∙ (both (gives_values (app_of old).top.rules (app_of old).top.rules) _ gives).1

tight_at : (old new : Command) (k : ℕ) (d : Arg) → gives_values (app_of old).top.rules (app_of new).top.rules ≡ true → k < length (args_of old)
    → (slice_index_or (args_of old) k d).required ≡ true
    → list_any (is_loose_one (slice_index_or (args_of old) k d).id.now) (map rule_of (args_of new)) ≡ false
tight_at old new k d gives lt required =
    go (slice_index_or (args_of old) k d).required (list_any (is_loose_one (slice_index_or (args_of old) k d).id.now) (map rule_of (args_of new))) required
    (each_rule (λ rule. not rule.required || not (list_any (is_loose_one rule.id) (map rule_of (args_of new)))) (args_of old) gives k d lt)
  where
    go : (a b : Bool) → a ≡ true → (not a || not b) ≡ true → b ≡ false
    go true b t e = is_false b e
    go false b t e = absurd (true≢false (sym t))

-- ---- what each argument of a fit command gets

-- the parts of the test
record Fits (command : App) : Type 0 where
  ready : is_ready command.top ≡ true
  free : has_free_rules command.top ≡ true
  leaf : command.subs ≡ []
  negates : command.top.subcommand_negates_reqs ≡ false
  distinct : are_distinct (ids_of command) ≡ true
  own : list_all is_own_id (ids_of command) ≡ true
  values : gives_required command ≡ true

fits : (command : App) → is_fit command ≡ true → Fits command
fits command h =
    let p = both (is_simple_and_free command) _ h in
    let q = both (is_ready command.top) _ p.1 in
    let r = both (has_free_rules command.top) _ q.1 in
    let s = both (is_empty command.subs) _ r.1 in
    let t = both (not command.top.subcommand_negates_reqs) _ s.1 in
    let u = both (are_distinct (ids_of command)) _ t.1 in
    let v = both (list_all is_own_id (ids_of command)) _ u.1 in
    record {
      ready = q.0;
      free = r.0;
      leaf = is_nil _ s.0;
      negates = is_false _ t.0;
      distinct = u.0;
      own = v.0;
      values = v.1;
    }

pub fit_and_free : (command : App) → is_fit command ≡ true → is_simple_and_free command ≡ true
fit_and_free command h = (both (is_simple_and_free command) _ h).0

simple_command : (old : Command) → Fits (app_of old) → IsSimple old
simple_command old fit = ready_simple old fit.ready (ap (list_all is_ready_leaf) fit.leaf)

plain_command : (old : Command) → Fits (app_of old) → IsPlain old
plain_command old fit =
    let simple = simple_command old fit in
    let rules = both (shape_of old).is_plain _ (both _ _ fit.ready).0 in
    let in_groups = simple_groups old rules.1 in (
      λ k d lt.
          let a = slice_index_or (args_of old) k d in
          let free = free_arg a (simple.args k d lt) (each_rule (λ (r : Rule). r.is_free) (args_of old) fit.free k d lt) in
          (free.exclusive, free.conflicts, free.overrides, in_groups k d lt),
      simple.groups,
    )

arg_read : (old new : Command) (m : ArgMatches) (from : BuildsTo old new)
    (parsed : (out-Command new).has_globals ≡ false → IsParsed new (found_of m) (has_subcommand m)) → Fits (app_of old)
    → gives_values (app_of old).top.rules (app_of new).top.rules ≡ true → (k : ℕ) (d : Arg) → k < length (args_of old)
    → IsRead (found_of m) (rule_of (slice_index_or (args_of old) k d))
arg_read old new m from parsed fit gives k d lt =
    let p : IsParsedFrom old m = record { built = new; from = from; parsed = parsed } in
    let a = slice_index_or (args_of old) k d in
    let simple = simple_command old fit in
    let plain = plain_command old fit in
    let own = own_here (args_of old) k d lt fit.own in
    let unique : (j : ℕ) (e : Arg) → j < length (args_of old) → bytes_eq (slice_index_or (args_of old) j e).id.now a.id.now ≡ true → j ≡ k =
    λ j e jlt same. distinct_places (args_of old) fit.distinct j k e d jlt lt same in
    let values = (parsed (from.globals ∙ simple.globals)).values in
    let no_groups = (from.plain plain).1 in
    record {
      given = λ required.
          has_value new (found_of m) a.id.now values no_groups (not_empty_id _ own) (tight_at old new k d gives lt required)
          (present_has_entry (found_of m) a.id.now (required_present old m p plain simple.globals fit.negates k d lt required));
      passes = λ q parser has.
          entry_read new (found_of m) a.id.now (λ (t : List ℕ). Accepts a.ignore_case q t) (reading_of q) values
          no_groups (not_empty_id _ own) has (only_reading old m p k d lt unique (not_auto a own) q parser)
          (λ v pass. passes_read old m p k d lt unique (not_auto a own) q parser _ v refl pass);
    }

all_mapped : {X Y : Type 0} (P : Y → Type 0) (f : X → Y) (xs : List X) → All (λ x. P (f x)) xs → All P (map f xs)
all_mapped P f [] h k d lt = absurd (omega arith)
all_mapped P f (x ∷ xs) h zero d lt = h 0 x (omega arith)
all_mapped P f (x ∷ xs) h (suc k) d lt = all_mapped P f xs (λ j e jlt. h (suc j) e (omega arith)) k d (omega arith)

pub fit_and_simple : (command : App) → is_fit command ≡ true → is_simple command ≡ true
fit_and_simple command h = (both (is_simple command) _ (fit_and_free command h)).0

-- the command after the parse was built
pub built_from : (old new : Command) → BuildsOrBreaks old new → (is_broken new ≡ true → ⊥)
    → (app_of new ≡ app_of old) ⊎ (is_buildable (app_of old) ≡ true → app_of new ≡ built (app_of old))
built_from old new (inl broken) whole = absurd (whole broken)
built_from old new (inr made) whole = made.2

pub all_read : (old new : Command) (m : ArgMatches) → BuildsTo old new
    → ((out-Command new).has_globals ≡ false → IsParsed new (found_of m) (has_subcommand m)) → BuildsOrBreaks old new → (is_broken new ≡ true → ⊥)
    → is_fit (app_of old) ≡ true → AreRead (app_of old).top.rules (found_of m)
all_read old new m from parsed after whole fit =
    let parts = fits (app_of old) fit in
    let gives = values_kept old new parts.values (fit_and_simple (app_of old) fit) (built_from old new after whole) in
    all_mapped (IsRead (found_of m)) rule_of (args_of old) (λ k d lt. arg_read old new m from parsed parts gives k d lt)

-- an error of another kind than memory comes only of a fault
pub usage_only : (kinds : Kinds) (e : Error) → HasKind kinds e → kind_of e ≢ OutOfMemory → kinds ≢ []
usage_only kinds e (inl memory) other none = other memory
usage_only [] e (inr among) other none = among
usage_only (k ∷ ks) e (inr among) other none = cc

pub usage_refused : {T : Type 0} (r : Result T WordsNo) (kinds : Kinds) (e : Error) → HasKind kinds e
    → IsErrAnd r (λ no. no ≡ Usage → kind_of e ≢ OutOfMemory) → IfErr r (λ no. no ≡ Usage → kinds ≢ [])
usage_refused (Ok x) kinds e has is = tt
usage_refused (Err why) kinds e has is = λ usage. usage_only kinds e has (is usage)
