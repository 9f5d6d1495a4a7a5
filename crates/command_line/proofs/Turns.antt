-- The walk of clap over words, turn by turn.
use Rattle.std.proofs.Common.{◌≡◌, ◌∙◌, ◌==◌, ap, ap₂, ℕ, false, List, [], ◌∷◌, None, refl, cond, is_some, fold}
use Rattle.std.specs.Str.{bytes_eq}
use Rattle.std.specs.Option.{option_map_or}
use Rattle.clap.specs.Lexer.{long_of, short_of}
use Rattle.clap.specs.Walk.{Held, Row, Rule, Step, Walk, after_step, finished, idle, long_or_other, option, plain_word, settled, short_or_plain, trailing, value, walked, word_met}
use Rattle.clap.specs.Simple.{App, Shape, entered}
use Rattle.clap.specs.Faults.{bundle_fault, check_fault, defaults_fault, entered_fault, flag_word_fault, settle_fault, step_fault, turn_fault, walk_fault, word_fault}
use Rattle.clap.specs.Kinds.{Kinds, or_else}
use Rattle.clap.specs.Words.{Text}

-- ---- a word without a dash in front is no flag

-- nothing in the word's front makes it a flag
pub record IsBare (word : Text) : Type 0 where
  dashes : bytes_eq word (45 ∷ 45 ∷ []) ≡ false
  long : long_of word ≡ None
  short : short_of word ≡ None

pub bare_word : (x : ℕ) (xs : Text) → (x == 45) ≡ false → IsBare (x ∷ xs)
bare_word x xs e = record { dashes = rw e refl; long = rw e refl; short = rw e refl }

pub bare_empty : IsBare []
bare_empty = record { dashes = refl; long = refl; short = refl }

flagless : (s : Shape) (word : Text) (h : Held) → IsBare word
    → cond (bytes_eq word (45 ∷ 45 ∷ [])) [] (flag_word_fault s.rules s.args_override_self (long_of word) word h) ≡ []
flagless s word h bare =
    ap (λ b. cond b [] (flag_word_fault s.rules s.args_override_self (long_of word) word h)) bare.dashes
    ∙ ap (λ o. flag_word_fault s.rules s.args_override_self o word h) bare.long
    ∙ ap (λ o. option_map_or (λ flags. bundle_fault s.rules s.args_override_self flags h) o []) bare.short

pub no_fault_idle : (s : Shape) (word : Text) (h : Held) → IsBare word → word_fault s [] false idle word h ≡ []
no_fault_idle s word h bare = flagless s word h bare

pub no_fault_option : (s : Shape) (id word : Text) (h : Held) → IsBare word → word_fault s [] false (option id) word h ≡ []
no_fault_option s id word h bare = flagless s word h bare

-- ---- a turn, and what is left of the walk after it

-- the word takes the walk on without a fault
pub record Turn (s : Shape) (w : Walk) (word : Text) (after : Walk) : Type 0 where
  pub fault : turn_fault s [] w word ≡ []
  pub walk : walked s.rules [] w word ≡ after

-- a walk that is at rest between two words, and one that waits for the value of an option
abbrev pub resting : Held → ℕ → Walk
resting h position = record { held = h; waiting = idle; position = position; is_trailing = false; stopped = None }

abbrev pub waiting_for : Text → Held → ℕ → Walk
waiting_for id h position = record { held = h; waiting = option id; position = position; is_trailing = false; stopped = None }

value_met : (c : List Rule) (word : Text) (position : ℕ) (h : Held) → IsBare word → word_met c [] false idle position word h ≡ (h, value)
value_met c word position h bare =
    ap (λ b. cond b (h, trailing position) (long_or_other c idle word (long_of word) h)) bare.dashes
    ∙ ap (λ o. long_or_other c idle word o h) bare.long ∙ ap (λ o. short_or_plain c idle word o h) bare.short

option_value_met : (c : List Rule) (id word : Text) (position : ℕ) (h : Held) → IsBare word
    → word_met c [] false (option id) position word h ≡ plain_word c (option id) word h
option_value_met c id word position h bare =
    ap (λ b. cond b (h, trailing position) (long_or_other c (option id) word (long_of word) h)) bare.dashes
    ∙ ap (λ o. long_or_other c (option id) word o h) bare.long ∙ ap (λ o. short_or_plain c (option id) word o h) bare.short

-- a bare word at rest goes to the positional
pub value_turn : (s : Shape) (word : Text) (h : Held) (position : ℕ) → IsBare word → step_fault s position h value ≡ []
    → Turn s (resting h position) word (after_step s.rules word (resting h position) h value)
unfolding walked
value_turn s word h position bare passes = record {
  fault = ap₂ (λ (kinds : Kinds) (met : Held × Step). or_else kinds (step_fault s position met.0 met.1))
      (no_fault_idle s word h bare) (value_met s.rules word position h bare) ∙ passes;
  walk = ap (λ (met : Held × Step). after_step s.rules word (resting h position) met.0 met.1) (value_met s.rules word position h bare);
}

-- a bare word after an option is its value
pub option_turn : (s : Shape) (id word : Text) (h : Held) (position : ℕ) → IsBare word
    → Turn s (waiting_for id h position) word (after_step s.rules word (waiting_for id h position) (plain_word s.rules (option id) word h).0 (plain_word s.rules (option id) word h).1)
unfolding walked
option_turn s id word h position bare = record {
  fault = ap₂ (λ (kinds : Kinds) (met : Held × Step). or_else kinds (step_fault s position met.0 met.1))
      (no_fault_option s id word h bare) (option_value_met s.rules id word position h bare);
  walk = ap (λ (met : Held × Step). after_step s.rules word (waiting_for id h position) met.0 met.1) (option_value_met s.rules id word position h bare);
}

-- the faults after the walk
abbrev pub end_fault : App → Walk → Kinds
end_fault a w = or_else (entered_fault a w.stopped) (or_else (settle_fault a.top.rules a.top.args_override_self w.held)
    (or_else (defaults_fault (settled a.top.rules w.held).rows a.top.rules)
    (check_fault a.top (finished a.top.rules w.held) (is_some (entered a w.stopped)))))

-- the faults from here on
abbrev pub rest_fault : App → Walk → List Text → Kinds
rest_fault a w words = or_else (walk_fault a.top [] w words) (end_fault a (fold (walked a.top.rules []) w words))

-- the rows at the end
abbrev pub rest_rows : App → Walk → List Text → List Row
rest_rows a w words = finished a.top.rules (fold (walked a.top.rules []) w words).held

pub fault_after : (a : App) (w after : Walk) (word : Text) (rest : List Text) → Turn a.top w word after → rest_fault a w (word ∷ rest) ≡ rest_fault a after rest
unfolding walk_fault
fault_after a w after word rest turn =
    ap₂ (λ (kinds : Kinds) (v : Walk). or_else (or_else kinds (walk_fault a.top [] v rest)) (end_fault a (fold (walked a.top.rules []) v rest))) turn.fault turn.walk

pub rows_after_turn : (a : App) (w after : Walk) (word : Text) (rest : List Text) → Turn a.top w word after → rest_rows a w (word ∷ rest) ≡ rest_rows a after rest
rows_after_turn a w after word rest turn = ap (λ (v : Walk). rest_rows a v rest) turn.walk
