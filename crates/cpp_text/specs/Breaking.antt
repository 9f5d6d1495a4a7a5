-- Which rule a unit breaks in phases 1 to 4, and where: one row for each rule (C90 6.8).
use Rattle.std.specs.Prelude.{◌≡◌, ◌≢◌, ◌⊎◌, ℕ, ◌<◌, true, List, [], ◌∷◌, ◌++◌, codes, Some}
use Rattle.fsc_base.specs.declared.place.Broken.{Broken}
use Rattle.fsc_base.specs.declared.place.Place.{Place}
use Rattle.fsc_base.specs.declared.rule.Rule.{Rule}
use Rattle.fsc_base.specs.declared.rule.Rule.TheVariants.{K31, K33, K34, K36, K37, K39, K40, K41, K43, L02}
use Rattle.fsc_outside.specs.FileMap.{FileMap, file_of}
use Rattle.pp_token.specs.declared.token.PpToken.{PpToken}
use Rattle.pp_token.specs.Tokens.{Tokens, BrokenPre}
use Rattle.cpp_expand.specs.Defining.{Defines, Undefines, SameMacro, content_of}
use Rattle.cpp_expand.specs.Expanding.{Expands}
use Rattle.cpp_expand.specs.Refusing.{BrokenExpand, counted}
use Rattle.cpp_expand.specs.Table.{Table, Macro}
use Rattle.cpp_cond.specs.Conditions.{BrokenCondition}
use Rattle.cpp_text.specs.Lines.{IsDirective, IsText, Directs, IsOpenQuote, IsRead, Group, Open}
use Rattle.cpp_text.specs.Translating.{Made, Moment, Adds, Enters, Moves, Form, Includes, Finds, Numbers, first_of, Numbered}

-- from a moment on, also into the files that are included
pub data Reaches (files : FileMap) (unit : ℕ) : Moment → Moment → Type 0 where
  here : (at : Moment) → Reaches files unit at at
  on : (from next to : Moment) → Moves files unit from next → Reaches files unit next to → Reaches files unit from to
  within : (from behind inner to : Moment) → Enters files unit from behind inner → Reaches files unit inner to → Reaches files unit from to

-- at this moment the next directive is of that name, with its `#` there and these operands, when this was made
pub data Next (name : List ℕ) (at : Moment) : (line operands : List PpToken) → Place → Made → Type 0 where
  is : (text rest : List PpToken) (operands inner : List PpToken) (hash : PpToken) (made : Made) → at.rest ≡ text ++ (hash ∷ inner) ++ rest → IsText text → Directs name (hash ∷ inner) operands
      → Adds at.groups text at.made made → Next name at (hash ∷ inner) (content_of operands) hash.place made

-- the names of directives whose operands may have no quote that is not closed
abbrev pub ReadsOperands : List ℕ → Type 0
ReadsOperands name = (name ≡ codes "define") ⊎ ((name ≡ codes "undef") ⊎ ((name ≡ codes "include") ⊎ ((name ≡ codes "line") ⊎ (name ≡ codes "if"))))

-- the name of no directive
abbrev pub known : List (List ℕ)
known = codes "define" ∷ codes "undef" ∷ codes "include" ∷ codes "line" ∷ codes "error" ∷ codes "pragma" ∷ codes "if" ∷ codes "ifdef" ∷ codes "ifndef" ∷ codes "elif" ∷ codes "else" ∷ codes "endif" ∷ []

-- What is broken at a moment.
pub data BreaksAt (files : FileMap) (unit : ℕ) (at : Moment) : Rule → Place → Type 0 where
  -- K38, K42, L10 and L15 in the text up to a directive or the end
  expansion : (text rest : List PpToken) (rule : Rule) (place : Place) → at.rest ≡ text ++ rest → IsText text → IsRead at.groups
      → BrokenExpand at.made.table text (counted at.made.tokens) rule place → BreaksAt files unit at rule place
  -- a quote in text that is read
  text_quote : (before behind rest : List PpToken) (quote : PpToken) → at.rest ≡ (before ++ quote ∷ behind) ++ rest → IsText (before ++ quote ∷ behind) → IsRead at.groups → IsOpenQuote quote
      → BreaksAt files unit at K31 quote.place
  -- a quote in a directive that is read
  line_quote : (name : List ℕ) (line : List PpToken) (before behind : List PpToken) (quote : PpToken) (place : Place) (made : Made) → ReadsOperands name → Next name at line (before ++ quote ∷ behind) place made
      → IsRead at.groups → IsOpenQuote quote → BreaksAt files unit at K31 quote.place
  elif_quote : (line : List PpToken) (before behind : List PpToken) (quote : PpToken) (place : Place) (made : Made) (group : Group) (groups : List Group) → Next (codes "elif") at line (before ++ quote ∷ behind) place made
      → at.groups ≡ group ∷ groups → group.choice ≡ Open → IsOpenQuote quote → BreaksAt files unit at K31 quote.place
  -- an unknown directive
  unknown : (name : List ℕ) (line operands : List PpToken) (place : Place) (made : Made) → Next name at line operands place made → IsRead at.groups
      → ((before behind : List (List ℕ)) → known ≡ before ++ name ∷ behind → ⊥) → BreaksAt files unit at K33 place
  no_name : (text inner rest : List PpToken) (hash first : PpToken) → at.rest ≡ text ++ (hash ∷ first ∷ inner) ++ rest → IsText text → IsDirective (hash ∷ first ∷ inner) → IsRead at.groups
      → content_of (first ∷ inner) ≢ [] → ((name : List ℕ) (operands : List PpToken) → Directs name (hash ∷ first ∷ inner) operands → ⊥) → BreaksAt files unit at K33 hash.place
  -- `#elif`, `#else` or `#endif` without an `#if`, or behind `#else`
  unmatched : (name : List ℕ) (line operands : List PpToken) (place : Place) (made : Made) → (name ≡ codes "elif") ⊎ ((name ≡ codes "else") ⊎ (name ≡ codes "endif"))
      → Next name at line operands place made → at.groups ≡ [] → BreaksAt files unit at K34 place
  out_of_order : (name : List ℕ) (line operands : List PpToken) (place : Place) (made : Made) (group : Group) (groups : List Group) → (name ≡ codes "elif") ⊎ (name ≡ codes "else")
      → Next name at line operands place made → at.groups ≡ group ∷ groups → group.has_else ≡ true → BreaksAt files unit at K34 place
  -- an `#endif` is missing
  missing : IsText at.rest → at.groups ≢ [] → BreaksAt files unit at K34 at.end
  -- K35, K44, K45, L04 and L06, and those of expansion, in a condition that is computed
  condition : (name : List ℕ) (line operands : List PpToken) (place spot : Place) (rule : Rule) (made : Made) → (name ≡ codes "if") ⊎ ((name ≡ codes "ifdef") ⊎ (name ≡ codes "ifndef"))
      → Next name at line operands place made → IsRead at.groups → BrokenCondition made.table line rule spot → BreaksAt files unit at rule spot
  elif : (line operands : List PpToken) (place spot : Place) (rule : Rule) (made : Made) (group : Group) (groups : List Group) → Next (codes "elif") at line operands place made
      → at.groups ≡ group ∷ groups → group.choice ≡ Open → BrokenCondition made.table line rule spot → BreaksAt files unit at rule spot
  -- another macro of that name
  again : (line operands : List PpToken) (place : Place) (made : Made) (name : List ℕ) (macro other : Macro) → Next (codes "define") at line operands place made → IsRead at.groups
      → Defines line name macro → made.table.macro_of name ≡ Some other → (SameMacro macro other → ⊥) → BreaksAt files unit at K36 place
  -- a malformed `#define` or `#undef`
  define : (line operands : List PpToken) (place : Place) (made : Made) → Next (codes "define") at line operands place made → IsRead at.groups
      → ((name : List ℕ) (macro : Macro) → Defines line name macro → ⊥) → BreaksAt files unit at K37 place
  undef : (line operands : List PpToken) (place : Place) (made : Made) → Next (codes "undef") at line operands place made → IsRead at.groups
      → ((name : List ℕ) → Undefines line name → ⊥) → BreaksAt files unit at K37 place
  -- `#line`
  line : (line operands tokens : List PpToken) (place : Place) (made : Made) → Next (codes "line") at line operands place made → IsRead at.groups → Expands made.table operands tokens
      → ((n : ℕ) (name : List ℕ) → Numbers made.table.file tokens n name → ⊥) → BreaksAt files unit at K39 place
  -- expansion of what stands behind `#line` or `#include`
  operands : (name : List ℕ) (line operands : List PpToken) (place spot : Place) (rule : Rule) (made : Made) → (name ≡ codes "line") ⊎ (name ≡ codes "include")
      → Next name at line operands place made → IsRead at.groups → BrokenExpand made.table operands 0 rule spot → BreaksAt files unit at rule spot
  -- no form of `#include`
  include : (line operands tokens : List PpToken) (place : Place) (made : Made) → Next (codes "include") at line operands place made → IsRead at.groups → Expands made.table operands tokens
      → ((form : Form) (name : List ℕ) → Includes made.table operands form name → ⊥) → BreaksAt files unit at K41 place
  -- 64 files are nested already
  depth : (line operands : List PpToken) (place : Place) (made : Made) (form : Form) (name : List ℕ) → Next (codes "include") at line operands place made → IsRead at.groups
      → Includes made.table operands form name → (at.depth < 64 → ⊥) → BreaksAt files unit at L02 place
  -- the file is absent
  absent : (line operands : List PpToken) (place : Place) (made : Made) (form : Form) (name : List ℕ) → Next (codes "include") at line operands place made → IsRead at.groups
      → Includes made.table operands form name → ((found bytes : List ℕ) → Finds files at.name name form found bytes → ⊥) → BreaksAt files unit at K40 place
  -- K32 or L14 in an included file
  included : (line operands : List PpToken) (place : Place) (made : Made) (form : Form) (name found bytes : List ℕ) (number : ℕ) (broken : Broken)
      → Next (codes "include") at line operands place made → IsRead at.groups → Includes made.table operands form name → at.depth < 64 → Finds files at.name name form found bytes
      → Numbered made.opened found number → BrokenPre unit number bytes broken → BreaksAt files unit at broken.rule broken.place
  -- `#error`
  error : (line operands : List PpToken) (place : Place) (made : Made) → Next (codes "error") at line operands place made → IsRead at.groups → BreaksAt files unit at K43 place

-- What a unit breaks.
pub data BrokenUnit (predefined : Table) (files : FileMap) (unit : ℕ) (name : List ℕ) : Rule → Place → Type 0 where
  -- K32 or L14 in its own file
  own : (bytes : List ℕ) (broken : Broken) → file_of files name ≡ Some bytes → BrokenPre unit 0 bytes broken → BrokenUnit predefined files unit name broken.rule broken.place
  on_the_way : (bytes : List ℕ) (tokens : List PpToken) (end : PpToken) (at : Moment) (rule : Rule) (place : Place) → file_of files name ≡ Some bytes → Tokens unit 0 bytes (tokens ++ end ∷ [])
      → Reaches files unit (first_of predefined name tokens end.place) at → BreaksAt files unit at rule place → BrokenUnit predefined files unit name rule place
