-- Phase 4: the tokens of a unit (C90 5.1.1.2 and 6.8).
use Rattle.std.specs.Prelude.{◌≡◌, ◌≢◌, ◌⊎◌, ℕ, ◌+◌, ◌<◌, ◌^◌, ℤ, pos, ◌-ℤ◌, Bool, true, false, List, [], ◌∷◌, ◌++◌, codes, length, Some, None, if◌then◌else◌}
use Rattle.std.specs.List.{list_all}
use Rattle.std.specs.Char.{is_ascii_digit}
use Rattle.std.specs.Str.Parse.{digits_value}
use Rattle.fsc_base.specs.declared.place.Place.{Place}
use Rattle.fsc_outside.specs.FileMap.{FileMap, file_of}
use Rattle.pp_token.specs.declared.token.PpToken.{PpToken}
use Rattle.pp_token.specs.declared.token.PpKind.TheVariants.{Header, Number, Str}
use Rattle.pp_token.specs.HideSets.{with_name}
use Rattle.pp_token.specs.Tokens.{Tokens}
use Rattle.cpp_expand.specs.Defining.{Defines, Undefines, Changes, content_of}
use Rattle.cpp_expand.specs.Expanding.{Expands}
use Rattle.cpp_expand.specs.Table.{Table, Macro}
use Rattle.c_lexer.specs.Answers.{IsUnbroken}
use Rattle.c_lexer.specs.Lexing.{string_of}
use Rattle.libc_wrap.specs.Header.{headers, text_of}
use Rattle.cpp_cond.specs.Conditions.{Chooses}
use Rattle.cpp_text.specs.Lines.{IsDirective, IsText, Directs, IsRead, Group, Open, begun, unread, after_elif, after_else}

-- what a unit has made so far: its macros, its files in order of first opening, and its tokens
pub record Made : Type 0 where
  pub table : Table
  pub opened : List (List ℕ)
  pub tokens : List PpToken

-- where its reading stands: in a file of that name, which so many others include, with these groups open, the innermost
-- first, and these tokens of the file not read yet
pub record Moment : Type 0 where
  pub depth : ℕ
  pub name : List ℕ
  pub groups : List Group
  pub rest : List PpToken
  -- where the file ends
  pub end : Place
  pub made : Made

-- what `__FILE__` gives, and what `__LINE__` adds to a token's line
abbrev pub located : List ℕ → ℤ → Table → Table
located file shift table = record table { file = file; shift = shift }

-- ---- text

-- The lines of text up to a directive or the end of a file are expanded together, where their group is read.
pub data Adds (groups : List Group) (text : List PpToken) (made : Made) : Made → Type 0 where
  read : (tokens : List PpToken) → IsRead groups → Expands made.table text tokens → Adds groups text made (record made { tokens = made.tokens ++ tokens })
  skipped : (IsRead groups → ⊥) → Adds groups text made made

-- ---- conditional inclusion

-- what a line makes of the groups that are open
pub data Divides (table : Table) : List PpToken → List Group → List Group → Type 0 where
  begins : (line : List PpToken) (groups : List Group) (b : Bool) → IsRead groups → ((name : List ℕ) → name ≡ codes "elif" → (rest : List PpToken) → Directs name line rest → ⊥)
      → Chooses table line b → Divides table line groups (begun b ∷ groups)
  skips : (line rest : List PpToken) (name : List ℕ) (groups : List Group) → (IsRead groups → ⊥) → Directs name line rest
      → (name ≡ codes "if") ⊎ ((name ≡ codes "ifdef") ⊎ (name ≡ codes "ifndef")) → Divides table line groups (unread ∷ groups)
  elif : (line rest : List PpToken) (group : Group) (groups : List Group) (b : Bool) → Directs (codes "elif") line rest → group.has_else ≡ false
      → (group.choice ≡ Open → Chooses table line b) → Divides table line (group ∷ groups) (record group { choice = after_elif group.choice b } ∷ groups)
  else : (line rest : List PpToken) (group : Group) (groups : List Group) → Directs (codes "else") line rest → group.has_else ≡ false
      → Divides table line (group ∷ groups) (record { choice = after_else group.choice; has_else = true } ∷ groups)
  endif : (line rest : List PpToken) (group : Group) (groups : List Group) → Directs (codes "endif") line rest → Divides table line (group ∷ groups) groups

-- a line that begins, divides or ends a conditional inclusion
abbrev pub IsSection : List ℕ → Type 0
IsSection name = (name ≡ codes "if") ⊎ ((name ≡ codes "ifdef") ⊎ ((name ≡ codes "ifndef") ⊎ ((name ≡ codes "elif") ⊎ ((name ≡ codes "else") ⊎ (name ≡ codes "endif")))))

-- ---- #line

-- digits of a number from 1 to 2147483647
pub record IsLineNumber (token : PpToken) (number : ℕ) : Type 0 where
  pub kind : token.kind ≡ Number
  pub digits : list_all is_ascii_digit token.text ≡ true
  pub value : digits_value 10 token.text ≡ number
  pub above : 0 < number
  pub most : number < 2 ^ 31

-- the number of the next line and the file's name, as expanded operands say them
pub data Numbers (file : List ℕ) : List PpToken → ℕ → List ℕ → Type 0 where
  number : (token : PpToken) (n : ℕ) → IsLineNumber token n → Numbers file (token ∷ []) n file
  named : (token string : PpToken) (n : ℕ) (name : List ℕ) → IsLineNumber token n → string.kind ≡ Str → IsUnbroken Str string.text → string_of string.text ≡ name
      → Numbers file (token ∷ string ∷ []) n name

-- the line on which a list's last token stands
abbrev pub last_line : List PpToken → ℕ
last_line [] = 0
last_line (token ∷ []) = token.place.line
last_line (token ∷ next ∷ rest) = last_line (next ∷ rest)

-- ---- #include

-- the two forms of a header name
pub data Form : Type 0 where
  Quoted : Form
  Angled : Form

-- no byte of the list is that one
pub data Lacks (byte : ℕ) : List ℕ → Type 0 where
  nothing : Lacks byte []
  other : (c : ℕ) (cs : List ℕ) → c ≢ byte → Lacks byte cs → Lacks byte (c ∷ cs)

-- "x" or <x>, with a character or more between the delimiters and no closing one among them
pub data Spells : List ℕ → Form → List ℕ → Type 0 where
  quoted : (c : ℕ) (cs : List ℕ) → Lacks 34 (c ∷ cs) → Spells (34 ∷ c ∷ cs ++ 34 ∷ []) Quoted (c ∷ cs)
  angled : (c : ℕ) (cs : List ℕ) → Lacks 62 (c ∷ cs) → Spells (60 ∷ c ∷ cs ++ 62 ∷ []) Angled (c ∷ cs)

-- the spellings behind one another, a space where white space stood between
abbrev pub spelled_behind : List PpToken → List ℕ
spelled_behind [] = []
spelled_behind (token ∷ rest) = (if token.spaced then 32 ∷ token.text else token.text) ++ spelled_behind rest

abbrev pub spelled : List PpToken → List ℕ
spelled [] = []
spelled (token ∷ rest) = token.text ++ spelled_behind rest

-- the header name of an `#include` line with these operands
pub data Includes (table : Table) : List PpToken → Form → List ℕ → Type 0 where
  header : (token : PpToken) (form : Form) (name : List ℕ) → token.kind ≡ Header → Spells token.text form name → Includes table (token ∷ []) form name
  expanded : (operands tokens : List PpToken) (form : Form) (name : List ℕ) → ((token : PpToken) → operands ≡ token ∷ [] → token.kind ≢ Header)
      → Expands table operands tokens → Spells (spelled tokens) form name → Includes table operands form name

-- a name up to and with its last slash
pub data Folder : List ℕ → List ℕ → Type 0 where
  up_to : (before behind : List ℕ) → Lacks 47 behind → Folder (before ++ 47 ∷ behind) (before ++ 47 ∷ [])

-- in the folder of the including file there is no file of that name
abbrev pub IsNotBeside : FileMap → List ℕ → List ℕ → Type 0
IsNotBeside files including name = (folder : List ℕ) → Folder including folder → file_of files (folder ++ name) ≡ None

-- The file that is found, its name and its bytes: "x" beside the including file, as it is written, or built in; <x> built
-- in, or as it is written.
pub data Finds (files : FileMap) (including name : List ℕ) : Form → List ℕ → List ℕ → Type 0 where
  beside : (folder bytes : List ℕ) → Folder including folder → file_of files (folder ++ name) ≡ Some bytes → Finds files including name Quoted (folder ++ name) bytes
  written : (bytes : List ℕ) → IsNotBeside files including name → file_of files name ≡ Some bytes → Finds files including name Quoted name bytes
  built_in : (bytes : List ℕ) → IsNotBeside files including name → file_of files name ≡ None → text_of name headers ≡ Some bytes → Finds files including name Quoted name bytes
  standard : (bytes : List ℕ) → text_of name headers ≡ Some bytes → Finds files including name Angled name bytes
  other : (bytes : List ℕ) → text_of name headers ≡ None → file_of files name ≡ Some bytes → Finds files including name Angled name bytes

-- the names with this one among them, and its number there
pub data Numbered (names : List (List ℕ)) (name : List ℕ) : ℕ → Type 0 where
  at : (before behind : List (List ℕ)) → with_name names name ≡ before ++ name ∷ behind → Numbered names name (length before)

-- ---- a unit

-- The next directive is an `#include` line in a group that is read: the moment behind it, but for what the file makes, and
-- the moment at the beginning of the file.
pub record Enters (files : FileMap) (unit : ℕ) (outer behind inner : Moment) : Type 0 where
  pub text : List PpToken
  pub line : List PpToken
  pub operands : List PpToken
  pub made : Made
  pub form : Form
  pub name : List ℕ
  pub bytes : List ℕ
  pub number : ℕ
  pub end : PpToken
  pub rest : outer.rest ≡ text ++ line ++ behind.rest
  pub is_text : IsText text
  pub is_read : IsRead outer.groups
  pub adds : Adds outer.groups text outer.made made
  pub directs : Directs (codes "include") line operands
  pub includes : Includes made.table (content_of operands) form name
  pub is_nested : outer.depth < 64
  pub finds : Finds files outer.name name form inner.name bytes
  pub numbered : Numbered made.opened inner.name number
  pub tokens : Tokens unit number bytes (inner.rest ++ end ∷ [])
  pub depth : inner.depth ≡ outer.depth + 1
  pub groups : inner.groups ≡ []
  pub end_is : inner.end ≡ end.place
  pub begins : inner.made ≡ record made { table = located inner.name (pos 0) made.table; opened = with_name made.opened inner.name }
  pub behind_it : behind ≡ record outer { rest = behind.rest; made = made }

-- What a directive other than `#include` makes of a moment at its line, which goes on behind it.
pub data Follows : Moment → List PpToken → List PpToken → Moment → Type 0 where
  divides : (at : Moment) (line rest operands : List PpToken) (name : List ℕ) (groups : List Group) → Directs name line operands → IsSection name
      → Divides at.made.table line at.groups groups → Follows at line rest (record at { groups = groups; rest = rest })
  skipped : (at : Moment) (line rest : List PpToken) → (IsRead at.groups → ⊥) → ((name : List ℕ) (operands : List PpToken) → Directs name line operands → IsSection name → ⊥)
      → Follows at line rest (record at { rest = rest })
  define : (at : Moment) (line rest : List PpToken) (name : List ℕ) (macro : Macro) (table : Table) → IsRead at.groups → Defines line name macro → Changes name (Some macro) at.made.table table
      → Follows at line rest (record at { rest = rest; made = record at.made { table = table } })
  undef : (at : Moment) (line rest : List PpToken) (name : List ℕ) (table : Table) → IsRead at.groups → Undefines line name → Changes name None at.made.table table
      → Follows at line rest (record at { rest = rest; made = record at.made { table = table } })
  line : (at : Moment) (line rest operands tokens : List PpToken) (n : ℕ) (name : List ℕ) → IsRead at.groups → Directs (codes "line") line operands
      → Expands at.made.table (content_of operands) tokens → Numbers at.made.table.file tokens n name
      → Follows at line rest (record at { rest = rest; made = record at.made { table = located name (pos n -ℤ pos (last_line line + 1)) at.made.table } })
  pragma : (at : Moment) (line rest operands : List PpToken) → IsRead at.groups → Directs (codes "pragma") line operands → Follows at line rest (record at { rest = rest })
  empty : (at : Moment) (hash : PpToken) (line rest : List PpToken) → IsRead at.groups → IsDirective (hash ∷ line) → content_of line ≡ []
      → Follows at (hash ∷ line) rest (record at { rest = rest })

mutual
  -- from a moment to the one behind the next directive
  pub data Moves (files : FileMap) (unit : ℕ) : Moment → Moment → Type 0 where
    directive : (from to : Moment) (text line rest : List PpToken) (made : Made) → from.rest ≡ text ++ line ++ rest → IsText text → IsDirective line → Adds from.groups text from.made made
        → Follows (record from { made = made }) line rest to → Moves files unit from to
    -- an included file is read to its end, and leaves its macros, its files and its tokens
    include : (from behind inner : Moment) (made : Made) → Enters files unit from behind inner → Ends files unit inner made
        → Moves files unit from (record behind { made = record made { table = located behind.made.table.file behind.made.table.shift made.table } })

  -- from a moment to the end of its file
  pub data Ends (files : FileMap) (unit : ℕ) : Moment → Made → Type 0 where
    now : (at : Moment) (made : Made) → IsText at.rest → at.groups ≡ [] → Adds [] at.rest at.made made → Ends files unit at made
    later : (from to : Moment) (made : Made) → Moves files unit from to → Ends files unit to made → Ends files unit from made

-- the first moment of a unit, whose own file has that name and these tokens before its End
abbrev pub first_of : Table → List ℕ → List PpToken → Place → Moment
first_of predefined name tokens end =
    record { depth = 0; name = name; groups = []; rest = tokens; end = end; made = record { table = located name (pos 0) predefined; opened = name ∷ []; tokens = [] } }

-- The unit of that number, whose own file has that name, becomes this list of tokens, and opens these files.
pub record Translates (predefined : Table) (files : FileMap) (unit : ℕ) (name : List ℕ) (list : List PpToken) (opened : List (List ℕ)) : Type 0 where
  pub bytes : List ℕ
  pub tokens : List PpToken
  pub end : PpToken
  pub made : Made
  pub is_there : file_of files name ≡ Some bytes
  pub reads : Tokens unit 0 bytes (tokens ++ end ∷ [])
  pub ends : Ends files unit (first_of predefined name tokens end.place) made
  pub list_is : list ≡ made.tokens ++ end ∷ []
  pub opened_is : opened ≡ made.opened
