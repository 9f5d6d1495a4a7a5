-- The macros that are defined, and what a name is expanded by.
use Rattle.std.specs.Prelude.{ℕ, ℤ, List, Option}
use Rattle.pp_token.specs.declared.token.PpToken.{PpToken}

-- What a name is replaced by (C90 6.8.3 and 6.8.8).
pub data Macro : Type 0 where
  -- an object-like macro: its replacement list
  ObjectLike : List PpToken → Macro
  -- a function-like macro: its parameters and its replacement list
  FunctionLike : List (List ℕ) → List PpToken → Macro
  -- __FILE__
  FileName : Macro
  -- __LINE__
  LineNumber : Macro
  -- __STDC__
  Standard : Macro
  -- __DATE__ or __TIME__
  Moment : Macro

-- What expansion looks up.
pub record Table : Type 0 where
  -- the macro of a name
  pub macro_of : List ℕ → Option Macro
  -- what __FILE__ gives
  pub file : List ℕ
  -- what __LINE__ adds to the line of its token
  pub shift : ℤ
