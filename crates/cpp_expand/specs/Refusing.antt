-- Why expansion is refused, and where.
use Rattle.std.specs.Prelude.{◌≡◌, ℕ, ◌+◌, ◌^◌, Bool, true, false, List, [], ◌∷◌, codes, count_by, Some}
use Rattle.fsc_base.specs.declared.place.Place.{Place}
use Rattle.fsc_base.specs.declared.rule.Rule.{Rule}
use Rattle.fsc_base.specs.declared.rule.Rule.TheVariants.{K38, K42, L10, L15}
use Rattle.pp_token.specs.declared.token.PpToken.{PpToken}
use Rattle.pp_token.specs.declared.token.PpKind.{PpKind}
use Rattle.pp_token.specs.declared.token.PpKind.TheVariants.{Header, Name, Number, Char, Str, Punct, Other, LineEnd, End}
use Rattle.cpp_expand.specs.Tokens.{IsPunct, IsHidden}
use Rattle.cpp_expand.specs.Table.{Table, ObjectLike, FunctionLike, Moment}
use Rattle.cpp_expand.specs.Operators.{Joins, NotJoined}
use Rattle.cpp_expand.specs.Calls.{Opens, Holds, Fits}
use Rattle.cpp_expand.specs.Expanding.{Call, object_call, function_call, argument_at, BeginsPaste, Operand, Turns, Gives, Stands}

-- Among operands of ## two are no token together.
pub data NotPasted (call : Call) : List PpToken → List PpToken → Type 0 where
  now : {paste : PpToken} {left right rest after : List PpToken} → IsPunct (codes "##") paste → Operand call rest right after
      → NotJoined left right → NotPasted call left (paste ∷ rest)
  later : {paste : PpToken} {left right joint rest after : List PpToken} → IsPunct (codes "##") paste → Operand call rest right after
      → Joins call.place left right joint → NotPasted call joint after → NotPasted call left (paste ∷ rest)

mutual
  -- The first token of a list can't be expanded.
  pub data Stops (table : Table) : List PpToken → Rule → Place → Type 0 where
    -- __DATE__ or __TIME__
    moment : {name : PpToken} {rest : List PpToken} → name.kind ≡ Name → (IsHidden name → ⊥) → table.macro_of name.text ≡ Some Moment
        → Stops table (name ∷ rest) L15 name.place
    -- a call without an end
    no_end : {name : PpToken} {rest inside body : List PpToken} {parameters : List (List ℕ)} → name.kind ≡ Name → (IsHidden name → ⊥)
        → table.macro_of name.text ≡ Some (FunctionLike parameters body) → Opens rest inside
        → ((first behind : List PpToken) (others : List (List PpToken)) (close : PpToken) → Holds 0 inside first others close behind → ⊥)
        → Stops table (name ∷ rest) K38 name.place
    -- a wrong number of arguments
    wrong_count : {name close : PpToken} {rest inside first behind body : List PpToken} {parameters : List (List ℕ)} {others : List (List PpToken)}
        → name.kind ≡ Name → (IsHidden name → ⊥) → table.macro_of name.text ≡ Some (FunctionLike parameters body)
        → Opens rest inside → Holds 0 inside first others close behind → ((arguments : List (List PpToken)) → Fits parameters (first ∷ others) arguments → ⊥)
        → Stops table (name ∷ rest) K38 name.place
    -- an object-like macro whose replacement list breaks a rule
    object : {name : PpToken} {rest body : List PpToken} {rule : Rule} {place : Place} → name.kind ≡ Name → (IsHidden name → ⊥)
        → table.macro_of name.text ≡ Some (ObjectLike body) → Fails table (object_call name) body rule place → Stops table (name ∷ rest) rule place
    -- a call whose replacement list breaks a rule, or one of whose arguments does
    called : {name close : PpToken} {rest inside first behind body : List PpToken} {parameters : List (List ℕ)} {others arguments : List (List PpToken)} {rule : Rule} {place : Place}
        → name.kind ≡ Name → (IsHidden name → ⊥) → table.macro_of name.text ≡ Some (FunctionLike parameters body)
        → Opens rest inside → Holds 0 inside first others close behind → Fits parameters (first ∷ others) arguments
        → Fails table (function_call name parameters arguments) body rule place → Stops table (name ∷ rest) rule place

  -- Expansion of a list comes to a token that can't be expanded.
  pub data Breaks (table : Table) : List PpToken → Rule → Place → Type 0 where
    comes_to : {tokens given left : List PpToken} {rule : Rule} {place : Place} → Gives table tokens given left → Stops table left rule place → Breaks table tokens rule place

  -- A replacement list breaks a rule.
  pub data Fails (table : Table) : Call → List PpToken → Rule → Place → Type 0 where
    -- ## gives no preprocessing token
    pasted : {call : Call} {body left rest : List PpToken} → Operand call body left rest → NotPasted call left rest → Fails table call body K42 call.place
    -- an argument that is expanded first
    argument : {call : Call} {parameter : PpToken} {argument behind : List PpToken} {rule : Rule} {place : Place} → argument_at call parameter ≡ Some argument
        → (BeginsPaste behind → ⊥) → Breaks table argument rule place → Fails table call (parameter ∷ behind) rule place
    -- further on
    later : {call : Call} {body tokens behind : List PpToken} {rule : Rule} {place : Place} → Stands table call body tokens behind → Fails table call behind rule place → Fails table call body rule place

-- whether a token of this kind counts among a unit's tokens
abbrev pub counts : PpKind → Bool
counts Header = true
counts Name = true
counts Number = true
counts Char = true
counts Str = true
counts Punct = true
counts Other = true
counts LineEnd = false
counts End = false

-- how many of the tokens count
abbrev pub counted : List PpToken → ℕ
counted tokens = count_by (λ token. counts token.kind) tokens

-- With so many tokens before, the token at this place is the first above 2^20.
pub data TooMany (table : Table) (tokens : List PpToken) (before : ℕ) : Place → Type 0 where
  at : {given left more : List PpToken} {token : PpToken} → Gives table tokens given left → Turns table left (token ∷ []) more
      → counts token.kind ≡ true → before + counted given ≡ 2 ^ 20 → TooMany table tokens before token.place

-- What expand is refused for.
pub data BrokenExpand (table : Table) (tokens : List PpToken) (before : ℕ) : Rule → Place → Type 0 where
  breaks : {rule : Rule} {place : Place} → Breaks table tokens rule place → BrokenExpand table tokens before rule place
  too_many : {place : Place} → TooMany table tokens before place → BrokenExpand table tokens before L10 place
