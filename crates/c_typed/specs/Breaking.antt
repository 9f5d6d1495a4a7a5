-- Where an expression breaks a rule: the first part, in the order of the text, that breaks one, or the whole where its parts are typed.
--
-- Covered are K19, K20, K25, K26, K29 and K53, and of K30 and K46 what concerns operands that are no scalars, and targets that can't be
-- modified; so far of the forms that `Typed` covers, and of a call's name no rule.
use Rattle.std.specs.Prelude.{◌≡◌, ℕ, true, false, List, ◌∷◌, Some, None}
use Rattle.fsc_base.specs.declared.place.Place.{Place}
use Rattle.fsc_base.specs.declared.rule.Rule.{Rule}
use Rattle.fsc_base.specs.declared.rule.Rule.TheVariants.{K19, K20, K25, K26, K29, K30, K46, K53}
use Rattle.c_syntax.specs.declared.operator.Binary.{Binary}
use Rattle.c_syntax.specs.declared.operator.Binary.TheVariants.{Add}
use Rattle.c_syntax.specs.declared.operator.Unary.{Unary}
use Rattle.c_syntax.specs.declared.operator.Unary.TheVariants.{Indirection, Not}
use Rattle.c_syntax.specs.declared.expression.Expr.{Expr}
use Rattle.c_syntax.specs.declared.expression.ExprForm.TheVariants as text
use Rattle.c_ops.specs.declared.operators.UnaryOperator.{UnaryOperator}
use Rattle.c_types.specs.declared.node.TypeNode.{TypeNode}
use Rattle.c_types.specs.Layouts.{size_of}
use Rattle.c_grammar.specs.Trees.{place_of}
use Rattle.c_tree.specs.declared.expression.TExpr.{TExpr}
use Rattle.c_tree.specs.Constants.{is_pointer}
use Rattle.c_typed.specs.Settings.{Setting, form_of, start_of, type_of, is_scalar_in, is_void_in, is_modifiable, pointed}
use Rattle.c_typed.specs.Arithmetic.{basic_of, integer_operator, wants_integers}
use Rattle.c_typed.specs.Typing.{Typed, Value, Used}

-- ---- parts

-- as what a part is looked at: as it is, for its value, or for a value that it has to have
pub data Manner : Type 0 where
  AsItIs : Manner
  ForValue : Manner
  ForUse : Manner

-- One of the operands of a comma expression, and the setting behind those before it.
pub data Before : Setting → List Expr → Setting → Expr → Type 0 where
  here : {s : Setting} {e : Expr} {es : List Expr} → Before s (e ∷ es) s e
  later : {s s'' : Setting} (s' : Setting) {e found : Expr} {es : List Expr} (v : TExpr) → Value s e v s' → Before s' es s'' found → Before s (e ∷ es) s'' found

-- A part of an expression, and the setting in which it stands: behind the parts before it, which are typed.
pub data Part : Setting → Expr → Manner → Setting → Expr → Type 0 where
  in_parenthesis : {s : Setting} {e a : Expr} → form_of e ≡ text.Parenthesis a → Part s e AsItIs s a
  pointer : {s : Setting} {e a : Expr} → form_of e ≡ text.Unary Indirection a → Part s e ForUse s a
  number : {s : Setting} {e a : Expr} (op : Unary) (to : UnaryOperator) → form_of e ≡ text.Unary op a → integer_operator op ≡ Some to → Part s e ForUse s a
  scalar : {s : Setting} {e a : Expr} → form_of e ≡ text.Unary Not a → Part s e ForUse s a
  left : {s : Setting} {e a : Expr} (b : Expr) (op : Binary) → form_of e ≡ text.Binary op a b → Part s e ForUse s a
  right : {s s' : Setting} {e b : Expr} (a : Expr) (op : Binary) (v : TExpr) → form_of e ≡ text.Binary op a b → Used s a v s' → Part s e ForUse s' b
  base : {s : Setting} {e a : Expr} (b : Expr) → form_of e ≡ text.Subscript a b → Part s e ForUse s a
  index : {s s' : Setting} {e b : Expr} (a : Expr) (v : TExpr) → form_of e ≡ text.Subscript a b → Used s a v s' → Part s e ForUse s' b
  test : {s : Setting} {e a : Expr} (b c : Expr) → form_of e ≡ text.Conditional a b c → Part s e ForUse s a
  yes : {s s' : Setting} {e b : Expr} (a c : Expr) (v : TExpr) → form_of e ≡ text.Conditional a b c → Used s a v s' → Part s e ForValue s' b
  no : {s s'' : Setting} (s' : Setting) {e c : Expr} (a b : Expr) (v w : TExpr) → form_of e ≡ text.Conditional a b c → Used s a v s' → Value s' b w s'' → Part s e ForValue s'' c
  target : {s : Setting} {e a : Expr} (b : Expr) → form_of e ≡ text.Assign None a b → Part s e AsItIs s a
  assigned : {s s' : Setting} {e b : Expr} (a : Expr) (t : TExpr) → form_of e ≡ text.Assign None a b → Typed s a t s' → Part s e ForUse s' b
  listed : {s s' : Setting} {e a : Expr} (parts : List Expr) → form_of e ≡ text.Comma parts → Before s parts s' a → Part s e ForValue s' a

-- ---- operands

-- Values that an operator does not take: one that is no scalar; one that is no integer, where it wants those; the sum of two pointers.
pub data WrongOperands (types : List TypeNode) (op : Binary) : (left right : TExpr) → Type 0 where
  left_no_scalar : {left right : TExpr} → is_scalar_in types left ≡ false → WrongOperands types op left right
  right_no_scalar : {left right : TExpr} → is_scalar_in types right ≡ false → WrongOperands types op left right
  left_no_integer : {left right : TExpr} → wants_integers op ≡ true → basic_of types left ≡ None → WrongOperands types op left right
  right_no_integer : {left right : TExpr} → wants_integers op ≡ true → basic_of types right ≡ None → WrongOperands types op left right
  two_pointers : {left right : TExpr} → op ≡ Add → is_pointer (type_of types left) ≡ true → is_pointer (type_of types right) ≡ true → WrongOperands types op left right

-- Values that a subscript does not take: two integers, two pointers, one that is no scalar, a pointer to what has no size.
pub data WrongSubscript (types : List TypeNode) : (left right : TExpr) → Type 0 where
  no_pointer : {left right : TExpr} → pointed types left ≡ None → pointed types right ≡ None → WrongSubscript types left right
  no_integer : {left right : TExpr} → basic_of types left ≡ None → basic_of types right ≡ None → WrongSubscript types left right
  left_no_object : {left right : TExpr} (to : ℕ) → pointed types left ≡ Some to → size_of types to ≡ None → WrongSubscript types left right
  right_no_object : {left right : TExpr} (to : ℕ) → pointed types right ≡ Some to → size_of types to ≡ None → WrongSubscript types left right

-- ---- rules

mutual
  -- A rule that an expression breaks, and where.
  pub data BrokenAt : Setting → Expr → Rule → Place → Type 0 where
    -- what a part breaks the whole breaks
    part : {s : Setting} (s' : Setting) {e : Expr} (a : Expr) (manner : Manner) {r : Rule} {p : Place} → Part s e manner s' a → BrokenAs manner s' a r p → BrokenAt s e r p
    undeclared : {s : Setting} {e : Expr} (name : List ℕ) → form_of e ≡ text.Name name → s.names name ≡ None → BrokenAt s e K19 (place_of e)
    subscript : {s : Setting} (s' s'' : Setting) {e : Expr} (a b : Expr) (left right : TExpr) → form_of e ≡ text.Subscript a b → Used s a left s' → Used s' b right s''
        → WrongSubscript s''.types left right → BrokenAt s e K20 (place_of e)
    indirection : {s : Setting} (s' : Setting) {e : Expr} (a : Expr) (v : TExpr) → form_of e ≡ text.Unary Indirection a → Used s a v s' → pointed s'.types v ≡ None
        → BrokenAt s e K25 (place_of e)
    sign : {s : Setting} (s' : Setting) {e : Expr} (a : Expr) (op : Unary) (to : UnaryOperator) (v : TExpr) → form_of e ≡ text.Unary op a → integer_operator op ≡ Some to
        → Used s a v s' → basic_of s'.types v ≡ None → BrokenAt s e K26 (place_of e)
    negation : {s : Setting} (s' : Setting) {e : Expr} (a : Expr) (v : TExpr) → form_of e ≡ text.Unary Not a → Used s a v s' → is_scalar_in s'.types v ≡ false
        → BrokenAt s e K26 (place_of e)
    operation : {s : Setting} (s' s'' : Setting) {e : Expr} (a b : Expr) (op : Binary) (left right : TExpr) → form_of e ≡ text.Binary op a b → Used s a left s' → Used s' b right s''
        → WrongOperands s''.types op left right → BrokenAt s e K29 (place_of e)
    choice : {s : Setting} (s' s'' after : Setting) {e : Expr} (a b c : Expr) (test yes no : TExpr) → form_of e ≡ text.Conditional a b c
        → Used s a test s' → Value s' b yes s'' → Value s'' c no after → is_scalar_in after.types test ≡ false → BrokenAt s e K30 (place_of e)
    assignment : {s : Setting} (s' s'' : Setting) {e : Expr} (a b : Expr) (target v : TExpr) → form_of e ≡ text.Assign None a b → Typed s a target s' → Used s' b v s''
        → is_scalar_in s''.types target ≡ true → is_modifiable s''.types target ≡ false → BrokenAt s e K46 (place_of e)

  -- A rule that a part breaks as what it is looked at.
  pub data BrokenAs : Manner → Setting → Expr → Rule → Place → Type 0 where
    itself : {s : Setting} {e : Expr} {manner : Manner} {r : Rule} {p : Place} → BrokenAt s e r p → BrokenAs manner s e r p
    void : {s : Setting} (s' : Setting) {e : Expr} {v : TExpr} → Value s e v s' → is_void_in s'.types v ≡ true → BrokenAs ForUse s e K53 (start_of v)
