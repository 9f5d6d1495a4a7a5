-- Which typed tree an expression has (C90 6.3): one clause for each form. A relation takes the setting before the expression, the
-- expression, its tree, and the setting behind it: types are built inside.
--
-- Not covered so far: string literals; members; calls; ++ and --; & before an operand; sizeof; casts; operators on pointers, among
-- them sums, differences and comparisons; assignments to pointers, structs and unions, and compound ones; ?: over other operands than
-- numbers; arrays that are no lvalues; bit-fields.
use Rattle.std.specs.Prelude.{◌≡◌, ℕ, Bool, true, false, ◌||◌, List, [], ◌∷◌, Some, None}
use Rattle.fsc_base.specs.declared.place.Place.{Place}
use Rattle.fsc_base.specs.declared.word.Width.{Width}
use Rattle.c_lexer.specs.declared.token.BasicType.{BasicType}
use Rattle.c_syntax.specs.declared.operator.Binary.{Binary}
use Rattle.c_syntax.specs.declared.operator.Binary.TheVariants.{LogicalAnd, LogicalOr}
use Rattle.c_syntax.specs.declared.operator.Unary.{Unary}
use Rattle.c_syntax.specs.declared.operator.Unary.TheVariants.{Indirection, Not}
use Rattle.c_syntax.specs.declared.expression.Expr.{Expr}
use Rattle.c_syntax.specs.declared.expression.ExprForm.TheVariants as text
use Rattle.c_ops.specs.declared.operators.Operator.{Operator}
use Rattle.c_ops.specs.declared.operators.UnaryOperator.{UnaryOperator}
use Rattle.c_ops.specs.declared.operators.UnaryOperator.TheVariants as one
use Rattle.c_types.specs.declared.node.Basic.{Basic}
use Rattle.c_types.specs.declared.node.Basic.TheVariants.{Int}
use Rattle.c_types.specs.declared.node.TypeNode.{TypeNode}
use Rattle.c_types.specs.declared.node.TypeNode.TheVariants as node
use Rattle.c_types.specs.Nodes.{unqualified}
use Rattle.c_types.specs.Building.{index_of, with_node}
use Rattle.c_types.specs.Layouts.{size_of}
use Rattle.c_grammar.specs.Trees.{place_of}
use Rattle.c_tree.specs.declared.expression.Access.TheVariants.{Scalar}
use Rattle.c_tree.specs.declared.expression.Side.TheVariants.{Left, Right}
use Rattle.c_tree.specs.declared.expression.Symbol.{Symbol}
use Rattle.c_tree.specs.declared.expression.TExpr.{TExpr}
use Rattle.c_tree.specs.declared.expression.Form.TheVariants as form
use Rattle.c_tree.specs.Programs.{is_record}
use Rattle.c_tree.specs.SoundTypes.{is_word_of, is_signed_basic}
use Rattle.c_typed.specs.Settings.{Static, Automatic, Enumerator, Setting, form_of, tree, kind_of, start_of, type_of, is_path, is_scalar_in, is_void_in, is_modifiable, pointed}
use Rattle.c_typed.specs.Arithmetic.{Is, basic_of, basic_of_constant, promoted, usual, Converted, integer_operator, group_of, Arithmetic, Shift, Comparison, operator_of}

-- ---- values (6.2.2.1)

-- What is there where the value of a tree is wanted, and the types behind it.
pub data Valued (types : List TypeNode) : TExpr → TExpr → (after : List TypeNode) → Type 0 where
  -- an object is read, and what was read has no qualifiers
  read : {t : TExpr} (width : Width) (is_signed : Bool) → is_path t ≡ true → is_scalar_in types t ≡ true → is_word_of (type_of types t) width is_signed ≡ true
      → Valued types t (tree (form.Value t (Scalar width is_signed)) (unqualified types (kind_of t)) (start_of t)) types
  -- an array becomes a pointer to its first element, a function one to itself
  array : {t : TExpr} {of : ℕ} (count : ℕ) → is_path t ≡ true → type_of types t ≡ node.Array of count
      → Valued types t (tree (form.Decay t) (index_of types (node.Pointer of)) (start_of t)) (with_node types (node.Pointer of))
  function : {t : TExpr} (returns : ℕ) (is_known is_variadic : Bool) (parameters : List ℕ) → type_of types t ≡ node.Function returns is_known parameters is_variadic
      → Valued types t (tree (form.Decay t) (index_of types (node.Pointer (kind_of t))) (start_of t)) (with_node types (node.Pointer (kind_of t)))
  -- a value is one, and what is a struct, union or void stays
  value : {t : TExpr} → is_path t ≡ false → is_scalar_in types t ≡ true → Valued types t t types
  whole : {t : TExpr} → (is_record (type_of types t) || is_void_in types t) ≡ true → Valued types t t types

-- ---- operators

-- What two values are under an operator on numbers (6.3.5 to 6.3.14).
pub data Operated (types : List TypeNode) (op : Binary) : (left right : TExpr) → Place → TExpr → Type 0 where
  arithmetic : {left right : TExpr} (a b : TExpr) {p : Place} (m n : Basic) (kind : ℕ) (to : Operator) → group_of op ≡ Arithmetic
      → basic_of types left ≡ Some m → basic_of types right ≡ Some n → Is types (usual m n) kind
      → Converted types kind left a → Converted types kind right b → operator_of op (is_signed_basic (usual m n)) ≡ Some to
      → Operated types op left right p (tree (form.Binary to a b) kind p)
  comparison : {left right : TExpr} (a b : TExpr) {p : Place} (m n : Basic) (int kind : ℕ) (to : Operator) → group_of op ≡ Comparison
      → basic_of types left ≡ Some m → basic_of types right ≡ Some n → Is types (usual m n) kind
      → Converted types kind left a → Converted types kind right b → operator_of op (is_signed_basic (usual m n)) ≡ Some to → Is types Int int
      → Operated types op left right p (tree (form.Binary to a b) int p)
  shift : {left right : TExpr} (a b : TExpr) {p : Place} (m n : Basic) (kind by : ℕ) (to : Operator) → group_of op ≡ Shift
      → basic_of types left ≡ Some m → basic_of types right ≡ Some n → Is types (promoted m) kind → Is types (promoted n) by
      → Converted types kind left a → Converted types by right b → operator_of op (is_signed_basic (promoted m)) ≡ Some to
      → Operated types op left right p (tree (form.Binary to a b) kind p)
  both : {left right : TExpr} {p : Place} (int : ℕ) → op ≡ LogicalAnd → is_scalar_in types left ≡ true → is_scalar_in types right ≡ true → Is types Int int
      → Operated types op left right p (tree (form.Both left right) int p)
  either : {left right : TExpr} {p : Place} (int : ℕ) → op ≡ LogicalOr → is_scalar_in types left ≡ true → is_scalar_in types right ≡ true → Is types Int int
      → Operated types op left right p (tree (form.Either left right) int p)

-- What two values are under a subscript: a pointer to a complete object type and an integer, in either order (6.3.2.1).
pub data Subscripted (types : List TypeNode) : (left right : TExpr) → Place → TExpr → Type 0 where
  left : {a b : TExpr} (i : TExpr) {p : Place} (n : Basic) (to size kind : ℕ) → pointed types a ≡ Some to → size_of types to ≡ Some size
      → basic_of types b ≡ Some n → Is types (promoted n) kind → Converted types kind b i
      → Subscripted types a b p (tree (form.Index a i Left size) to p)
  right : {a b : TExpr} (i : TExpr) {p : Place} (n : Basic) (to size kind : ℕ) → pointed types b ≡ Some to → size_of types to ≡ Some size
      → basic_of types a ≡ Some n → Is types (promoted n) kind → Converted types kind a i
      → Subscripted types a b p (tree (form.Index i b Right size) to p)

-- ---- expressions

mutual
  -- An expression, before it is used for its value.
  pub data Typed : Setting → Expr → TExpr → Setting → Type 0 where
    -- constants and names (6.3.1)
    integer : {s : Setting} {e : Expr} (value kind : ℕ) (of : BasicType) → form_of e ≡ text.Integer value of → Is s.types (basic_of_constant of) kind
        → Typed s e (tree (form.Number value) kind (place_of e)) s
    character : {s : Setting} {e : Expr} (value int : ℕ) → form_of e ≡ text.Character value → Is s.types Int int
        → Typed s e (tree (form.Number value) int (place_of e)) s
    static : {s : Setting} {e : Expr} (name : List ℕ) (symbol : Symbol) (kind : ℕ) → form_of e ≡ text.Name name → s.names name ≡ Some (Static symbol kind)
        → Typed s e (tree (form.Static symbol) kind (place_of e)) s
    automatic : {s : Setting} {e : Expr} (name : List ℕ) (index kind : ℕ) → form_of e ≡ text.Name name → s.names name ≡ Some (Automatic index kind)
        → Typed s e (tree (form.Local index) kind (place_of e)) s
    enumerator : {s : Setting} {e : Expr} (name : List ℕ) (value int : ℕ) → form_of e ≡ text.Name name → s.names name ≡ Some (Enumerator value) → Is s.types Int int
        → Typed s e (tree (form.Number value) int (place_of e)) s
    -- parentheses leave no node
    parenthesis : {s s' : Setting} {e : Expr} (inner : Expr) {t : TExpr} → form_of e ≡ text.Parenthesis inner → Typed s inner t s' → Typed s e t s'
    -- a[b] (6.3.2.1)
    subscript : {s s'' : Setting} (s' : Setting) {e : Expr} (a b : Expr) {t : TExpr} (left right : TExpr) → form_of e ≡ text.Subscript a b → Used s a left s' → Used s' b right s''
        → Subscripted s''.types left right (place_of e) t → Typed s e t s''
    -- *e (6.3.3.2)
    indirection : {s s' : Setting} {e : Expr} (inner : Expr) (v : TExpr) (to : ℕ) → form_of e ≡ text.Unary Indirection inner → Used s inner v s' → pointed s'.types v ≡ Some to
        → Typed s e (tree (form.Deref v) to (place_of e)) s'
    -- + - ~ on a promoted integer, and ! on a scalar (6.3.3.3)
    sign : {s s' : Setting} {e : Expr} (inner : Expr) (w v : TExpr) (op : Unary) (to : UnaryOperator) (n : Basic) (kind : ℕ) → form_of e ≡ text.Unary op inner → integer_operator op ≡ Some to
        → Used s inner v s' → basic_of s'.types v ≡ Some n → Is s'.types (promoted n) kind → Converted s'.types kind v w
        → Typed s e (tree (form.Unary to w) kind (place_of e)) s'
    negation : {s s' : Setting} {e : Expr} (inner : Expr) (v : TExpr) (int : ℕ) → form_of e ≡ text.Unary Not inner → Used s inner v s' → is_scalar_in s'.types v ≡ true → Is s'.types Int int
        → Typed s e (tree (form.Unary one.Not v) int (place_of e)) s'
    -- operators with two operands (6.3.5 to 6.3.14)
    operation : {s s'' : Setting} (s' : Setting) {e : Expr} (a b : Expr) (op : Binary) {t : TExpr} (left right : TExpr) → form_of e ≡ text.Binary op a b → Used s a left s' → Used s' b right s''
        → Operated s''.types op left right (place_of e) t → Typed s e t s''
    -- a ? b : c of numbers, in their common type (6.3.15)
    choice : {s after : Setting} (s' s'' : Setting) {e : Expr} (a b c : Expr) (test yes no left right : TExpr) (m n : Basic) (kind : ℕ) → form_of e ≡ text.Conditional a b c
        → Used s a test s' → Value s' b left s'' → Value s'' c right after → is_scalar_in after.types test ≡ true
        → basic_of after.types left ≡ Some m → basic_of after.types right ≡ Some n → Is after.types (usual m n) kind
        → Converted after.types kind left yes → Converted after.types kind right no
        → Typed s e (tree (form.Choose test yes no) kind (place_of e)) after
    -- a number assigned to an object of arithmetic type, as whose type it is converted (6.3.16.1)
    assignment : {s s'' : Setting} (s' : Setting) {e : Expr} (a b : Expr) (target w v : TExpr) (m n : Basic) (width : Width) (is_signed : Bool) → form_of e ≡ text.Assign None a b
        → Typed s a target s' → Used s' b v s'' → is_modifiable s''.types target ≡ true
        → basic_of s''.types target ≡ Some m → basic_of s''.types v ≡ Some n → Converted s''.types (unqualified s''.types (kind_of target)) v w
        → is_word_of (type_of s''.types target) width is_signed ≡ true
        → Typed s e (tree (form.Assign target w (Scalar width is_signed)) (unqualified s''.types (kind_of target)) (place_of e)) s''
    -- a, b: the last one's type (6.3.17)
    comma : {s s' : Setting} {e : Expr} (parts : List Expr) (values : List TExpr) (kind : ℕ) → form_of e ≡ text.Comma parts → Values s parts values kind s'
        → Typed s e (tree (form.Comma values) (unqualified s'.types kind) (place_of e)) s'

  -- An expression as a value, or void.
  pub data Value : Setting → Expr → TExpr → Setting → Type 0 where
    valued : {s s' : Setting} {e : Expr} {v : TExpr} (t : TExpr) {types : List TypeNode} → Typed s e t s' → Valued s'.types t v types → Value s e v (record s' { types = types })

  -- An expression that is used for its value, which void has none.
  pub data Used : Setting → Expr → TExpr → Setting → Type 0 where
    used : {s s' : Setting} {e : Expr} {v : TExpr} → Value s e v s' → is_void_in s'.types v ≡ false → Used s e v s'

  -- Expressions one after the other, one at least, and the type of the last.
  pub data Values : Setting → List Expr → List TExpr → (kind : ℕ) → Setting → Type 0 where
    last : {s s' : Setting} {e : Expr} {v : TExpr} → Value s e v s' → Values s (e ∷ []) (v ∷ []) (kind_of v) s'
    more : {s s'' : Setting} (s' : Setting) {e : Expr} {v : TExpr} {es : List Expr} {vs : List TExpr} {kind : ℕ} → Value s e v s' → Values s' es vs kind s''
        → Values s (e ∷ es) (v ∷ vs) kind s''
