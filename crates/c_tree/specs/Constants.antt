-- Constant expressions and their values (C90 6.4).
use Rattle.std.specs.Prelude.{ℕ, ◌+◌, ◌-◌, ◌*◌, ◌%◌, ◌^◌, ◌==◌, not, ◌&&◌, if◌then◌else◌, Bool, true, false, List, Option, Some, None}
use Rattle.std.specs.Option.{option_map, option_and_then}
use Rattle.fsc_base.specs.declared.word.Word.{Word}
use Rattle.c_ops.specs.Words.{plain}
use Rattle.c_ops.specs.Bits.{narrowed_to}
use Rattle.c_ops.specs.Operators.{operated, turned}
use Rattle.c_types.specs.declared.node.TypeNode.{TypeNode}
use Rattle.c_types.specs.declared.node.TypeNode.TheVariants as node
use Rattle.c_tree.specs.declared.constant.Known.{Known}
use Rattle.c_tree.specs.declared.constant.Known.TheVariants as known
use Rattle.c_tree.specs.declared.expression.Symbol.{Symbol}
use Rattle.c_tree.specs.declared.expression.Side.{Side}
use Rattle.c_tree.specs.declared.expression.Side.TheVariants.{Left, Right}
use Rattle.c_tree.specs.declared.expression.Conversion.{Conversion}
use Rattle.c_tree.specs.declared.expression.Conversion.TheVariants as conversion
use Rattle.c_tree.specs.declared.expression.TExpr.{TExpr, fold-TExpr}
use Rattle.c_tree.specs.declared.expression.TExpr.TheOpen.{TExpr-F}
use Rattle.c_tree.specs.declared.expression.Form.{Form}
use Rattle.c_tree.specs.declared.expression.Form.TheVariants as form
use Rattle.c_tree.specs.Programs.{bare_node}

-- ---- values

-- What became of a pointer that was made of an integer: nothing yet; the place of a member or element under it was taken, as
-- offsetof does; or it was computed with otherwise.
pub data Reach : Type 0 where
  Bare : Reach
  Under : Reach
  Other : Reach

-- an integer; a pointer made of one; an address and so many bytes behind it
pub data Value : Type 0 where
  Whole : (number : ℕ) → Value
  Made : (number : ℕ) → Reach → Value
  At : Symbol → (offset : ℕ) → Value

-- An expression: its value, and the address that it designates, where these are constant. Both depend on whether it is
-- evaluated: what isn't may divide by zero.
pub record Constant : Type 0 where
  pub value : (is_live : Bool) → Option Value
  pub path : (is_live : Bool) → Option Value

abbrev pub never : (is_live : Bool) → Option Value
never is_live = None

abbrev pub valued : ((is_live : Bool) → Option Value) → Constant
valued value = record { value = value; path = never }

abbrev pub designated : ((is_live : Bool) → Option Value) → Constant
designated path = record { value = never; path = path }

-- ---- places

abbrev pub under : Reach → Reach
under Bare = Under
under Under = Under
under Other = Other

-- the place of a member or element so many bytes behind
abbrev pub place_under : (bytes : ℕ) → Value → Option Value
place_under bytes (Whole n) = None
place_under bytes (Made n reach) = Some (Made ((n + bytes) % 2 ^ 32) (under reach))
place_under bytes (At symbol offset) = Some (At symbol ((offset + bytes) % 2 ^ 32))

-- a pointer so many bytes behind
abbrev pub pointer_behind : (bytes : ℕ) → Value → Option Value
pointer_behind bytes (Whole n) = None
pointer_behind bytes (Made n reach) = Some (Made ((n + bytes) % 2 ^ 32) Other)
pointer_behind bytes (At symbol offset) = Some (At symbol ((offset + bytes) % 2 ^ 32))

-- ---- numbers

abbrev pub number_in : Value → Option ℕ
number_in (Whole n) = Some n
number_in (Made n reach) = None
number_in (At symbol offset) = None

abbrev pub number_of : Option Value → Option ℕ
number_of value = option_and_then number_in value

abbrev pub whole : Word → Value
whole word = Whole word.value

-- with a number
abbrev pub with_number : Option Value → (ℕ → Option Value) → Option Value
with_number value act = option_and_then act (number_of value)

-- with two
abbrev pub with_numbers : (left right : Option Value) → (ℕ → ℕ → Option Value) → Option Value
with_numbers left right act = with_number left (λ (l : ℕ). with_number right (act l))

-- a division by zero has no value where it is evaluated, and else any
abbrev pub unless_live : (is_live : Bool) → Option Word → Option Value
unless_live is_live (Some word) = Some (whole word)
unless_live true None = None
unless_live false None = Some (Whole 0)

abbrev pub is_set : ℕ → Bool
is_set n = not (n == 0)

abbrev pub as_number : Bool → ℕ
as_number holds = if holds then 1 else 0

-- ---- conversions

abbrev pub is_pointer : TypeNode → Bool
is_pointer (node.Pointer to) = true
is_pointer _ = false

abbrev pub is_integer : TypeNode → Bool
is_integer (node.Basic b) = true
is_integer (node.Enum tag) = true
is_integer _ = false

-- as a pointer
abbrev pub as_pointer : Value → Value
as_pointer (Whole n) = Made n Bare
as_pointer (Made n reach) = Made n reach
as_pointer (At symbol offset) = At symbol offset

-- as an integer; of the pointers only one under a number has a constant one
abbrev pub as_integer : Value → Option ℕ
as_integer (Whole n) = Some n
as_integer (Made n Under) = Some n
as_integer (Made n Bare) = None
as_integer (Made n Other) = None
as_integer (At symbol offset) = None

abbrev pub converted_word : Conversion → Word → Word
converted_word conversion.Keep word = word
converted_word (conversion.Narrow width is_signed) word = narrowed_to width is_signed word
converted_word (conversion.Decide kind) word = word

abbrev pub converted : TypeNode → Conversion → Value → Option Value
converted target c value =
    if is_pointer target
    then Some (as_pointer value)
    else (if is_integer target then option_map (λ (n : ℕ). whole (converted_word c (plain n))) (as_integer value) else None)

-- ---- expressions

-- the pointer and the index of a subscript or a sum
abbrev pub pointer_side : Side → (left right : Constant) → Constant
pointer_side Left left right = left
pointer_side Right left right = right

abbrev pub index_side : Side → (left right : Constant) → Constant
index_side Left left right = right
index_side Right left right = left

abbrev pub element : (is_live : Bool) → Side → (size : ℕ) → (left right : Constant) → Option Value
element is_live pointer size left right = with_number ((index_side pointer left right).value is_live)
    (λ (n : ℕ). option_and_then (place_under (n * size)) ((pointer_side pointer left right).value is_live))

abbrev pub sum_with : (is_live : Bool) → Side → (size : ℕ) → (left right : Constant) → Option Value
sum_with is_live pointer size left right = with_number ((index_side pointer left right).value is_live)
    (λ (n : ℕ). option_and_then (pointer_behind (n * size)) ((pointer_side pointer left right).value is_live))

abbrev pub lowered : (is_live : Bool) → (size : ℕ) → (pointer index : Constant) → Option Value
lowered is_live size pointer index = with_number (index.value is_live)
    (λ (n : ℕ). option_and_then (pointer_behind (2 ^ 32 - n * size % 2 ^ 32)) (pointer.value is_live))

abbrev pub constant_form : List TypeNode → (kind : ℕ) → Form Constant → Constant
constant_form nodes kind (form.Number n) = valued (λ is_live. Some (Whole n))
constant_form nodes kind (form.Convert e c) = valued (λ is_live. option_and_then (converted (bare_node nodes kind) c) (e.value is_live))
constant_form nodes kind (form.AddressOf e) = valued e.path
constant_form nodes kind (form.Decay e) = valued e.path
constant_form nodes kind (form.Unary op e) =
    valued (λ is_live. with_number (e.value is_live) (λ (n : ℕ). Some (whole (turned op (plain n)))))
constant_form nodes kind (form.Binary op a b) = valued (λ is_live. with_numbers (a.value is_live) (b.value is_live)
    (λ (l r : ℕ). unless_live is_live (operated op (plain l) (plain r))))
-- the right operand of && and || is evaluated where the left one asks for it, and one of the last two of ?:
constant_form nodes kind (form.Both a b) = valued (λ is_live. with_number (a.value is_live)
    (λ (l : ℕ). with_number (b.value (is_live && is_set l)) (λ (r : ℕ). Some (Whole (as_number (is_set l && is_set r))))))
constant_form nodes kind (form.Either a b) = valued (λ is_live. with_number (a.value is_live)
    (λ (l : ℕ). with_number (b.value (is_live && not (is_set l))) (λ (r : ℕ). Some (Whole (if is_set l then 1 else as_number (is_set r))))))
constant_form nodes kind (form.Choose c a b) = valued (λ is_live. with_number (c.value is_live)
    (λ (t : ℕ). with_numbers (a.value (is_live && is_set t)) (b.value (is_live && not (is_set t)))
    (λ (l r : ℕ). Some (Whole (if is_set t then l else r)))))
constant_form nodes kind (form.PointerAdd a b pointer size) = valued (λ is_live. sum_with is_live pointer size a b)
constant_form nodes kind (form.PointerMinus p i size) = valued (λ is_live. lowered is_live size p i)
-- designators
constant_form nodes kind (form.Static symbol) = designated (λ is_live. Some (At symbol 0))
constant_form nodes kind (form.Deref e) = designated e.value
constant_form nodes kind (form.Index a b pointer size) = designated (λ is_live. element is_live pointer size a b)
constant_form nodes kind (form.Dot e m) = designated (λ is_live. option_and_then (place_under m.offset) (e.path is_live))
constant_form nodes kind (form.Arrow e m) = designated (λ is_live. option_and_then (place_under m.offset) (e.value is_live))
-- every other form is no constant
constant_form nodes kind _ = record { value = never; path = never }

abbrev pub constant_step : List TypeNode → TExpr-F Constant → Constant
constant_step nodes e = constant_form nodes e.kind e.form

unfoldable pub constant_of : List TypeNode → TExpr → Constant
constant_of nodes e = fold-TExpr Constant (constant_step nodes) e

abbrev pub known_in : Value → Known
known_in (Whole n) = known.Number n
known_in (Made n reach) = known.Number n
known_in (At symbol offset) = known.Address symbol offset

-- the value of an expression of a unit with these types; none where it is no constant expression
abbrev pub known_of : List TypeNode → TExpr → Option Known
known_of nodes e = option_map known_in ((constant_of nodes e).value true)
