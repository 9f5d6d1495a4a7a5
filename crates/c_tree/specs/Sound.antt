-- What holds of each typed unit that the checker gives, as far as what is made of it asks for it.
use Rattle.std.specs.Prelude.{ℕ, ◌+◌, ◌==◌, nat_lt, nat_le, nat_eq, not, ◌&&◌, ◌||◌, if◌then◌else◌, Bool, true, false, IsTrue, List, [], ◌∷◌, ◌++◌, length, map, flat_map, slice_get, Option, Some, None}
use Rattle.std.specs.List.{list_any, list_all}
use Rattle.std.specs.Cmp.Lexicographic.{pointwise}
use Rattle.c_ops.specs.declared.linkage.Definition.{Definition}
use Rattle.c_ops.specs.declared.linkage.Definition.TheVariants as definition
use Rattle.c_ops.specs.declared.linkage.Linkage.{Linkage}
use Rattle.c_ops.specs.declared.linkage.Linkage.TheVariants.{External, Internal}
use Rattle.c_types.specs.declared.node.TypeNode.{TypeNode}
use Rattle.c_types.specs.declared.node.TypeNode.TheVariants as node
use Rattle.c_tree.specs.declared.constant.Known.{Known}
use Rattle.c_tree.specs.declared.constant.Known.TheVariants as known
use Rattle.c_tree.specs.declared.expression.TExpr.{TExpr}
use Rattle.c_tree.specs.declared.statement.Piece.{Piece}
use Rattle.c_tree.specs.declared.statement.TStatement.{TStatement, fold-TStatement}
use Rattle.c_tree.specs.declared.statement.TStatement.TheOpen.{TStatement-F}
use Rattle.c_tree.specs.declared.statement.TStatement.TheOpen.TStatement-F.{Empty, Expression, Compound, Initialise, If, IfElse, While, DoWhile, For, Switch, Case, Default, Labelled, Goto, Break, Continue, Return, ReturnValue, ReturnRecord}
use Rattle.c_tree.specs.declared.unit.Entry.{Entry}
use Rattle.c_tree.specs.declared.unit.EntryOf.{EntryOf}
use Rattle.c_tree.specs.declared.unit.EntryOf.TheVariants.{Local, Call}
use Rattle.c_tree.specs.declared.unit.TypedSymbol.{TypedSymbol}
use Rattle.c_tree.specs.declared.unit.TypedFunction.{TypedFunction}
use Rattle.c_tree.specs.declared.unit.TypedObject.{TypedObject}
use Rattle.c_tree.specs.declared.unit.TypedUnit.{TypedUnit}
use Rattle.c_tree.specs.Programs.{is_record, type_of_function}
use Rattle.c_tree.specs.Constants.{is_integer, known_of}
use Rattle.c_tree.specs.SoundTypes.{is_type, is_sized, has_size, is_scalar, is_function, is_aggregate, is_same, is_value_of, bytes_in, agree}
use Rattle.c_tree.specs.SoundExpressions.{Scope, bare, fit_of, names_something, is_slot_in, is_whole, is_whole_if_there, is_test, is_test_if_there, is_selector}

-- ---- lists

abbrev pub contains : ℕ → List ℕ → Bool
contains n ns = list_any (λ (m : ℕ). n == m) ns

-- no number stands twice
abbrev pub are_distinct : List ℕ → Bool
are_distinct [] = true
are_distinct (n ∷ ns) = not (contains n ns) && are_distinct ns

-- each number is below those behind it
abbrev pub are_ascending : List ℕ → Bool
are_ascending [] = true
are_ascending (n ∷ ns) = list_all (nat_lt n) ns && are_ascending ns

-- the numbers from one on, each the next
abbrev pub are_counted : (from : ℕ) → List ℕ → Bool
are_counted from [] = true
are_counted from (n ∷ ns) = (n == from) && are_counted (from + 1) ns

-- each is as it has to be where it stands
abbrev pub all_from : {T : Type 0} → (from : ℕ) → (ℕ → T → Bool) → List T → Bool
all_from from test [] = true
all_from from test (x ∷ xs) = test from x && all_from (from + 1) test xs

-- ---- initialisers

abbrev pub kind_of : Scope → TExpr → ℕ
kind_of scope e = (fit_of scope e).kind

-- a piece lies in its object
abbrev pub lies_within : (size : ℕ) → Piece → Bool
lies_within size piece = nat_le (piece.offset + piece.size) size && nat_le (piece.first + piece.count) 32

-- a scalar, or a whole struct or union, is as large as its value's type; a bit-field is an integer, in a unit of 4 bytes
abbrev pub is_stored : Scope → Piece → (kind : ℕ) → Bool
is_stored scope piece kind =
    if piece.count == 0
    then has_size scope.unit.types kind piece.size && (if piece.is_record then is_record (bare scope kind) else is_scalar (bare scope kind))
    else not piece.is_record && (is_integer (bare scope kind) && (piece.size == 4))

abbrev pub is_piece : Scope → (size : ℕ) → Piece → Bool
is_piece scope size piece = lies_within size piece && (is_whole scope piece.value && is_stored scope piece (kind_of scope piece.value))

-- a scalar has one piece, a value of its type
abbrev pub is_single : Scope → (kind size : ℕ) → List Piece → Bool
is_single scope kind size [] = false
is_single scope kind size (piece ∷ []) = (piece.offset == 0) && ((piece.size == size) && ((piece.count == 0)
    && (not piece.is_record && is_same scope.unit.types (kind_of scope piece.value) kind)))
is_single scope kind size (piece ∷ (second ∷ pieces)) = false

-- what an initialiser says of its local is so
abbrev pub is_initialised : Scope → Option ℕ → (size : ℕ) → (is_aggregate_local : Bool) → List Piece → Bool
is_initialised scope None size is_aggregate_local pieces = false
is_initialised scope (Some kind) size is_aggregate_local pieces =
    has_size scope.unit.types kind size && (agree is_aggregate_local (is_aggregate (bare scope kind))
    && (list_all (is_piece scope size) pieces && (is_aggregate_local || is_single scope kind size pieces)))

-- ---- values that are returned (C90 6.6.6.4)

-- a scalar of the sort and size that the function returns
abbrev pub is_returned : Scope → (kind : ℕ) → Bool
is_returned scope kind =
    is_value_of (bare scope scope.returns) (bare scope kind) && (bytes_in (bare scope scope.returns) == bytes_in (bare scope kind))

-- a struct or union of the type that the function returns
abbrev pub is_returned_record : Scope → (kind size : ℕ) → Bool
is_returned_record scope kind size =
    is_record (bare scope scope.returns) && (is_same scope.unit.types kind scope.returns && has_size scope.unit.types scope.returns size)

-- ---- statements

-- A statement: whether it is sound, by whether it stands in a loop and in a switch; the labels that it has and those that it goes to;
-- and the cases and defaults of the switch around it.
pub record Labels : Type 0 where
  pub is_sound : (in_loop in_switch : Bool) → Bool
  pub labels : List ℕ
  pub targets : List ℕ
  pub cases : List ℕ
  pub defaults : ℕ

abbrev pub simple : ((in_loop in_switch : Bool) → Bool) → Labels
simple is_sound = record { is_sound = is_sound; labels = []; targets = []; cases = []; defaults = 0 }

abbrev pub always : Bool → Labels
always holds = simple (λ in_loop in_switch. holds)

-- with a further condition
abbrev pub provided : Bool → Labels → Labels
provided holds s = record s { is_sound = λ in_loop in_switch. holds && s.is_sound in_loop in_switch }

abbrev pub beside : (first second : Labels) → Labels
beside s t = record {
  is_sound = λ in_loop in_switch. s.is_sound in_loop in_switch && t.is_sound in_loop in_switch;
  labels = s.labels ++ t.labels;
  targets = s.targets ++ t.targets;
  cases = s.cases ++ t.cases;
  defaults = s.defaults + t.defaults;
}

abbrev pub all_beside : List Labels → Labels
all_beside [] = always true
all_beside (s ∷ ss) = beside s (all_beside ss)

-- the body of a loop, and that of a switch, whose labels are its own
abbrev pub looped : Labels → Labels
looped s = record s { is_sound = λ in_loop in_switch. s.is_sound true in_switch }

abbrev pub switched : Labels → Labels
switched s = record {
  is_sound = λ in_loop in_switch. s.is_sound in_loop true && (are_distinct s.cases && (nat_le s.defaults 1 && nat_le (length s.cases) 511));
  labels = s.labels;
  targets = s.targets;
  cases = [];
  defaults = 0;
}

abbrev pub labels_step : Scope → TStatement-F Labels → Labels
labels_step scope Empty = always true
labels_step scope (Expression e) = always (is_whole scope e)
labels_step scope (Compound statements) = all_beside statements
labels_step scope (Initialise local size is_aggregate_local pieces) =
    always (is_initialised scope (slice_get scope.locals local) size is_aggregate_local pieces)
labels_step scope (If e s) = provided (is_test scope e) s
labels_step scope (IfElse e s t) = provided (is_test scope e) (beside s t)
labels_step scope (While e s) = provided (is_test scope e) (looped s)
labels_step scope (DoWhile s e) = provided (is_test scope e) (looped s)
labels_step scope (For start test step s) = provided
    (is_whole_if_there scope start && (is_test_if_there scope test && is_whole_if_there scope step)) (looped s)
labels_step scope (Switch e s) = provided (is_selector scope e) (switched s)
labels_step scope (Case v s) =
    record s { is_sound = λ in_loop in_switch. in_switch && s.is_sound in_loop in_switch; cases = v ∷ s.cases }
labels_step scope (Default s) =
    record s { is_sound = λ in_loop in_switch. in_switch && s.is_sound in_loop in_switch; defaults = 1 + s.defaults }
labels_step scope (Labelled l s) = record s { labels = l ∷ s.labels }
labels_step scope (Goto l) = record (always true) { targets = l ∷ [] }
labels_step scope Break = simple (λ in_loop in_switch. in_loop || in_switch)
labels_step scope Continue = simple (λ in_loop in_switch. in_loop)
-- without a value in a function of any type
labels_step scope Return = always true
labels_step scope (ReturnValue e) = always (is_whole scope e && is_returned scope (kind_of scope e))
labels_step scope (ReturnRecord e size) = always (is_whole scope e && is_returned_record scope (kind_of scope e) size)

unfoldable pub labels_of : Scope → TStatement → Labels
labels_of scope s = fold-TStatement Labels (labels_step scope) s

-- ---- functions

abbrev pub returned_in : TypeNode → ℕ
returned_in (node.Function returns is_known parameters is_variadic) = returns
returned_in _ = 0

abbrev pub scope_of : TypedUnit → TypedFunction → Scope
scope_of u f = record { unit = u; locals = f.locals; entries = f.entries; returns = returned_in (type_of_function u f) }

-- a local is of a complete object type, and one without an entry block is scalar
abbrev pub is_local_kind : Scope → (number kind : ℕ) → Bool
is_local_kind scope number kind = is_sized scope.unit.types kind && (is_scalar (bare scope kind) || not (is_slot_in scope number))

-- the numbers of struct calls among what entry blocks are for
abbrev pub call_entries : EntryOf → List ℕ
call_entries (Local i) = []
call_entries (Call i) = i ∷ []

abbrev pub entry_calls : TypedFunction → List ℕ
entry_calls f = flat_map (λ (entry : Entry). call_entries entry.of) f.entries

-- the place of what an entry block is for: locals by their numbers, and behind them the struct calls
abbrev pub entry_place : (locals : ℕ) → EntryOf → ℕ
entry_place locals (Local i) = i
entry_place locals (Call i) = locals + i

abbrev pub is_kind_of : (kind : ℕ) → Option ℕ → Bool
is_kind_of kind None = false
is_kind_of kind (Some own) = kind == own

-- the entry block of a local is of its type, and that of a struct call of a struct or union
abbrev pub is_entry_of : Scope → (kind : ℕ) → EntryOf → Bool
is_entry_of scope kind (Local i) = is_kind_of kind (slice_get scope.locals i)
is_entry_of scope kind (Call i) = is_record (bare scope kind)

abbrev pub is_entry : Scope → Entry → Bool
is_entry scope entry = is_entry_of scope entry.kind entry.of && has_size scope.unit.types entry.kind entry.size

-- the entry blocks of locals come first, in order, and then those of all struct calls by their numbers from 0
abbrev pub are_entries : Scope → TypedFunction → Bool
are_entries scope f =
    are_ascending (map (λ (entry : Entry). entry_place (length f.locals) entry.of) f.entries)
    && (are_counted 0 (entry_calls f) && list_all (is_entry scope) f.entries)

-- at most 63 parameters, and at most 250 parameters, automatic names and struct calls
abbrev pub are_few : TypedFunction → Bool
are_few f = nat_le f.parameters (length f.locals) && (nat_le f.parameters 63 && nat_le (length f.locals + length (entry_calls f)) 250)

-- each label stands once, and each that is gone to stands somewhere
abbrev pub are_labels : (count : ℕ) → Labels → Bool
are_labels count s =
    s.is_sound false false
    && (are_distinct s.labels && ((length s.labels == count)
    && (list_all (λ (l : ℕ). nat_lt l count) s.labels && list_all (λ (l : ℕ). contains l s.labels) s.targets)))

abbrev pub is_sound_code : Scope → TypedFunction → Bool
is_sound_code scope f =
    are_few f && (all_from 0 (is_local_kind scope) f.locals && (are_entries scope f && are_labels f.labels (labels_of scope f.body)))

abbrev pub is_defined_by : (function : ℕ) → Definition → Bool
is_defined_by function definition.Missing = false
is_defined_by function (definition.Function i) = function == i
is_defined_by function (definition.Object i) = false

-- the symbol is defined by this very function
abbrev pub is_symbol_of : (function : ℕ) → Option TypedSymbol → Bool
is_symbol_of function None = false
is_symbol_of function (Some symbol) = is_defined_by function symbol.definition

abbrev pub is_sound_function : TypedUnit → (number : ℕ) → TypedFunction → Bool
is_sound_function u number f =
    is_symbol_of number (slice_get u.symbols f.symbol) && (is_function (type_of_function u f) && is_sound_code (scope_of u f) f)

-- ---- objects

-- constants of static objects stand in no function
abbrev pub scope_outside : TypedUnit → Scope
scope_outside u = record { unit = u; locals = []; entries = []; returns = 0 }

-- an address, which is that of something used or of an object of the unit, fills a whole word
abbrev pub is_constant : TypedUnit → Piece → Option Known → Bool
is_constant u piece None = false
is_constant u piece (Some (known.Number n)) = true
is_constant u piece (Some (known.Address symbol offset)) = names_something u symbol && ((piece.size == 4) && (piece.count == 0))

-- a static object's piece is a constant, and no struct or union as a whole
abbrev pub is_static_piece : TypedUnit → (size : ℕ) → Piece → Bool
is_static_piece u size piece =
    is_piece (scope_outside u) size piece && (not piece.is_record && is_constant u piece (known_of u.types piece.value))

abbrev pub is_sound_object : TypedUnit → TypedObject → Bool
is_sound_object u object = has_size u.types object.kind object.size && list_all (is_static_piece u object.size) object.pieces

-- ---- symbols

-- a function that is the definition of the symbol with this number
abbrev pub is_function_of : (symbol : ℕ) → Option TypedFunction → Bool
is_function_of symbol None = false
is_function_of symbol (Some f) = f.symbol == symbol

-- an object that is the definition of this symbol: it has its name and type
abbrev pub is_object_of : TypedSymbol → Option TypedObject → Bool
is_object_of symbol None = false
is_object_of symbol (Some object) = pointwise nat_eq object.name symbol.name && (object.kind == symbol.kind)

abbrev pub is_definition : TypedUnit → (number : ℕ) → TypedSymbol → Definition → Bool
is_definition u number symbol definition.Missing = true
is_definition u number symbol (definition.Function i) = is_function_of number (slice_get u.functions i)
is_definition u number symbol (definition.Object i) = is_object_of symbol (slice_get u.objects i)

-- what has internal linkage and is used is defined in its unit (C90 6.7)
abbrev pub is_settled : (used : Bool) → Linkage → Definition → Bool
is_settled used External by = true
is_settled used Internal definition.Missing = not used
is_settled used Internal (definition.Function i) = true
is_settled used Internal (definition.Object i) = true

abbrev pub is_sound_symbol : TypedUnit → (number : ℕ) → TypedSymbol → Bool
is_sound_symbol u number symbol =
    is_type u.types symbol.kind
    && (is_definition u number symbol symbol.definition && is_settled symbol.used symbol.linkage symbol.definition)

abbrev pub objects_in : Definition → List ℕ
objects_in definition.Missing = []
objects_in (definition.Function i) = []
objects_in (definition.Object i) = i ∷ []

-- no object defines two symbols
abbrev pub are_objects_apart : List TypedSymbol → Bool
are_objects_apart symbols = are_distinct (flat_map (λ (symbol : TypedSymbol). objects_in symbol.definition) symbols)

-- ---- units

unfoldable pub is_sound_unit : TypedUnit → Bool
is_sound_unit u =
    all_from 0 (is_sound_symbol u) u.symbols && (are_objects_apart u.symbols
    && (all_from 0 (is_sound_function u) u.functions && list_all (is_sound_object u) u.objects))

abbrev pub IsSoundUnit : TypedUnit → Type 0
IsSoundUnit u = IsTrue (is_sound_unit u)
