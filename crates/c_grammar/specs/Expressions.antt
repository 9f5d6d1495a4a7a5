-- Which expressions, type names, specifiers and declarators derive from which tokens (C90 6.3 to 6.5.5): one clause for each
-- production. A relation takes the scopes before its tokens, the tokens, what derives from them, and the scopes behind them:
-- enumerators and parameters are declared inside. The place of what derives is that of its first token.
use Rattle.std.specs.Prelude.{◌≡◌, ℕ, suc, Bool, true, false, ◌||◌, List, [], ◌∷◌, ◌++◌, Option, Some, None}
use Rattle.fsc_base.specs.declared.place.Place.{Place}
use Rattle.c_lexer.specs.declared.token.BasicType.{BasicType}
use Rattle.c_lexer.specs.declared.token.Token.{Token}
use Rattle.c_lexer.specs.declared.token.TokenKind.TheVariants as kind
use Rattle.c_lexer.specs.declared.keyword.Keyword.{Keyword}
use Rattle.c_lexer.specs.declared.keyword.Keyword.TheVariants.{Sizeof, Enum}
use Rattle.c_lexer.specs.declared.punctuator.Punctuator.{Punctuator}
use Rattle.c_lexer.specs.declared.punctuator.Punctuator.TheVariants.{LeftParenthesis, RightParenthesis, LeftBracket, RightBracket, LeftBrace, RightBrace, Dot, Arrow, Question, Colon, Comma, Semicolon, Assign}
use Rattle.c_syntax.specs.declared.operator.Binary.{Binary}
use Rattle.c_syntax.specs.declared.operator.Unary.{Unary}
use Rattle.c_syntax.specs.declared.operator.Step.{Step}
use Rattle.c_syntax.specs.declared.operator.Storage.{Storage}
use Rattle.c_syntax.specs.declared.operator.TypeKeyword.{TypeKeyword}
use Rattle.c_syntax.specs.declared.operator.Qualifier.{Qualifier}
use Rattle.c_syntax.specs.declared.operator.RecordKind.{RecordKind}
use Rattle.c_syntax.specs.declared.expression.Expr.{Expr}
use Rattle.c_syntax.specs.declared.expression.ExprForm.TheVariants as form
use Rattle.c_syntax.specs.declared.expression.TypeName.{TypeName}
use Rattle.c_syntax.specs.declared.expression.Specifier.{Specifier, out-Specifier}
use Rattle.c_syntax.specs.declared.expression.SpecifierForm.TheVariants as specifier
use Rattle.c_syntax.specs.declared.expression.Field.{Field}
use Rattle.c_syntax.specs.declared.expression.FieldDeclarator.{FieldDeclarator}
use Rattle.c_syntax.specs.declared.expression.Enumerator.{Enumerator}
use Rattle.c_syntax.specs.declared.expression.Declarator.{Declarator}
use Rattle.c_syntax.specs.declared.expression.Part.{Part}
use Rattle.c_syntax.specs.declared.expression.PartForm.TheVariants as part
use Rattle.c_syntax.specs.declared.expression.Parameter.{Parameter}
use Rattle.c_syntax.specs.declared.expression.Pointer.{Pointer}
use Rattle.c_syntax.specs.declared.expression.ListedName.{ListedName}
use Rattle.c_grammar.specs.Names.{Scope, Scopes, is_type, declaring, declaring_by}
use Rattle.c_grammar.specs.Tokens.{token, sign, word, named, Starts, start_before, binary_of, assignment_of, unary_of, step_of, storage_of, type_of, record_of, qualifier_of}
use Rattle.c_grammar.specs.Trees.{expr_at, place_of, type_name_at, specifier_at, field_at, member_at, enumerator_at, declarator_at, parts_of, start_of, part_at, parameter_at, is_type_specifier, has_type, is_typedef}
use Rattle.c_grammar.specs.Levels.{primary, postfix, unary, cast, logical_or, conditional, assignment, expression, level_of}
use Rattle.c_grammar.specs.Parts.{may_follow, DerivesTag, Manner, Named, OfParameter, Abstract, has_name, may_declare, may_group, next_around, DerivesPointers, DerivesNames, DerivesEllipsis}

mutual
  -- ---- expressions (C90 6.3, 6.4)

  -- An expression of a level.
  pub data DerivesExpr : Scopes → (level : ℕ) → List Token → Expr → Scopes → Type 0 where
    -- a tighter expression
    looser : {names after : Scopes} {level : ℕ} {tokens : List Token} {e : Expr}
        → DerivesExpr names level tokens e after → DerivesExpr names (suc level) tokens e after
    -- primary expressions (6.3.1): a name that stands for no type
    name : {names : Scopes} {p : Place} {n : List ℕ} → is_type names n ≡ false
        → DerivesExpr names primary (named n p ∷ []) (expr_at p (form.Name n)) names
    integer : {names : Scopes} {p : Place} {value : ℕ} {of : BasicType}
        → DerivesExpr names primary (token (kind.Int value of) p ∷ []) (expr_at p (form.Integer value of)) names
    character : {names : Scopes} {p : Place} {value : ℕ}
        → DerivesExpr names primary (token (kind.Char value) p ∷ []) (expr_at p (form.Character value)) names
    text : {names : Scopes} {p : Place} {bytes : List ℕ}
        → DerivesExpr names primary (token (kind.Str bytes) p ∷ []) (expr_at p (form.Text bytes)) names
    parenthesis : {names after : Scopes} {p : Place} {tokens : List Token} {e : Expr} (q : Place)
        → DerivesExpr names expression tokens e after
        → DerivesExpr names primary (sign LeftParenthesis p ∷ (tokens ++ (sign RightParenthesis q ∷ []))) (expr_at p (form.Parenthesis e)) after
    -- postfix expressions (6.3.2)
    subscript : {names between after : Scopes} {array index : List Token} {a b : Expr} (p q : Place)
        → DerivesExpr names postfix array a between → DerivesExpr between expression index b after
        → DerivesExpr names postfix (array ++ (sign LeftBracket p ∷ (index ++ (sign RightBracket q ∷ [])))) (expr_at (place_of a) (form.Subscript a b)) after
    call_of_nothing : {names after : Scopes} {function : List Token} {f : Expr} (p q : Place)
        → DerivesExpr names postfix function f after
        → DerivesExpr names postfix (function ++ (sign LeftParenthesis p ∷ sign RightParenthesis q ∷ [])) (expr_at (place_of f) (form.Call f [])) after
    call : {names between after : Scopes} {function list : List Token} {f : Expr} {arguments : List Expr} (p q : Place)
        → DerivesExpr names postfix function f between → DerivesExprs between list arguments after
        → DerivesExpr names postfix (function ++ (sign LeftParenthesis p ∷ (list ++ (sign RightParenthesis q ∷ [])))) (expr_at (place_of f) (form.Call f arguments)) after
    member : {names after : Scopes} {of : List Token} {e : Expr} (n : List ℕ) (p q : Place)
        → DerivesExpr names postfix of e after
        → DerivesExpr names postfix (of ++ (sign Dot p ∷ named n q ∷ [])) (expr_at (place_of e) (form.Member e n)) after
    pointer_member : {names after : Scopes} {of : List Token} {e : Expr} (n : List ℕ) (p q : Place)
        → DerivesExpr names postfix of e after
        → DerivesExpr names postfix (of ++ (sign Arrow p ∷ named n q ∷ [])) (expr_at (place_of e) (form.PointerMember e n)) after
    step_behind : {names after : Scopes} {of : List Token} {e : Expr} {step : Step} (punctuator : Punctuator) (p : Place)
        → step_of punctuator ≡ Some step → DerivesExpr names postfix of e after
        → DerivesExpr names postfix (of ++ (sign punctuator p ∷ [])) (expr_at (place_of e) (form.Postfix step e)) after
    -- unary expressions (6.3.3)
    step_before : {names after : Scopes} {p : Place} {punctuator : Punctuator} {step : Step} {tokens : List Token} {e : Expr}
        → step_of punctuator ≡ Some step → DerivesExpr names unary tokens e after
        → DerivesExpr names unary (sign punctuator p ∷ tokens) (expr_at p (form.Prefix step e)) after
    operated : {names after : Scopes} {p : Place} {punctuator : Punctuator} {operator : Unary} {tokens : List Token} {e : Expr}
        → unary_of punctuator ≡ Some operator → DerivesExpr names cast tokens e after
        → DerivesExpr names unary (sign punctuator p ∷ tokens) (expr_at p (form.Unary operator e)) after
    size_of_expr : {names after : Scopes} {p : Place} {tokens : List Token} {e : Expr}
        → DerivesExpr names unary tokens e after
        → DerivesExpr names unary (word Sizeof p ∷ tokens) (expr_at p (form.SizeOfExpr e)) after
    size_of_type : {names after : Scopes} {p q : Place} {tokens : List Token} {t : TypeName} (r : Place)
        → DerivesTypeName names tokens t after
        → DerivesExpr names unary (word Sizeof p ∷ sign LeftParenthesis q ∷ (tokens ++ (sign RightParenthesis r ∷ []))) (expr_at p (form.SizeOfType t)) after
    -- casts (6.3.4)
    cast_to : {names between after : Scopes} {p : Place} {type operand : List Token} {t : TypeName} {e : Expr} (q : Place)
        → DerivesTypeName names type t between → DerivesExpr between cast operand e after
        → DerivesExpr names cast (sign LeftParenthesis p ∷ (type ++ (sign RightParenthesis q ∷ operand))) (expr_at p (form.Cast t e)) after
    -- operators with two operands, which group to the left (6.3.5 to 6.3.14)
    operation : {names between after : Scopes} {left right : List Token} {a b : Expr} {operator : Binary} {tighter : ℕ} (punctuator : Punctuator) (p : Place)
        → binary_of punctuator ≡ Some operator → level_of operator ≡ suc tighter
        → DerivesExpr names (suc tighter) left a between → DerivesExpr between tighter right b after
        → DerivesExpr names (suc tighter) (left ++ (sign punctuator p ∷ right)) (expr_at (place_of a) (form.Binary operator a b)) after
    -- conditional expressions (6.3.15)
    choice : {names first second after : Scopes} {test yes otherwise : List Token} {c a b : Expr} (p q : Place)
        → DerivesExpr names logical_or test c first → DerivesExpr first expression yes a second → DerivesExpr second conditional otherwise b after
        → DerivesExpr names conditional (test ++ (sign Question p ∷ (yes ++ (sign Colon q ∷ otherwise)))) (expr_at (place_of c) (form.Conditional c a b)) after
    -- assignments (6.3.16)
    assigns : {names between after : Scopes} {left right : List Token} {a b : Expr} {by : Option Binary} (punctuator : Punctuator) (p : Place)
        → assignment_of punctuator ≡ Some by → DerivesExpr names unary left a between → DerivesExpr between assignment right b after
        → DerivesExpr names assignment (left ++ (sign punctuator p ∷ right)) (expr_at (place_of a) (form.Assign by a b)) after
    -- two expressions or more with commas between them (6.3.17)
    comma : {names after : Scopes} {tokens : List Token} {a b : Expr} {others : List Expr}
        → DerivesExprs names tokens (a ∷ b ∷ others) after
        → DerivesExpr names expression tokens (expr_at (place_of a) (form.Comma (a ∷ b ∷ others))) after

  -- Assignment expressions with commas between them, one at least: arguments (6.3.2.2), operands of commas.
  pub data DerivesExprs : Scopes → List Token → List Expr → Scopes → Type 0 where
    one_expr : {names after : Scopes} {tokens : List Token} {e : Expr}
        → DerivesExpr names assignment tokens e after → DerivesExprs names tokens (e ∷ []) after
    more_exprs : {names between after : Scopes} {tokens rest : List Token} {e : Expr} {others : List Expr} (p : Place)
        → DerivesExpr names assignment tokens e between → DerivesExprs between rest others after
        → DerivesExprs names (tokens ++ (sign Comma p ∷ rest)) (e ∷ others) after

  -- ---- type names (6.5.5)

  -- Specifiers without a storage class, and perhaps an abstract declarator.
  pub data DerivesTypeName : Scopes → List Token → TypeName → Scopes → Type 0 where
    type_name : {names between after : Scopes} {list behind : List Token} {specifiers : List Specifier} {declarator : Option Declarator} (place : Place)
        → DerivesSpecifiers false false names list specifiers between → DerivesAbstract between behind declarator after → Starts list place
        → DerivesTypeName names (list ++ behind) (type_name_at place specifiers declarator) after

  -- An abstract declarator, which may be absent.
  pub data DerivesAbstract : Scopes → List Token → Option Declarator → Scopes → Type 0 where
    no_abstract : {names : Scopes} → DerivesAbstract names [] None names
    an_abstract : {names after : Scopes} {tokens : List Token} {declarator : Declarator} {around : Option Scope}
        → DerivesDeclarator Abstract names tokens declarator around after → DerivesAbstract names tokens (Some declarator) after

  -- ---- specifiers (6.5)

  -- Specifiers in a list that may have storage classes, behind those of which one may be a type specifier. There may be none.
  pub data DerivesSpecifiers : (allows_storage typed : Bool) → Scopes → List Token → List Specifier → Scopes → Type 0 where
    no_specifiers : {allows_storage typed : Bool} {names : Scopes} → DerivesSpecifiers allows_storage typed names [] [] names
    more_specifiers : {allows_storage typed : Bool} {names between after : Scopes} {tokens rest : List Token} {s : Specifier} {others : List Specifier}
        → DerivesSpecifier names tokens s between → may_follow allows_storage typed (out-Specifier s).form ≡ true
        → DerivesSpecifiers allows_storage (typed || is_type_specifier s) between rest others after
        → DerivesSpecifiers allows_storage typed names (tokens ++ rest) (s ∷ others) after

  pub data DerivesSpecifier : Scopes → List Token → Specifier → Scopes → Type 0 where
    -- a storage class (6.5.1)
    storage : {names : Scopes} {p : Place} {keyword : Keyword} {class : Storage} → storage_of keyword ≡ Some class
        → DerivesSpecifier names (word keyword p ∷ []) (specifier_at p (specifier.Storage class)) names
    -- a keyword that names a type (6.5.2)
    type : {names : Scopes} {p : Place} {keyword : Keyword} {type : TypeKeyword} → type_of keyword ≡ Some type
        → DerivesSpecifier names (word keyword p ∷ []) (specifier_at p (specifier.Keyword type)) names
    -- a qualifier (6.5.3)
    qualifier : {names : Scopes} {p : Place} {keyword : Keyword} {qualifier : Qualifier} → qualifier_of keyword ≡ Some qualifier
        → DerivesSpecifier names (word keyword p ∷ []) (specifier_at p (specifier.Qualifier qualifier)) names
    -- a typedef name (6.5.6)
    alias : {names : Scopes} {p : Place} {n : List ℕ} → is_type names n ≡ true
        → DerivesSpecifier names (named n p ∷ []) (specifier_at p (specifier.Alias n)) names
    -- structs and unions (6.5.2.1)
    record_tag : {names : Scopes} {p q : Place} {keyword : Keyword} {kind : RecordKind} {tag : List ℕ} → record_of keyword ≡ Some kind
        → DerivesSpecifier names (word keyword p ∷ named tag q ∷ []) (specifier_at p (specifier.RecordTag kind tag)) names
    record_body : {names after : Scopes} {p : Place} {keyword : Keyword} {kind : RecordKind} {tag body : List Token} {name : Option (List ℕ)} {fields : List Field} (q r : Place)
        → record_of keyword ≡ Some kind → DerivesTag tag name → DerivesFields names body fields after
        → DerivesSpecifier names (word keyword p ∷ (tag ++ (sign LeftBrace q ∷ (body ++ (sign RightBrace r ∷ []))))) (specifier_at p (specifier.RecordBody kind name fields)) after
    -- enumerations (6.5.2.2)
    enum_tag : {names : Scopes} {p q : Place} {tag : List ℕ}
        → DerivesSpecifier names (word Enum p ∷ named tag q ∷ []) (specifier_at p (specifier.EnumTag tag)) names
    enum_body : {names after : Scopes} {p : Place} {tag body : List Token} {name : Option (List ℕ)} {enumerators : List Enumerator} (q r : Place)
        → DerivesTag tag name → DerivesEnumerators names body enumerators after
        → DerivesSpecifier names (word Enum p ∷ (tag ++ (sign LeftBrace q ∷ (body ++ (sign RightBrace r ∷ []))))) (specifier_at p (specifier.EnumBody name enumerators)) after

  -- Declarations of members, one at least (6.5.2.1).
  pub data DerivesFields : Scopes → List Token → List Field → Scopes → Type 0 where
    one_field : {names after : Scopes} {tokens : List Token} {field : Field} → DerivesField names tokens field after → DerivesFields names tokens (field ∷ []) after
    more_fields : {names between after : Scopes} {tokens rest : List Token} {field : Field} {others : List Field}
        → DerivesField names tokens field between → DerivesFields between rest others after
        → DerivesFields names (tokens ++ rest) (field ∷ others) after

  -- Specifiers without a storage class, and members.
  pub data DerivesField : Scopes → List Token → Field → Scopes → Type 0 where
    field : {names between after : Scopes} {list behind : List Token} {specifiers : List Specifier} {members : List FieldDeclarator} (place p : Place)
        → DerivesSpecifiers false false names list specifiers between → DerivesMembers (has_type specifiers) between behind members after → Starts list place
        → DerivesField names (list ++ (behind ++ (sign Semicolon p ∷ []))) (field_at place specifiers members) after

  -- Members with commas between them, one at least.
  pub data DerivesMembers : (renames : Bool) → Scopes → List Token → List FieldDeclarator → Scopes → Type 0 where
    one_member : {renames : Bool} {names after : Scopes} {tokens : List Token} {m : FieldDeclarator}
        → DerivesMember renames names tokens m after → DerivesMembers renames names tokens (m ∷ []) after
    more_members : {renames : Bool} {names between after : Scopes} {tokens rest : List Token} {m : FieldDeclarator} {others : List FieldDeclarator} (p : Place)
        → DerivesMember renames names tokens m between → DerivesMembers renames between rest others after
        → DerivesMembers renames names (tokens ++ (sign Comma p ∷ rest)) (m ∷ others) after

  -- A member: its names are not declared with ordinary identifiers.
  pub data DerivesMember : (renames : Bool) → Scopes → List Token → FieldDeclarator → Scopes → Type 0 where
    plain_member : {renames : Bool} {names after : Scopes} {tokens : List Token} {declarator : Declarator} {around : Option Scope}
        → DerivesDeclarator (Named renames) names tokens declarator around after
        → DerivesMember renames names tokens (member_at (start_of declarator) (Some declarator) None) after
    bit_field : {renames : Bool} {names between after : Scopes} {tokens width : List Token} {declarator : Declarator} {around : Option Scope} {w : Expr} (p : Place)
        → DerivesDeclarator (Named renames) names tokens declarator around between → DerivesExpr between conditional width w after
        → DerivesMember renames names (tokens ++ (sign Colon p ∷ width)) (member_at (start_of declarator) (Some declarator) (Some w)) after
    unnamed_bit_field : {renames : Bool} {names after : Scopes} {p : Place} {width : List Token} {w : Expr}
        → DerivesExpr names conditional width w after
        → DerivesMember renames names (sign Colon p ∷ width) (member_at p None (Some w)) after

  -- Enumerators with commas between them, one at least (6.5.2.2).
  pub data DerivesEnumerators : Scopes → List Token → List Enumerator → Scopes → Type 0 where
    one_enumerator : {names after : Scopes} {tokens : List Token} {e : Enumerator} → DerivesEnumerator names tokens e after → DerivesEnumerators names tokens (e ∷ []) after
    more_enumerators : {names between after : Scopes} {tokens rest : List Token} {e : Enumerator} {others : List Enumerator} (p : Place)
        → DerivesEnumerator names tokens e between → DerivesEnumerators between rest others after
        → DerivesEnumerators names (tokens ++ (sign Comma p ∷ rest)) (e ∷ others) after

  -- An enumerator. Behind it, its name stands for a constant.
  pub data DerivesEnumerator : Scopes → List Token → Enumerator → Scopes → Type 0 where
    plain_enumerator : {names : Scopes} {p : Place} {n : List ℕ}
        → DerivesEnumerator names (named n p ∷ []) (enumerator_at p n None) (declaring n false names)
    valued_enumerator : {names after : Scopes} {p q : Place} {n : List ℕ} {tokens : List Token} {value : Expr}
        → DerivesExpr names conditional tokens value after
        → DerivesEnumerator names (named n p ∷ sign Assign q ∷ tokens) (enumerator_at p n (Some value)) (declaring n false after)

  -- ---- declarators (6.5.4, 6.5.5)

  -- A declarator, and what stands next around its name.
  pub data DerivesDeclarator : Manner → Scopes → List Token → Declarator → (around : Option Scope) → Scopes → Type 0 where
    direct : {manner : Manner} {names after : Scopes} {tokens : List Token} {parts : List Part} {around : Option Scope} (place : Place)
        → DerivesDirect manner names tokens parts around after → Starts tokens place
        → DerivesDeclarator manner names tokens (declarator_at place parts) around after
    -- 6.5.4.1
    pointers : {manner : Manner} {names after : Scopes} {stars tokens : List Token} {pointers : List Pointer} {parts : List Part} {around : Option Scope} (place : Place)
        → DerivesPointers stars pointers → DerivesDirect manner names tokens parts around after → Starts stars place
        → DerivesDeclarator manner names (stars ++ tokens) (declarator_at place (parts ++ (part_at place (part.Pointers pointers) ∷ []))) (next_around around []) after

  -- A declarator without a star in front: its parts, from the innermost on.
  pub data DerivesDirect : Manner → Scopes → List Token → List Part → (around : Option Scope) → Scopes → Type 0 where
    declared_name : {manner : Manner} {names : Scopes} {p : Place} {n : List ℕ} → may_declare manner (is_type names n) ≡ true
        → DerivesDirect manner names (named n p ∷ []) (part_at p (part.Plain n) ∷ []) None names
    nothing : {names : Scopes} → DerivesDirect Abstract names [] [] None names
    group : {manner : Manner} {names after : Scopes} {p : Place} {tokens : List Token} {declarator : Declarator} {around : Option Scope} (q : Place)
        → may_group manner names tokens ≡ true → DerivesDeclarator manner names tokens declarator around after
        → DerivesDirect manner names (sign LeftParenthesis p ∷ (tokens ++ (sign RightParenthesis q ∷ []))) (parts_of declarator ++ (part_at p part.Group ∷ [])) around after
    -- 6.5.4.2
    array : {manner : Manner} {names after : Scopes} {tokens : List Token} {parts : List Part} {around : Option Scope} (p q : Place)
        → DerivesDirect manner names tokens parts around after
        → DerivesDirect manner names (tokens ++ (sign LeftBracket p ∷ sign RightBracket q ∷ []))
        (parts ++ (part_at (start_before tokens p) (part.Array None) ∷ [])) (next_around around []) after
    sized_array : {manner : Manner} {names between after : Scopes} {tokens size : List Token} {parts : List Part} {around : Option Scope} {e : Expr} (p q : Place)
        → DerivesDirect manner names tokens parts around between → DerivesExpr between conditional size e after
        → DerivesDirect manner names (tokens ++ (sign LeftBracket p ∷ (size ++ (sign RightBracket q ∷ []))))
        (parts ++ (part_at (start_before tokens p) (part.Array (Some e)) ∷ [])) (next_around around []) after
    -- 6.5.4.3: parameters have a scope of their own
    function : {manner : Manner} {names between after : Scopes} {tokens list end : List Token} {parts : List Part} {around : Option Scope} {parameters : List Parameter} {scope : Scope} {is_variadic : Bool} (p q : Place)
        → DerivesDirect manner names tokens parts around between → DerivesParameters ([] ∷ between) list parameters (scope ∷ after) → DerivesEllipsis end is_variadic
        → DerivesDirect manner names (tokens ++ (sign LeftParenthesis p ∷ (list ++ (end ++ (sign RightParenthesis q ∷ [])))))
        (parts ++ (part_at (start_before tokens p) (part.Parameters parameters is_variadic) ∷ [])) (next_around around scope) after
    -- no list at all
    unlisted : {manner : Manner} {names after : Scopes} {tokens : List Token} {parts : List Part} {around : Option Scope} (p q : Place)
        → DerivesDirect manner names tokens parts around after
        → DerivesDirect manner names (tokens ++ (sign LeftParenthesis p ∷ sign RightParenthesis q ∷ []))
        (parts ++ (part_at (start_before tokens p) (part.Names []) ∷ [])) (next_around around []) after
    -- the names of an old-style definition
    listed : {manner : Manner} {names after : Scopes} {tokens list : List Token} {parts : List Part} {around : Option Scope} {listed : List ListedName} (p q : Place)
        → has_name manner ≡ true → DerivesDirect manner names tokens parts around after → DerivesNames after list listed
        → DerivesDirect manner names (tokens ++ (sign LeftParenthesis p ∷ (list ++ (sign RightParenthesis q ∷ []))))
        (parts ++ (part_at (start_before tokens p) (part.Names listed) ∷ [])) (next_around around []) after

  -- Parameters with commas between them, one at least.
  pub data DerivesParameters : Scopes → List Token → List Parameter → Scopes → Type 0 where
    one_parameter : {names after : Scopes} {tokens : List Token} {parameter : Parameter}
        → DerivesParameter names tokens parameter after → DerivesParameters names tokens (parameter ∷ []) after
    more_parameters : {names between after : Scopes} {tokens rest : List Token} {parameter : Parameter} {others : List Parameter} (p : Place)
        → DerivesParameter names tokens parameter between → DerivesParameters between rest others after
        → DerivesParameters names (tokens ++ (sign Comma p ∷ rest)) (parameter ∷ others) after

  -- A parameter, with a declarator of either kind or without one. Its name is declared behind it.
  pub data DerivesParameter : Scopes → List Token → Parameter → Scopes → Type 0 where
    with_name : {names between after : Scopes} {list behind : List Token} {specifiers : List Specifier} {declarator : Declarator} {around : Option Scope} (place : Place)
        → DerivesSpecifiers true false names list specifiers between
        → DerivesDeclarator (OfParameter (has_type specifiers)) between behind declarator around after → Starts list place
        → DerivesParameter names (list ++ behind) (parameter_at place specifiers (Some declarator)) (declaring_by declarator (is_typedef specifiers) after)
    without_name : {names between after : Scopes} {list behind : List Token} {specifiers : List Specifier} {declarator : Option Declarator} (place : Place)
        → DerivesSpecifiers true false names list specifiers between → DerivesAbstract between behind declarator after → Starts list place
        → DerivesParameter names (list ++ behind) (parameter_at place specifiers declarator) after
