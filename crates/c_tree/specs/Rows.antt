-- What is to be done, in order, each row one step: for an expression first its operands, from left to right, and then itself.
-- The words that rows find and leave are those of expressions whose value is still wanted, the last one first.
use Rattle.std.specs.Prelude.{ℕ, List, [], ◌∷◌, Option, Bool}
use Rattle.fsc_base.specs.declared.word.Word.{Word}
use Rattle.fsc_base.specs.declared.word.Width.{Width}
use Rattle.c_ops.specs.declared.operators.Operator.{Operator}
use Rattle.c_ops.specs.declared.operators.UnaryOperator.{UnaryOperator}
use Rattle.c_ops.specs.declared.primitive.Primitive.{Primitive}
use Rattle.c_tree.specs.declared.expression.Symbol.{Symbol}
use Rattle.c_tree.specs.declared.expression.Side.{Side}
use Rattle.c_tree.specs.declared.expression.Access.{Access}
use Rattle.c_tree.specs.declared.expression.CompoundOp.{CompoundOp}

-- Where a scalar lies: in a slot of the frame, or in memory. In memory its address is among the words; the type is that of the
-- root of the access, and the member is the offset of the steps by . and -> behind the root.
pub data Spot : Type 0 where
  InSlot : (slot : ℕ) → Spot
  InMemory : (kind member : ℕ) → Spot

mutual
  pub data Row : Type 0 where
    -- ---- expressions
    -- gives a number
    Gives : ℕ → Row
    -- gives the address of what a name with linkage stands for
    Names : Symbol → Row
    -- gives the address of an entry block of the frame
    Locates : (entry : ℕ) → Row
    -- changes nothing
    Stays : Row
    -- moves an address by the offset of a member
    Moves : (offset : ℕ) → Row
    -- a pointer plus an integer
    Indexes : Side → (size : ℕ) → Row
    -- a pointer minus an integer
    Lowers : (size : ℕ) → Row
    -- a pointer minus a pointer
    Spans : (size : ℕ) → Row
    -- converts to a type of this width
    Narrows : Width → (is_signed : Bool) → Row
    -- converts to a pointer to this type
    Casts : (kind : ℕ) → Row
    -- an operator with one operand
    Turns : UnaryOperator → Row
    -- an operator with two
    Operates : Operator → Row
    -- the value of an lvalue
    Reads : Spot → Access → Row
    -- the same where a store to that lvalue follows, which wants its address again
    Peeks : Spot → Access → Row
    -- an assignment
    Stores : Spot → Access → Row
    -- the rest of a compound assignment
    Combines : Spot → CompoundOp → Access → Row
    -- the rest of ++ and --
    Increments : Spot → CompoundOp → (is_prefix : Bool) → Access → Row
    -- the second step of a store to a bit-field: writes a word's bits into the unit that was read; gives a word, if any
    Writes : (kind member first count : ℕ) → Word → (gives : Option Word) → Row
    -- an assignment of a struct or union
    Copies : (size : ℕ) → Row
    -- the right operand of &&, where it is wanted
    AndThen : Todo → Row
    -- the right operand of ||, where it is wanted
    OrElse : Todo → Row
    -- makes that operand's value 0 or 1
    Truth : Row
    -- the second or the third operand of ?:
    Chooses : Todo → Todo → Row
    -- drops a value
    Drops : Row
    -- puts the address of a struct call's entry block below so many arguments
    Receives : (entry below : ℕ) → Row
    -- calls the word below so many arguments
    Calls : (arguments : ℕ) → Row
    -- a primitive
    Performs : Primitive → Row
    -- ---- statements
    -- if: one of two bodies
    Branches : Todo → Todo → Row
    -- while and for: a turn begins. is_tested is false where a for has no test; before is what is done before the next turn
    Loops : (is_tested : Bool) → (before test body : Todo) → Row
    -- the test of a turn was made
    Tests : (is_tested : Bool) → (before test body : Todo) → Row
    -- the end of the body, where continue goes
    Around : (is_tested : Bool) → (before test body : Todo) → Row
    -- do: a turn begins
    Repeats : (body test : Todo) → Row
    -- the end of its body, where continue goes
    Again : (body test : Todo) → Row
    -- its test was made
    Until : (body test : Todo) → Row
    -- switch: the labels that are still to be tested
    Selects : (cases : List ℕ) → (body : Todo) → Row
    -- the end of a switch
    EndsSwitch : Row
    -- case, default and labels
    CaseHere : ℕ → Row
    DefaultHere : Row
    Here : ℕ → Row
    -- goto, break, continue
    Goes : ℕ → Row
    Breaks : Row
    Continues : Row
    -- ---- initialisers
    -- a scalar that is a slot
    Sets : (slot : ℕ) → Row
    -- an aggregate's bytes and bases are cleared
    Clears : (entry size : ℕ) → Row
    -- a scalar member, or a scalar in memory
    Initialises : (entry kind offset : ℕ) → Access → Row
    -- a member that is a struct or union
    CopiesIn : (entry offset size : ℕ) → Row
    -- ---- entry and return
    -- copies a struct or union to where the caller wants it
    CopiesOut : (size : ℕ) → Row
    -- ends the entry blocks, a step each, and returns
    Returns : Row
    -- makes the block of the extra words of a variadic function
    MakesExtra : List Word → Row
    -- makes an entry block
    Makes : (size kind : ℕ) → Row
    -- fills the entry block of a scalar parameter from its slot
    Fills : (slot entry kind : ℕ) → Width → Row
    -- the same for a struct or union: the slot has the address of the argument
    FillsRecord : (slot entry size : ℕ) → Row

  pub data Todo : Type 0 where
    done : Todo
    next : Row → Todo → Todo

abbrev pub one : Row → Todo
one row = next row done

abbrev pub join : Todo → Todo → Todo
join done rest = rest
join (next row todo) rest = next row (join todo rest)

abbrev pub join_all : List Todo → Todo
join_all [] = done
join_all (todo ∷ todos) = join todo (join_all todos)
