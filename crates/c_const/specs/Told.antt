-- Values of constant expressions as the definition of these has them.
use Rattle.std.specs.Prelude.{Option, if◌then◌else◌}
use Rattle.std.specs.Option.{option_map}
use Rattle.c_const.specs.declared.conversion.Target.{Target}
use Rattle.c_const.specs.declared.conversion.Target.TheVariants as target
use Rattle.c_const.specs.declared.value.Reach.{Reach}
use Rattle.c_const.specs.declared.value.Reach.TheVariants as reach
use Rattle.c_const.specs.declared.value.Value.{Value}
use Rattle.c_const.specs.declared.value.Value.TheVariants as value
use Rattle.c_types.specs.declared.node.TypeNode.{TypeNode}
use Rattle.c_tree.specs.Constants.{Bare, Under, Other, Whole, Made, At, is_pointer, is_integer}
use Rattle.c_tree.specs.Constants.{Reach as Kept, Value as Constant}

abbrev pub told_reach : Reach → Kept
told_reach reach.Bare = Bare
told_reach reach.Under = Under
told_reach reach.Other = Other

abbrev pub told : Value → Constant
told (value.Whole number) = Whole number
told (value.Made number r) = Made number (told_reach r)
told (value.At symbol offset) = At symbol offset

-- what was computed, where something was
abbrev pub told_of : Option Value → Option Constant
told_of found = option_map told found

-- what a type is to a conversion
abbrev pub target_in : TypeNode → Target
target_in node = if is_pointer node then target.Pointer else (if is_integer node then target.Integer else target.Neither)
