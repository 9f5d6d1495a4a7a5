-- The rows of the worked programs, from their trees.
use Rattle.std.proofs.Common.{[], ◌∷◌, false, Some, ap, ap₂, ◌∙◌}
use Rattle.c_ops.specs.declared.operators.Operator.TheVariants as operator
use Rattle.c_ops.specs.declared.primitive.Primitive.TheVariants as primitive
use Rattle.c_tree.specs.declared.expression.CompoundOp.TheVariants.{Plain, PointerPlus}
use Rattle.c_tree.specs.declared.expression.Conversion.TheVariants.{Decide}
use Rattle.c_tree.specs.declared.expression.Side.TheVariants.{Left}
use Rattle.c_tree.specs.declared.expression.Symbol.TheVariants.{Named}
use Rattle.c_types.specs.Nodes.{unqualified}
use Rattle.c_tree.specs.Rows.{Todo, next, one, join, Gives, Returns, Sets, done}
use Rattle.c_tree.specs.Plans.{Plan}
use Rattle.c_tree.specs.Programs.{locals_of}
use Rattle.c_tree.specs.declared.expression.Form.TheVariants as form
use Rattle.c_tree.specs.declared.statement.TStatement.TheOpen.TStatement-F.{Initialise, While, For, Switch, Case, Default, Break, ReturnRecord}
use Rattle.c_tree.specs.Samples.{int, int_access, pointer_access, expression, number, local, value, assignment, binary, compound, statement, does, gives, block}
use Rattle.c_tree.proofs.Planned.{planned_number, planned_local, planned_static, planned_decay, planned_deref, planned_value, planned_convert, planned_dot, planned_step, planned_index, planned_minus, planned_binary, planned_assign, planned_assign_record, planned_compound, planned_none, planned_more, planned_primitive, planned_call, planned_call_record, stated_none, stated_more, stated_block, stated_does, stated_gives, stated_record, stated_while, stated_switch, stated_case, stated_default, stated_break, stated_for, stated_initialise}
use Rattle.c_tree.specs.Worked.{seven_main, SevenRows, past_end_main, PastEndRows}
use Rattle.c_tree.specs.WorkedControl.{control_main, ControlRows}
use Rattle.c_tree.specs.WorkedCalls.{s, zero_piece, struct_f, struct_main, StructsRows, variadic_f, variadic_main, VariadicRows}

-- int main(void){return 7;}
pub seven_codes : SevenRows
unfolding unqualified
seven_codes = ap (λ (x : Todo). join x (next (Gives 0) (one Returns)) ∷ [])
    (stated_block (locals_of 0 seven_main) ((gives (number 7)) ∷ []) (stated_more (locals_of 0 seven_main) (gives (number 7)) [] (stated_gives (locals_of 0 seven_main) (number 7) (planned_number (locals_of 0 seven_main) int 7))
    (stated_none (locals_of 0 seven_main))))

-- int main(void){int a[3];a[3]=1;return 0;}
pub past_end_codes : PastEndRows
unfolding unqualified
past_end_codes = ap (λ (x : Todo). join x (next (Gives 0) (one Returns)) ∷ [])
    (stated_block (locals_of 0 past_end_main) ((does (assignment (expression int (form.Index (expression 12 (form.Decay (local 11 0))) (number 3) Left 4)) (number 1))) ∷ ((gives (number 0)) ∷ [])) (stated_more (locals_of 0 past_end_main) (does (assignment (expression int (form.Index (expression 12 (form.Decay (local 11 0))) (number 3) Left 4)) (number 1))) ((gives (number 0)) ∷ []) (stated_does (locals_of 0 past_end_main) (assignment (expression int (form.Index (expression 12 (form.Decay (local 11 0))) (number 3) Left 4)) (number 1)) (planned_assign (locals_of 0 past_end_main) int int_access (expression int (form.Index (expression 12 (form.Decay (local 11 0))) (number 3) Left 4)) (number 1) (planned_index (locals_of 0 past_end_main) int Left 4 (expression 12 (form.Decay (local 11 0))) (number 3) (planned_decay (locals_of 0 past_end_main) 12 (local 11 0) (planned_local (locals_of 0 past_end_main) 11 0)) (planned_number (locals_of 0 past_end_main) int 3)) (planned_number (locals_of 0 past_end_main) int 1)))
    (stated_more (locals_of 0 past_end_main) (gives (number 0)) [] (stated_gives (locals_of 0 past_end_main) (number 0) (planned_number (locals_of 0 past_end_main) int 0))
    (stated_none (locals_of 0 past_end_main)))))

-- a switch in a loop
pub control_codes : ControlRows
unfolding unqualified
control_codes = ap (λ (x : Todo). join x (next (Gives 0) (one Returns)) ∷ [])
    (stated_block (locals_of 0 control_main) ((does (assignment (local int 1) (number 0))) ∷ ((statement (For (Some (assignment (local int 0) (number 0))) (Some (binary operator.Less (value (local int 0)) (number 5))) (Some (expression int (form.Step (local int 0) (Plain operator.Add) false int_access))) (statement (Switch (value (local int 0)) (block ((statement (Case 1 (does (compound (local int 1) operator.Add (number 1))))) ∷ ((statement (Case 2 (does (compound (local int 1) operator.Add (number 10))))) ∷ ((statement Break) ∷ ((statement (Default (does (compound (local int 1) operator.Add (number 100))))) ∷ []))))))))) ∷ ((gives (value (local int 1))) ∷ []))) (stated_more (locals_of 0 control_main) (does (assignment (local int 1) (number 0))) ((statement (For (Some (assignment (local int 0) (number 0))) (Some (binary operator.Less (value (local int 0)) (number 5))) (Some (expression int (form.Step (local int 0) (Plain operator.Add) false int_access))) (statement (Switch (value (local int 0)) (block ((statement (Case 1 (does (compound (local int 1) operator.Add (number 1))))) ∷ ((statement (Case 2 (does (compound (local int 1) operator.Add (number 10))))) ∷ ((statement Break) ∷ ((statement (Default (does (compound (local int 1) operator.Add (number 100))))) ∷ []))))))))) ∷ ((gives (value (local int 1))) ∷ [])) (stated_does (locals_of 0 control_main) (assignment (local int 1) (number 0)) (planned_assign (locals_of 0 control_main) int int_access (local int 1) (number 0) (planned_local (locals_of 0 control_main) int 1) (planned_number (locals_of 0 control_main) int 0)))
    (stated_more (locals_of 0 control_main) (statement (For (Some (assignment (local int 0) (number 0))) (Some (binary operator.Less (value (local int 0)) (number 5))) (Some (expression int (form.Step (local int 0) (Plain operator.Add) false int_access))) (statement (Switch (value (local int 0)) (block ((statement (Case 1 (does (compound (local int 1) operator.Add (number 1))))) ∷ ((statement (Case 2 (does (compound (local int 1) operator.Add (number 10))))) ∷ ((statement Break) ∷ ((statement (Default (does (compound (local int 1) operator.Add (number 100))))) ∷ []))))))))) ((gives (value (local int 1))) ∷ []) (stated_for (locals_of 0 control_main) (assignment (local int 0) (number 0)) (binary operator.Less (value (local int 0)) (number 5)) (expression int (form.Step (local int 0) (Plain operator.Add) false int_access)) (statement (Switch (value (local int 0)) (block ((statement (Case 1 (does (compound (local int 1) operator.Add (number 1))))) ∷ ((statement (Case 2 (does (compound (local int 1) operator.Add (number 10))))) ∷ ((statement Break) ∷ ((statement (Default (does (compound (local int 1) operator.Add (number 100))))) ∷ []))))))) (planned_assign (locals_of 0 control_main) int int_access (local int 0) (number 0) (planned_local (locals_of 0 control_main) int 0) (planned_number (locals_of 0 control_main) int 0)) (planned_binary (locals_of 0 control_main) int operator.Less (value (local int 0)) (number 5) (planned_value (locals_of 0 control_main) int int_access (local int 0) (planned_local (locals_of 0 control_main) int 0)) (planned_number (locals_of 0 control_main) int 5)) (planned_step (locals_of 0 control_main) int (Plain operator.Add) false int_access (local int 0) (planned_local (locals_of 0 control_main) int 0)) (stated_switch (locals_of 0 control_main) (value (local int 0)) (block ((statement (Case 1 (does (compound (local int 1) operator.Add (number 1))))) ∷ ((statement (Case 2 (does (compound (local int 1) operator.Add (number 10))))) ∷ ((statement Break) ∷ ((statement (Default (does (compound (local int 1) operator.Add (number 100))))) ∷ []))))) (planned_value (locals_of 0 control_main) int int_access (local int 0) (planned_local (locals_of 0 control_main) int 0)) (stated_block (locals_of 0 control_main) ((statement (Case 1 (does (compound (local int 1) operator.Add (number 1))))) ∷ ((statement (Case 2 (does (compound (local int 1) operator.Add (number 10))))) ∷ ((statement Break) ∷ ((statement (Default (does (compound (local int 1) operator.Add (number 100))))) ∷ [])))) (stated_more (locals_of 0 control_main) (statement (Case 1 (does (compound (local int 1) operator.Add (number 1))))) ((statement (Case 2 (does (compound (local int 1) operator.Add (number 10))))) ∷ ((statement Break) ∷ ((statement (Default (does (compound (local int 1) operator.Add (number 100))))) ∷ []))) (stated_case (locals_of 0 control_main) 1 (does (compound (local int 1) operator.Add (number 1))) (stated_does (locals_of 0 control_main) (compound (local int 1) operator.Add (number 1)) (planned_compound (locals_of 0 control_main) int (Plain operator.Add) int_access (local int 1) (number 1) (planned_local (locals_of 0 control_main) int 1) (planned_number (locals_of 0 control_main) int 1))))
    (stated_more (locals_of 0 control_main) (statement (Case 2 (does (compound (local int 1) operator.Add (number 10))))) ((statement Break) ∷ ((statement (Default (does (compound (local int 1) operator.Add (number 100))))) ∷ [])) (stated_case (locals_of 0 control_main) 2 (does (compound (local int 1) operator.Add (number 10))) (stated_does (locals_of 0 control_main) (compound (local int 1) operator.Add (number 10)) (planned_compound (locals_of 0 control_main) int (Plain operator.Add) int_access (local int 1) (number 10) (planned_local (locals_of 0 control_main) int 1) (planned_number (locals_of 0 control_main) int 10))))
    (stated_more (locals_of 0 control_main) (statement Break) ((statement (Default (does (compound (local int 1) operator.Add (number 100))))) ∷ []) (stated_break (locals_of 0 control_main))
    (stated_more (locals_of 0 control_main) (statement (Default (does (compound (local int 1) operator.Add (number 100))))) [] (stated_default (locals_of 0 control_main) (does (compound (local int 1) operator.Add (number 100))) (stated_does (locals_of 0 control_main) (compound (local int 1) operator.Add (number 100)) (planned_compound (locals_of 0 control_main) int (Plain operator.Add) int_access (local int 1) (number 100) (planned_local (locals_of 0 control_main) int 1) (planned_number (locals_of 0 control_main) int 100))))
    (stated_none (locals_of 0 control_main)))))))))
    (stated_more (locals_of 0 control_main) (gives (value (local int 1))) [] (stated_gives (locals_of 0 control_main) (value (local int 1)) (planned_value (locals_of 0 control_main) int int_access (local int 1) (planned_local (locals_of 0 control_main) int 1)))
    (stated_none (locals_of 0 control_main))))))

-- a struct by value
pub structs_codes : StructsRows
unfolding unqualified
structs_codes = ap₂ (λ (x y : Todo). join x (next (Gives 0) (one Returns)) ∷ join y (next (Gives 0) (one Returns)) ∷ [])
    (stated_block (locals_of 1 struct_f) ((does (assignment (expression int (form.Dot (local s 0) (record { offset = 0; «record» = s }))) (binary operator.Add (value (expression int (form.Dot (local s 0) (record { offset = 0; «record» = s })))) (value (expression int (form.Dot (local s 0) (record { offset = 4; «record» = s }))))))) ∷ ((statement (ReturnRecord (local s 0) 8)) ∷ [])) (stated_more (locals_of 1 struct_f) (does (assignment (expression int (form.Dot (local s 0) (record { offset = 0; «record» = s }))) (binary operator.Add (value (expression int (form.Dot (local s 0) (record { offset = 0; «record» = s })))) (value (expression int (form.Dot (local s 0) (record { offset = 4; «record» = s }))))))) ((statement (ReturnRecord (local s 0) 8)) ∷ []) (stated_does (locals_of 1 struct_f) (assignment (expression int (form.Dot (local s 0) (record { offset = 0; «record» = s }))) (binary operator.Add (value (expression int (form.Dot (local s 0) (record { offset = 0; «record» = s })))) (value (expression int (form.Dot (local s 0) (record { offset = 4; «record» = s })))))) (planned_assign (locals_of 1 struct_f) int int_access (expression int (form.Dot (local s 0) (record { offset = 0; «record» = s }))) (binary operator.Add (value (expression int (form.Dot (local s 0) (record { offset = 0; «record» = s })))) (value (expression int (form.Dot (local s 0) (record { offset = 4; «record» = s }))))) (planned_dot (locals_of 1 struct_f) int (record { offset = 0; «record» = s }) (local s 0) (planned_local (locals_of 1 struct_f) s 0)) (planned_binary (locals_of 1 struct_f) int operator.Add (value (expression int (form.Dot (local s 0) (record { offset = 0; «record» = s })))) (value (expression int (form.Dot (local s 0) (record { offset = 4; «record» = s })))) (planned_value (locals_of 1 struct_f) int int_access (expression int (form.Dot (local s 0) (record { offset = 0; «record» = s }))) (planned_dot (locals_of 1 struct_f) int (record { offset = 0; «record» = s }) (local s 0) (planned_local (locals_of 1 struct_f) s 0))) (planned_value (locals_of 1 struct_f) int int_access (expression int (form.Dot (local s 0) (record { offset = 4; «record» = s }))) (planned_dot (locals_of 1 struct_f) int (record { offset = 4; «record» = s }) (local s 0) (planned_local (locals_of 1 struct_f) s 0))))))
    (stated_more (locals_of 1 struct_f) (statement (ReturnRecord (local s 0) 8)) [] (stated_record (locals_of 1 struct_f) 8 (local s 0) (planned_local (locals_of 1 struct_f) s 0))
    (stated_none (locals_of 1 struct_f)))))
    (stated_block (locals_of 0 struct_main) ((does (assignment (expression int (form.Dot (local s 0) (record { offset = 0; «record» = s }))) (number 2))) ∷ ((does (assignment (expression int (form.Dot (local s 0) (record { offset = 4; «record» = s }))) (number 3))) ∷ ((does (expression s (form.AssignRecord (local s 0) (expression s (form.CallRecord (expression 13 (form.Decay (expression 12 (form.Static (Named 0))))) ((local s 0) ∷ []) 0)) 8))) ∷ ((gives (binary operator.Add (binary operator.Multiply (value (expression int (form.Dot (local s 0) (record { offset = 0; «record» = s })))) (number 10)) (value (expression int (form.Dot (local s 0) (record { offset = 4; «record» = s })))))) ∷ [])))) (stated_more (locals_of 0 struct_main) (does (assignment (expression int (form.Dot (local s 0) (record { offset = 0; «record» = s }))) (number 2))) ((does (assignment (expression int (form.Dot (local s 0) (record { offset = 4; «record» = s }))) (number 3))) ∷ ((does (expression s (form.AssignRecord (local s 0) (expression s (form.CallRecord (expression 13 (form.Decay (expression 12 (form.Static (Named 0))))) ((local s 0) ∷ []) 0)) 8))) ∷ ((gives (binary operator.Add (binary operator.Multiply (value (expression int (form.Dot (local s 0) (record { offset = 0; «record» = s })))) (number 10)) (value (expression int (form.Dot (local s 0) (record { offset = 4; «record» = s })))))) ∷ []))) (stated_does (locals_of 0 struct_main) (assignment (expression int (form.Dot (local s 0) (record { offset = 0; «record» = s }))) (number 2)) (planned_assign (locals_of 0 struct_main) int int_access (expression int (form.Dot (local s 0) (record { offset = 0; «record» = s }))) (number 2) (planned_dot (locals_of 0 struct_main) int (record { offset = 0; «record» = s }) (local s 0) (planned_local (locals_of 0 struct_main) s 0)) (planned_number (locals_of 0 struct_main) int 2)))
    (stated_more (locals_of 0 struct_main) (does (assignment (expression int (form.Dot (local s 0) (record { offset = 4; «record» = s }))) (number 3))) ((does (expression s (form.AssignRecord (local s 0) (expression s (form.CallRecord (expression 13 (form.Decay (expression 12 (form.Static (Named 0))))) ((local s 0) ∷ []) 0)) 8))) ∷ ((gives (binary operator.Add (binary operator.Multiply (value (expression int (form.Dot (local s 0) (record { offset = 0; «record» = s })))) (number 10)) (value (expression int (form.Dot (local s 0) (record { offset = 4; «record» = s })))))) ∷ [])) (stated_does (locals_of 0 struct_main) (assignment (expression int (form.Dot (local s 0) (record { offset = 4; «record» = s }))) (number 3)) (planned_assign (locals_of 0 struct_main) int int_access (expression int (form.Dot (local s 0) (record { offset = 4; «record» = s }))) (number 3) (planned_dot (locals_of 0 struct_main) int (record { offset = 4; «record» = s }) (local s 0) (planned_local (locals_of 0 struct_main) s 0)) (planned_number (locals_of 0 struct_main) int 3)))
    (stated_more (locals_of 0 struct_main) (does (expression s (form.AssignRecord (local s 0) (expression s (form.CallRecord (expression 13 (form.Decay (expression 12 (form.Static (Named 0))))) ((local s 0) ∷ []) 0)) 8))) ((gives (binary operator.Add (binary operator.Multiply (value (expression int (form.Dot (local s 0) (record { offset = 0; «record» = s })))) (number 10)) (value (expression int (form.Dot (local s 0) (record { offset = 4; «record» = s })))))) ∷ []) (stated_does (locals_of 0 struct_main) (expression s (form.AssignRecord (local s 0) (expression s (form.CallRecord (expression 13 (form.Decay (expression 12 (form.Static (Named 0))))) ((local s 0) ∷ []) 0)) 8)) (planned_assign_record (locals_of 0 struct_main) s 8 (local s 0) (expression s (form.CallRecord (expression 13 (form.Decay (expression 12 (form.Static (Named 0))))) ((local s 0) ∷ []) 0)) (planned_local (locals_of 0 struct_main) s 0) (planned_call_record (locals_of 0 struct_main) s 0 (expression 13 (form.Decay (expression 12 (form.Static (Named 0))))) ((local s 0) ∷ []) (planned_decay (locals_of 0 struct_main) 13 (expression 12 (form.Static (Named 0))) (planned_static (locals_of 0 struct_main) 12 (Named 0))) (planned_more (locals_of 0 struct_main) (local s 0) [] (planned_local (locals_of 0 struct_main) s 0)
    (planned_none (locals_of 0 struct_main))))))
    (stated_more (locals_of 0 struct_main) (gives (binary operator.Add (binary operator.Multiply (value (expression int (form.Dot (local s 0) (record { offset = 0; «record» = s })))) (number 10)) (value (expression int (form.Dot (local s 0) (record { offset = 4; «record» = s })))))) [] (stated_gives (locals_of 0 struct_main) (binary operator.Add (binary operator.Multiply (value (expression int (form.Dot (local s 0) (record { offset = 0; «record» = s })))) (number 10)) (value (expression int (form.Dot (local s 0) (record { offset = 4; «record» = s }))))) (planned_binary (locals_of 0 struct_main) int operator.Add (binary operator.Multiply (value (expression int (form.Dot (local s 0) (record { offset = 0; «record» = s })))) (number 10)) (value (expression int (form.Dot (local s 0) (record { offset = 4; «record» = s })))) (planned_binary (locals_of 0 struct_main) int operator.Multiply (value (expression int (form.Dot (local s 0) (record { offset = 0; «record» = s })))) (number 10) (planned_value (locals_of 0 struct_main) int int_access (expression int (form.Dot (local s 0) (record { offset = 0; «record» = s }))) (planned_dot (locals_of 0 struct_main) int (record { offset = 0; «record» = s }) (local s 0) (planned_local (locals_of 0 struct_main) s 0))) (planned_number (locals_of 0 struct_main) int 10)) (planned_value (locals_of 0 struct_main) int int_access (expression int (form.Dot (local s 0) (record { offset = 4; «record» = s }))) (planned_dot (locals_of 0 struct_main) int (record { offset = 4; «record» = s }) (local s 0) (planned_local (locals_of 0 struct_main) s 0)))))
    (stated_none (locals_of 0 struct_main)))))))

-- a variadic function
pub variadic_codes : VariadicRows
unfolding unqualified
variadic_codes = ap₂ (λ (x y : Todo). join x (next (Gives 0) (one Returns)) ∷ join y (next (Gives 0) (one Returns)) ∷ [])
    (stated_block (locals_of 0 variadic_f) ((statement (Initialise 2 4 false (zero_piece ∷ []))) ∷ ((does (expression 13 (form.Assign (local 13 1) (expression 13 (form.Primitive primitive.Extra [])) pointer_access))) ∷ ((statement (While (expression int (form.Step (local int 0) (Plain operator.Subtract) false int_access)) (does (compound (local int 2) operator.Add (value (expression int (form.Deref (expression 14 (form.Convert (expression 13 (form.PointerMinus (expression 13 (form.Compound (local 13 1) (PointerPlus 1) (number 4) pointer_access)) (number 4) 1)) (Decide int)))))))))) ∷ ((gives (value (local int 2))) ∷ [])))) (stated_more (locals_of 0 variadic_f) (statement (Initialise 2 4 false (zero_piece ∷ []))) ((does (expression 13 (form.Assign (local 13 1) (expression 13 (form.Primitive primitive.Extra [])) pointer_access))) ∷ ((statement (While (expression int (form.Step (local int 0) (Plain operator.Subtract) false int_access)) (does (compound (local int 2) operator.Add (value (expression int (form.Deref (expression 14 (form.Convert (expression 13 (form.PointerMinus (expression 13 (form.Compound (local 13 1) (PointerPlus 1) (number 4) pointer_access)) (number 4) 1)) (Decide int)))))))))) ∷ ((gives (value (local int 2))) ∷ []))) (stated_initialise (locals_of 0 variadic_f) 2 4 false (zero_piece ∷ []) ∙ ap (λ (x : Plan). join x.todo (next (Sets 2) done)) (planned_number (locals_of 0 variadic_f) int 0))
    (stated_more (locals_of 0 variadic_f) (does (expression 13 (form.Assign (local 13 1) (expression 13 (form.Primitive primitive.Extra [])) pointer_access))) ((statement (While (expression int (form.Step (local int 0) (Plain operator.Subtract) false int_access)) (does (compound (local int 2) operator.Add (value (expression int (form.Deref (expression 14 (form.Convert (expression 13 (form.PointerMinus (expression 13 (form.Compound (local 13 1) (PointerPlus 1) (number 4) pointer_access)) (number 4) 1)) (Decide int)))))))))) ∷ ((gives (value (local int 2))) ∷ [])) (stated_does (locals_of 0 variadic_f) (expression 13 (form.Assign (local 13 1) (expression 13 (form.Primitive primitive.Extra [])) pointer_access)) (planned_assign (locals_of 0 variadic_f) 13 pointer_access (local 13 1) (expression 13 (form.Primitive primitive.Extra [])) (planned_local (locals_of 0 variadic_f) 13 1) (planned_primitive (locals_of 0 variadic_f) 13 primitive.Extra)))
    (stated_more (locals_of 0 variadic_f) (statement (While (expression int (form.Step (local int 0) (Plain operator.Subtract) false int_access)) (does (compound (local int 2) operator.Add (value (expression int (form.Deref (expression 14 (form.Convert (expression 13 (form.PointerMinus (expression 13 (form.Compound (local 13 1) (PointerPlus 1) (number 4) pointer_access)) (number 4) 1)) (Decide int)))))))))) ((gives (value (local int 2))) ∷ []) (stated_while (locals_of 0 variadic_f) (expression int (form.Step (local int 0) (Plain operator.Subtract) false int_access)) (does (compound (local int 2) operator.Add (value (expression int (form.Deref (expression 14 (form.Convert (expression 13 (form.PointerMinus (expression 13 (form.Compound (local 13 1) (PointerPlus 1) (number 4) pointer_access)) (number 4) 1)) (Decide int)))))))) (planned_step (locals_of 0 variadic_f) int (Plain operator.Subtract) false int_access (local int 0) (planned_local (locals_of 0 variadic_f) int 0)) (stated_does (locals_of 0 variadic_f) (compound (local int 2) operator.Add (value (expression int (form.Deref (expression 14 (form.Convert (expression 13 (form.PointerMinus (expression 13 (form.Compound (local 13 1) (PointerPlus 1) (number 4) pointer_access)) (number 4) 1)) (Decide int))))))) (planned_compound (locals_of 0 variadic_f) int (Plain operator.Add) int_access (local int 2) (value (expression int (form.Deref (expression 14 (form.Convert (expression 13 (form.PointerMinus (expression 13 (form.Compound (local 13 1) (PointerPlus 1) (number 4) pointer_access)) (number 4) 1)) (Decide int)))))) (planned_local (locals_of 0 variadic_f) int 2) (planned_value (locals_of 0 variadic_f) int int_access (expression int (form.Deref (expression 14 (form.Convert (expression 13 (form.PointerMinus (expression 13 (form.Compound (local 13 1) (PointerPlus 1) (number 4) pointer_access)) (number 4) 1)) (Decide int))))) (planned_deref (locals_of 0 variadic_f) int (expression 14 (form.Convert (expression 13 (form.PointerMinus (expression 13 (form.Compound (local 13 1) (PointerPlus 1) (number 4) pointer_access)) (number 4) 1)) (Decide int))) (planned_convert (locals_of 0 variadic_f) 14 (Decide int) (expression 13 (form.PointerMinus (expression 13 (form.Compound (local 13 1) (PointerPlus 1) (number 4) pointer_access)) (number 4) 1)) (planned_minus (locals_of 0 variadic_f) 13 1 (expression 13 (form.Compound (local 13 1) (PointerPlus 1) (number 4) pointer_access)) (number 4) (planned_compound (locals_of 0 variadic_f) 13 (PointerPlus 1) pointer_access (local 13 1) (number 4) (planned_local (locals_of 0 variadic_f) 13 1) (planned_number (locals_of 0 variadic_f) int 4)) (planned_number (locals_of 0 variadic_f) int 4))))))))
    (stated_more (locals_of 0 variadic_f) (gives (value (local int 2))) [] (stated_gives (locals_of 0 variadic_f) (value (local int 2)) (planned_value (locals_of 0 variadic_f) int int_access (local int 2) (planned_local (locals_of 0 variadic_f) int 2)))
    (stated_none (locals_of 0 variadic_f)))))))
    (stated_block (locals_of 0 variadic_main) ((gives (expression int (form.Call (expression 12 (form.Decay (expression 11 (form.Static (Named 0))))) ((number 4) ∷ ((number 1) ∷ ((number 2) ∷ ((number 4) ∷ []))))))) ∷ []) (stated_more (locals_of 0 variadic_main) (gives (expression int (form.Call (expression 12 (form.Decay (expression 11 (form.Static (Named 0))))) ((number 4) ∷ ((number 1) ∷ ((number 2) ∷ ((number 4) ∷ []))))))) [] (stated_gives (locals_of 0 variadic_main) (expression int (form.Call (expression 12 (form.Decay (expression 11 (form.Static (Named 0))))) ((number 4) ∷ ((number 1) ∷ ((number 2) ∷ ((number 4) ∷ [])))))) (planned_call (locals_of 0 variadic_main) int (expression 12 (form.Decay (expression 11 (form.Static (Named 0))))) ((number 4) ∷ ((number 1) ∷ ((number 2) ∷ ((number 4) ∷ [])))) (planned_decay (locals_of 0 variadic_main) 12 (expression 11 (form.Static (Named 0))) (planned_static (locals_of 0 variadic_main) 11 (Named 0))) (planned_more (locals_of 0 variadic_main) (number 4) ((number 1) ∷ ((number 2) ∷ ((number 4) ∷ []))) (planned_number (locals_of 0 variadic_main) int 4)
    (planned_more (locals_of 0 variadic_main) (number 1) ((number 2) ∷ ((number 4) ∷ [])) (planned_number (locals_of 0 variadic_main) int 1)
    (planned_more (locals_of 0 variadic_main) (number 2) ((number 4) ∷ []) (planned_number (locals_of 0 variadic_main) int 2)
    (planned_more (locals_of 0 variadic_main) (number 4) [] (planned_number (locals_of 0 variadic_main) int 4)
    (planned_none (locals_of 0 variadic_main))))))))
    (stated_none (locals_of 0 variadic_main))))
