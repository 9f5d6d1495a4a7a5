-- The rows of the worked programs on pointers, from their trees.
use Rattle.std.proofs.Common.{[], ◌∷◌, false, Some, ap}
use Rattle.c_ops.specs.declared.operators.Operator.TheVariants as operator
use Rattle.c_tree.specs.declared.expression.CompoundOp.TheVariants.{Plain}
use Rattle.c_tree.specs.declared.expression.Conversion.TheVariants.{Keep, Decide}
use Rattle.c_tree.specs.declared.expression.Side.TheVariants.{Left}
use Rattle.c_types.specs.Nodes.{unqualified}
use Rattle.c_tree.specs.Rows.{Todo, next, one, join, Gives, Returns}
use Rattle.c_tree.specs.Programs.{locals_of}
use Rattle.c_tree.specs.declared.expression.Form.TheVariants as form
use Rattle.c_tree.specs.declared.statement.TStatement.TheOpen.TStatement-F.{For}
use Rattle.c_tree.specs.Samples.{int, int_access, pointer_access, expression, number, local, value, assignment, binary, statement, does, gives}
use Rattle.c_tree.proofs.Planned.{planned_number, planned_local, planned_decay, planned_deref, planned_value, planned_convert, planned_step, planned_index, planned_add, planned_address, planned_binary, planned_assign, stated_none, stated_more, stated_block, stated_does, stated_gives, stated_for}
use Rattle.c_tree.specs.WorkedPointers.{char_access, numbers_main, NumbersRows, bytes_main, BytesRows}

-- a pointer that is a number
pub numbers_codes : NumbersRows
unfolding unqualified
numbers_codes = ap (λ (x : Todo). join x (next (Gives 0) (one Returns)) ∷ [])
    (stated_block (locals_of 0 numbers_main) ((does (assignment (expression int (form.Index (expression 12 (form.Decay (local 11 0))) (number 2) Left 4)) (number 5))) ∷ ((does (expression 8 (form.Assign (local 8 1) (expression 8 (form.Convert (expression 12 (form.PointerAdd (expression 12 (form.Decay (local 11 0))) (number 1) Left 4)) Keep)) int_access))) ∷ ((does (expression 12 (form.Assign (local 12 2) (expression 12 (form.Convert (expression 8 (form.Binary operator.Add (expression 8 (form.Value (local 8 1) int_access)) (expression 8 (form.Convert (number 4) Keep)))) (Decide int))) pointer_access))) ∷ ((gives (value (expression int (form.Deref (expression 12 (form.Value (local 12 2) pointer_access)))))) ∷ [])))) (stated_more (locals_of 0 numbers_main) (does (assignment (expression int (form.Index (expression 12 (form.Decay (local 11 0))) (number 2) Left 4)) (number 5))) ((does (expression 8 (form.Assign (local 8 1) (expression 8 (form.Convert (expression 12 (form.PointerAdd (expression 12 (form.Decay (local 11 0))) (number 1) Left 4)) Keep)) int_access))) ∷ ((does (expression 12 (form.Assign (local 12 2) (expression 12 (form.Convert (expression 8 (form.Binary operator.Add (expression 8 (form.Value (local 8 1) int_access)) (expression 8 (form.Convert (number 4) Keep)))) (Decide int))) pointer_access))) ∷ ((gives (value (expression int (form.Deref (expression 12 (form.Value (local 12 2) pointer_access)))))) ∷ []))) (stated_does (locals_of 0 numbers_main) (assignment (expression int (form.Index (expression 12 (form.Decay (local 11 0))) (number 2) Left 4)) (number 5)) (planned_assign (locals_of 0 numbers_main) int int_access (expression int (form.Index (expression 12 (form.Decay (local 11 0))) (number 2) Left 4)) (number 5) (planned_index (locals_of 0 numbers_main) int Left 4 (expression 12 (form.Decay (local 11 0))) (number 2) (planned_decay (locals_of 0 numbers_main) 12 (local 11 0) (planned_local (locals_of 0 numbers_main) 11 0)) (planned_number (locals_of 0 numbers_main) int 2)) (planned_number (locals_of 0 numbers_main) int 5)))
    (stated_more (locals_of 0 numbers_main) (does (expression 8 (form.Assign (local 8 1) (expression 8 (form.Convert (expression 12 (form.PointerAdd (expression 12 (form.Decay (local 11 0))) (number 1) Left 4)) Keep)) int_access))) ((does (expression 12 (form.Assign (local 12 2) (expression 12 (form.Convert (expression 8 (form.Binary operator.Add (expression 8 (form.Value (local 8 1) int_access)) (expression 8 (form.Convert (number 4) Keep)))) (Decide int))) pointer_access))) ∷ ((gives (value (expression int (form.Deref (expression 12 (form.Value (local 12 2) pointer_access)))))) ∷ [])) (stated_does (locals_of 0 numbers_main) (expression 8 (form.Assign (local 8 1) (expression 8 (form.Convert (expression 12 (form.PointerAdd (expression 12 (form.Decay (local 11 0))) (number 1) Left 4)) Keep)) int_access)) (planned_assign (locals_of 0 numbers_main) 8 int_access (local 8 1) (expression 8 (form.Convert (expression 12 (form.PointerAdd (expression 12 (form.Decay (local 11 0))) (number 1) Left 4)) Keep)) (planned_local (locals_of 0 numbers_main) 8 1) (planned_convert (locals_of 0 numbers_main) 8 Keep (expression 12 (form.PointerAdd (expression 12 (form.Decay (local 11 0))) (number 1) Left 4)) (planned_add (locals_of 0 numbers_main) 12 Left 4 (expression 12 (form.Decay (local 11 0))) (number 1) (planned_decay (locals_of 0 numbers_main) 12 (local 11 0) (planned_local (locals_of 0 numbers_main) 11 0)) (planned_number (locals_of 0 numbers_main) int 1)))))
    (stated_more (locals_of 0 numbers_main) (does (expression 12 (form.Assign (local 12 2) (expression 12 (form.Convert (expression 8 (form.Binary operator.Add (expression 8 (form.Value (local 8 1) int_access)) (expression 8 (form.Convert (number 4) Keep)))) (Decide int))) pointer_access))) ((gives (value (expression int (form.Deref (expression 12 (form.Value (local 12 2) pointer_access)))))) ∷ []) (stated_does (locals_of 0 numbers_main) (expression 12 (form.Assign (local 12 2) (expression 12 (form.Convert (expression 8 (form.Binary operator.Add (expression 8 (form.Value (local 8 1) int_access)) (expression 8 (form.Convert (number 4) Keep)))) (Decide int))) pointer_access)) (planned_assign (locals_of 0 numbers_main) 12 pointer_access (local 12 2) (expression 12 (form.Convert (expression 8 (form.Binary operator.Add (expression 8 (form.Value (local 8 1) int_access)) (expression 8 (form.Convert (number 4) Keep)))) (Decide int))) (planned_local (locals_of 0 numbers_main) 12 2) (planned_convert (locals_of 0 numbers_main) 12 (Decide int) (expression 8 (form.Binary operator.Add (expression 8 (form.Value (local 8 1) int_access)) (expression 8 (form.Convert (number 4) Keep)))) (planned_binary (locals_of 0 numbers_main) 8 operator.Add (expression 8 (form.Value (local 8 1) int_access)) (expression 8 (form.Convert (number 4) Keep)) (planned_value (locals_of 0 numbers_main) 8 int_access (local 8 1) (planned_local (locals_of 0 numbers_main) 8 1)) (planned_convert (locals_of 0 numbers_main) 8 Keep (number 4) (planned_number (locals_of 0 numbers_main) int 4))))))
    (stated_more (locals_of 0 numbers_main) (gives (value (expression int (form.Deref (expression 12 (form.Value (local 12 2) pointer_access)))))) [] (stated_gives (locals_of 0 numbers_main) (value (expression int (form.Deref (expression 12 (form.Value (local 12 2) pointer_access))))) (planned_value (locals_of 0 numbers_main) int int_access (expression int (form.Deref (expression 12 (form.Value (local 12 2) pointer_access)))) (planned_deref (locals_of 0 numbers_main) int (expression 12 (form.Value (local 12 2) pointer_access)) (planned_value (locals_of 0 numbers_main) 12 pointer_access (local 12 2) (planned_local (locals_of 0 numbers_main) 12 2)))))
    (stated_none (locals_of 0 numbers_main)))))))

-- the bytes of a pointer
pub bytes_codes : BytesRows
unfolding unqualified
bytes_codes = ap (λ (x : Todo). join x (next (Gives 0) (one Returns)) ∷ [])
    (stated_block (locals_of 0 bytes_main) ((does (expression 11 (form.Assign (local 11 1) (expression 11 (form.AddressOf (local int 0))) pointer_access))) ∷ ((statement (For (Some (assignment (local int 3) (number 0))) (Some (binary operator.Less (value (local int 3)) (number 4))) (Some (expression int (form.Step (local int 3) (Plain operator.Add) false int_access))) (does (expression 1 (form.Assign (expression 1 (form.Index (expression 13 (form.Convert (expression 12 (form.AddressOf (local 11 2))) (Decide 1))) (value (local int 3)) Left 1)) (expression 1 (form.Value (expression 1 (form.Index (expression 13 (form.Convert (expression 12 (form.AddressOf (local 11 1))) (Decide 1))) (value (local int 3)) Left 1)) char_access)) char_access))))) ∷ ((gives (value (expression int (form.Deref (expression 11 (form.Value (local 11 2) pointer_access)))))) ∷ []))) (stated_more (locals_of 0 bytes_main) (does (expression 11 (form.Assign (local 11 1) (expression 11 (form.AddressOf (local int 0))) pointer_access))) ((statement (For (Some (assignment (local int 3) (number 0))) (Some (binary operator.Less (value (local int 3)) (number 4))) (Some (expression int (form.Step (local int 3) (Plain operator.Add) false int_access))) (does (expression 1 (form.Assign (expression 1 (form.Index (expression 13 (form.Convert (expression 12 (form.AddressOf (local 11 2))) (Decide 1))) (value (local int 3)) Left 1)) (expression 1 (form.Value (expression 1 (form.Index (expression 13 (form.Convert (expression 12 (form.AddressOf (local 11 1))) (Decide 1))) (value (local int 3)) Left 1)) char_access)) char_access))))) ∷ ((gives (value (expression int (form.Deref (expression 11 (form.Value (local 11 2) pointer_access)))))) ∷ [])) (stated_does (locals_of 0 bytes_main) (expression 11 (form.Assign (local 11 1) (expression 11 (form.AddressOf (local int 0))) pointer_access)) (planned_assign (locals_of 0 bytes_main) 11 pointer_access (local 11 1) (expression 11 (form.AddressOf (local int 0))) (planned_local (locals_of 0 bytes_main) 11 1) (planned_address (locals_of 0 bytes_main) 11 (local int 0) (planned_local (locals_of 0 bytes_main) int 0))))
    (stated_more (locals_of 0 bytes_main) (statement (For (Some (assignment (local int 3) (number 0))) (Some (binary operator.Less (value (local int 3)) (number 4))) (Some (expression int (form.Step (local int 3) (Plain operator.Add) false int_access))) (does (expression 1 (form.Assign (expression 1 (form.Index (expression 13 (form.Convert (expression 12 (form.AddressOf (local 11 2))) (Decide 1))) (value (local int 3)) Left 1)) (expression 1 (form.Value (expression 1 (form.Index (expression 13 (form.Convert (expression 12 (form.AddressOf (local 11 1))) (Decide 1))) (value (local int 3)) Left 1)) char_access)) char_access))))) ((gives (value (expression int (form.Deref (expression 11 (form.Value (local 11 2) pointer_access)))))) ∷ []) (stated_for (locals_of 0 bytes_main) (assignment (local int 3) (number 0)) (binary operator.Less (value (local int 3)) (number 4)) (expression int (form.Step (local int 3) (Plain operator.Add) false int_access)) (does (expression 1 (form.Assign (expression 1 (form.Index (expression 13 (form.Convert (expression 12 (form.AddressOf (local 11 2))) (Decide 1))) (value (local int 3)) Left 1)) (expression 1 (form.Value (expression 1 (form.Index (expression 13 (form.Convert (expression 12 (form.AddressOf (local 11 1))) (Decide 1))) (value (local int 3)) Left 1)) char_access)) char_access))) (planned_assign (locals_of 0 bytes_main) int int_access (local int 3) (number 0) (planned_local (locals_of 0 bytes_main) int 3) (planned_number (locals_of 0 bytes_main) int 0)) (planned_binary (locals_of 0 bytes_main) int operator.Less (value (local int 3)) (number 4) (planned_value (locals_of 0 bytes_main) int int_access (local int 3) (planned_local (locals_of 0 bytes_main) int 3)) (planned_number (locals_of 0 bytes_main) int 4)) (planned_step (locals_of 0 bytes_main) int (Plain operator.Add) false int_access (local int 3) (planned_local (locals_of 0 bytes_main) int 3)) (stated_does (locals_of 0 bytes_main) (expression 1 (form.Assign (expression 1 (form.Index (expression 13 (form.Convert (expression 12 (form.AddressOf (local 11 2))) (Decide 1))) (value (local int 3)) Left 1)) (expression 1 (form.Value (expression 1 (form.Index (expression 13 (form.Convert (expression 12 (form.AddressOf (local 11 1))) (Decide 1))) (value (local int 3)) Left 1)) char_access)) char_access)) (planned_assign (locals_of 0 bytes_main) 1 char_access (expression 1 (form.Index (expression 13 (form.Convert (expression 12 (form.AddressOf (local 11 2))) (Decide 1))) (value (local int 3)) Left 1)) (expression 1 (form.Value (expression 1 (form.Index (expression 13 (form.Convert (expression 12 (form.AddressOf (local 11 1))) (Decide 1))) (value (local int 3)) Left 1)) char_access)) (planned_index (locals_of 0 bytes_main) 1 Left 1 (expression 13 (form.Convert (expression 12 (form.AddressOf (local 11 2))) (Decide 1))) (value (local int 3)) (planned_convert (locals_of 0 bytes_main) 13 (Decide 1) (expression 12 (form.AddressOf (local 11 2))) (planned_address (locals_of 0 bytes_main) 12 (local 11 2) (planned_local (locals_of 0 bytes_main) 11 2))) (planned_value (locals_of 0 bytes_main) int int_access (local int 3) (planned_local (locals_of 0 bytes_main) int 3))) (planned_value (locals_of 0 bytes_main) 1 char_access (expression 1 (form.Index (expression 13 (form.Convert (expression 12 (form.AddressOf (local 11 1))) (Decide 1))) (value (local int 3)) Left 1)) (planned_index (locals_of 0 bytes_main) 1 Left 1 (expression 13 (form.Convert (expression 12 (form.AddressOf (local 11 1))) (Decide 1))) (value (local int 3)) (planned_convert (locals_of 0 bytes_main) 13 (Decide 1) (expression 12 (form.AddressOf (local 11 1))) (planned_address (locals_of 0 bytes_main) 12 (local 11 1) (planned_local (locals_of 0 bytes_main) 11 1))) (planned_value (locals_of 0 bytes_main) int int_access (local int 3) (planned_local (locals_of 0 bytes_main) int 3)))))))
    (stated_more (locals_of 0 bytes_main) (gives (value (expression int (form.Deref (expression 11 (form.Value (local 11 2) pointer_access)))))) [] (stated_gives (locals_of 0 bytes_main) (value (expression int (form.Deref (expression 11 (form.Value (local 11 2) pointer_access))))) (planned_value (locals_of 0 bytes_main) int int_access (expression int (form.Deref (expression 11 (form.Value (local 11 2) pointer_access)))) (planned_deref (locals_of 0 bytes_main) int (expression 11 (form.Value (local 11 2) pointer_access)) (planned_value (locals_of 0 bytes_main) 11 pointer_access (local 11 2) (planned_local (locals_of 0 bytes_main) 11 2)))))
    (stated_none (locals_of 0 bytes_main))))))
