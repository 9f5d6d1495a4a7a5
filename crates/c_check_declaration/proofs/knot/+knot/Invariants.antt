use Rattle.c_check_declaration.proofs.knot.+knot.Given as goal

abbrev pub decreases-expr : goal.decreases-expr
decreases-expr l = l.room

abbrev pub decreases-type_name : goal.decreases-type_name
decreases-type_name l = l.room

abbrev pub decreases-specifiers : goal.decreases-specifiers
decreases-specifiers l = l.room

abbrev pub decreases-parameters : goal.decreases-parameters
decreases-parameters l = l.room
