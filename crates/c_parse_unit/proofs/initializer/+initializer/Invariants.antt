use Rattle.c_parse_unit.proofs.initializer.+initializer.Given as goal

abbrev pub decreases-initializer : goal.decreases-initializer
decreases-initializer l = l.room
