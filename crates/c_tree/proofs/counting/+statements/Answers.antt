use Rattle.std.proofs.Common.{arith}
use Rattle.c_tree.proofs.Counts.{of_compound}
use Rattle.c_tree.proofs.counting.+statements.Goals as goal

pub with_statement-returns-in-Compound : goal.with_statement-returns-in-Compound
with_statement-returns-in-Compound t c = grind (
  arith,
  of_compound c.args.s.now c.in-Compound.statements c.in-Compound.is,
  c.with_statements.ensures,
  c.saturating_add-own.ensures,
  c.as_slice.ensures,
)
