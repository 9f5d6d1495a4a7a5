use Rattle.std.proofs.Common.{arith}
use Rattle.c_tree.proofs.Counts.{of_comma, of_call, of_call_record, of_primitive}
use Rattle.c_tree.proofs.counting.+expressions.Goals as goal

pub with_expression-returns-in-Comma : goal.with_expression-returns-in-Comma
with_expression-returns-in-Comma t c = grind (
  arith,
  of_comma c.args.e.now c.in-Comma.parts c.in-Comma.is,
  c.with_expressions.ensures,
  c.saturating_add-own.ensures,
  c.as_slice.ensures,
)

pub with_expression-returns-in-Call : goal.with_expression-returns-in-Call
with_expression-returns-in-Call t c = grind (
  arith,
  of_call c.args.e.now c.in-Call.function c.in-Call.arguments c.in-Call.is,
  c.with_expressions-in-Call.ensures,
  c.with_expression-in-Call.ensures,
  c.saturating_add-own.ensures,
  c.as_slice-in-Call.ensures,
  c.get-in-Call.ensures,
)

pub with_expression-returns-in-CallRecord : goal.with_expression-returns-in-CallRecord
with_expression-returns-in-CallRecord t c = grind (
  arith,
  of_call_record c.args.e.now c.in-CallRecord.function c.in-CallRecord.arguments c.in-CallRecord.number c.in-CallRecord.is,
  c.with_expressions-in-CallRecord.ensures,
  c.with_expression-in-CallRecord.ensures,
  c.saturating_add-own.ensures,
  c.as_slice-in-CallRecord.ensures,
  c.get-in-CallRecord.ensures,
)

pub with_expression-returns-in-Primitive : goal.with_expression-returns-in-Primitive
with_expression-returns-in-Primitive t c = grind (
  arith,
  of_primitive c.args.e.now c.in-Primitive.field-0 c.in-Primitive.arguments c.in-Primitive.is,
  c.with_expressions-in-Primitive.ensures,
  c.saturating_add-own.ensures,
  c.as_slice-in-Primitive.ensures,
)
