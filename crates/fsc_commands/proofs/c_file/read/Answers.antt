use Rattle.std.proofs.Common.{Err, subst, sym}
use Rattle.plain_text.specs.Program.{Reads}
use Rattle.plain_text.specs.declared.program.ReadNo.{ReadNo}
use Rattle.fsc_commands.proofs.c_file.read.Goals as goal

pub returns-in-Err-NotPlain-clause-plain : goal.returns-in-Err-NotPlain-clause-plain
returns-in-Err-NotPlain-clause-plain g c = (
  c.in_ok-text.ensures.found,
  (rw (sym c.as_slice.ensures) (λ program plain. subst (λ (refusal : ReadNo). Reads (Err refusal) program) c.in-Err-NotPlain.field-0-is (c.in-Err-NotPlain.ensures.only program plain))),
)
