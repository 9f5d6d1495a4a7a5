use Rattle.std.proofs.Common.{subst}
use Rattle.fsc_front.specs.declared.refusal.FrontNo.{FrontNo}
use Rattle.fsc_front.specs.Refusing.{RefusesFront}
use Rattle.fsc_core.proofs.library.library_refusal.Goals as goal

pub returns-in-Broken : goal.returns-in-Broken
returns-in-Broken c = λ name own why. c.broken_library.ensures own (subst (λ (no : FrontNo). RefusesFront no name own) c.in-Broken.is why)
