use Rattle.std.proofs.Common.{subst}
use Rattle.fsc_core.specs.declared.refusal.CoreNo.{CoreNo}
use Rattle.fsc_core.specs.Refusing.{RefusesFiles}
use Rattle.fsc_commands.proofs.own_image.own_refusal.Goals as goal

pub returns-in-Broken : goal.returns-in-Broken
returns-in-Broken c = λ names own why. c.own_broken.ensures own (subst (λ (no : CoreNo). RefusesFiles no names own) c.in-Broken.is why)
