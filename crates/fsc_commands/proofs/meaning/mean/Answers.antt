use Rattle.std.proofs.Common.{refl}
use Rattle.fsc_commands.specs.Refusing.{refused_so}
use Rattle.fsc_commands.specs.Meaning.{files_refused, meaning_followed}
use Rattle.fsc_commands.proofs.meaning.mean.Goals as goal

pub returns-in-Ok-clause-means : goal.returns-in-Ok-clause-means
returns-in-Ok-clause-means g c = meaning_followed c.follow.ensures.meant

pub returns-in-Err-clause-means : goal.returns-in-Err-clause-means
returns-in-Err-clause-means g c = files_refused (refused_so c.in-Err.no c.ending_of_refusal.ensures c.in-Err.ensures.refused) (refl, refl) refl
