use Rattle.std.proofs.Common.{◌≡◌, ℕ, List, refl, ◌∙◌}
use Rattle.fsc_commands.specs.Writing.{IsImageFile, unheld}
use Rattle.fsc_commands.proofs.Outcomes.{as_file, keeps_all}
use Rattle.fsc_commands.proofs.building.write_image.Goals as goal

pub returns-in-Ok-clause-writes : goal.returns-in-Ok-clause-writes
returns-in-Ok-clause-writes g c =
    as_file _ c.args.name.now (λ (file : List ℕ). file ≡ c.as_slice.result.now) IsImageFile _ _ (λ file is. (c.args.image.now, c.requires, is ∙ c.as_slice.ensures ∙ c.in-Ok.ensures.exact))
    c.write_file.ensures.writes

pub returns-in-Err-clause-writes : goal.returns-in-Err-clause-writes
returns-in-Err-clause-writes g c = unheld refl (keeps_all _ _)
