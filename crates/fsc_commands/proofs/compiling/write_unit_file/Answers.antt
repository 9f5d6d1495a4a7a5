use Rattle.std.proofs.Common.{◌≡◌, ℕ, List, refl, ◌∙◌}
use Rattle.fsc_commands.specs.Writing.{IsUnitFile, unheld}
use Rattle.fsc_commands.proofs.Outcomes.{as_file, keeps_all}
use Rattle.fsc_commands.proofs.compiling.write_unit_file.Goals as goal

pub returns-in-Ok-clause-writes : goal.returns-in-Ok-clause-writes
returns-in-Ok-clause-writes g c =
    as_file _ c.args.name.now (λ (file : List ℕ). file ≡ c.as_slice.result.now) IsUnitFile _ _
    (λ file is. (c.args.unit.now, c.parts.ensures.faultless, is ∙ (c.as_slice.ensures ∙ c.in-Ok.ensures))) c.write_file.ensures.writes

pub returns-in-Err-clause-writes : goal.returns-in-Err-clause-writes
returns-in-Err-clause-writes g c = unheld refl (keeps_all _ _)
