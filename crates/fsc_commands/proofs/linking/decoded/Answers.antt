use Rattle.std.proofs.Common.{ℕ, List, Err, ap, subst, ◌∙◌}
use Rattle.unit_file.specs.declared.refusal.ReadUnitNo.{ReadUnitNo}
use Rattle.unit_file.specs.Units.{IsFault, ReadsUnit}
use Rattle.fsc_ending.specs.declared.ending.Ending.TheVariants.{BadUnit}
use Rattle.fsc_commands.specs.Writing.{no_unit}
use Rattle.fsc_commands.proofs.linking.decoded.Goals as goal

pub returns-in-Ok-from_slice : goal.returns-in-Ok-from_slice
returns-in-Ok-from_slice c =
    record {
      refused =
          no_unit c.in-Err-Bad.fault c.in-Err-Bad.offset
          (ap (λ (name : List ℕ). BadUnit name c.in-Err-Bad.fault c.in-Err-Bad.offset) (c.in-Ok-from_slice.ensures ∙ c.as_slice-in-Err-Bad.ensures))
          (subst (λ (bytes : List ℕ). IsFault bytes c.in-Err-Bad.fault c.in-Err-Bad.offset) c.as_slice.ensures
          (subst (λ (no : ReadUnitNo). ReadsUnit c.as_slice.result.now (Err no)) c.in-Err-Bad.field-0-is c.in-Err-Bad.ensures));
    }
