use Rattle.std.proofs.Common.{Result, ap, subst, ◌∙◌}
use Rattle.fsc_base.specs.declared.image.Image.{Image}
use Rattle.elf_image.specs.declared.fault.ReadElfNo.{ReadElfNo}
use Rattle.elf_image.specs.Reading.{Gives, image_at}
use Rattle.elf_image.proofs.ImageLaws.{is_found}
use Rattle.elf_image.proofs.RoundTrip.{image_again}
use Rattle.elf_image.proofs.reading.read_elf.Goals as goal

pub returns-clause-found : goal.returns-clause-found
returns-clause-found c = is_found c.args.bytes.now c.image.result c.image.ensures

pub returns-clause-again : goal.returns-clause-again
returns-clause-again c = λ image sound entry short written.
    subst (λ (read : Result Image ReadElfNo). Gives c.image.result read) (ap image_at written ∙ image_again image sound entry short) c.image.ensures
