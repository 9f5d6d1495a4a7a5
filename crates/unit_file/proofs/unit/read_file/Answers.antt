use Rattle.unit_file.proofs.Files.{file_checked}
use Rattle.unit_file.proofs.unit.read_file.Goals as goal

pub returns : goal.returns
returns c = file_checked c.args.file.now c.in_ok-version.version c.in_ok-parts.parts c.checked.result c.in_ok-parts.ensures c.checked.ensures
