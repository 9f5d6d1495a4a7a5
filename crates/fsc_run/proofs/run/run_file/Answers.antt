use Rattle.fsc_run.specs.Running.{image_read}
use Rattle.fsc_run.proofs.run.run_file.Goals as goal

pub returns-in-Ok-clause-ran : goal.returns-in-Ok-clause-ran
returns-in-Ok-clause-ran g c = image_read c.in-Ok.bytes c.in-Ok.ensures.found c.run_bytes.ensures.runs
