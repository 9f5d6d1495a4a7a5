use Rattle.std.proofs.Common.{refl}
use Rattle.fsc_commands.specs.Writing.{written, unheld}
use Rattle.fsc_commands.proofs.Outcomes.{faulty_file}
use Rattle.fsc_commands.proofs.writing.write_file.Goals as goal

pub returns-in-Done-clause-writes : goal.returns-in-Done-clause-writes
returns-in-Done-clause-writes g c = written c.args.bytes.now refl refl (c.write.ensures.done c.in-Done.is)

pub returns-in-Failed-clause-writes : goal.returns-in-Failed-clause-writes
returns-in-Failed-clause-writes g c =
    faulty_file _ c.args.name.now _ _ _ c.faulty.ensures (c.write.ensures.failed c.in-Failed.is, c.write.ensures.blamed c.in-Failed.is) c.write.ensures.others

pub returns-in-NoMemory-clause-writes : goal.returns-in-NoMemory-clause-writes
returns-in-NoMemory-clause-writes g c = unheld refl c.write.ensures.others
