use Rattle.rv_isa.proofs.Tables.{decoded-encoding, encoding-below, decoded-spells}
use Rattle.rv_isa.proofs.decoding.round_trips.Goals as goal

pub returns-clause-instruction : goal.returns-clause-instruction
returns-clause-instruction c inst valid registers =
    (encoding-below inst valid registers, decoded-encoding inst valid registers)

pub returns-clause-word : goal.returns-clause-word
returns-clause-word c code below = decoded-spells code below
