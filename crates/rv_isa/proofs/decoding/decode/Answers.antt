use Rattle.std.proofs.Common.{◌∙◌, arith}
use Rattle.rv_isa.proofs.Tables.{decoded-spells, decoded-only}
use Rattle.rv_isa.proofs.decoding.decode.Goals as goal

pub returns-clause-found : goal.returns-clause-found
returns-clause-found c = rw c.decode_any.ensures (decoded-spells c.args.code (omega arith))

pub returns-clause-only : goal.returns-clause-only
returns-clause-only c inst spelt = c.decode_any.ensures ∙ decoded-only c.args.code inst spelt
