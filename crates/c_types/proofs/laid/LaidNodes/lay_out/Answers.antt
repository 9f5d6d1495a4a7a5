use Rattle.std.proofs.lemmas.Result.{err_from_is_err_and}
use Rattle.c_types.proofs.Collecting.{modest_parts}
use Rattle.c_types.proofs.laid.LaidNodes.lay_out.Goals as goal

pub lay_out-requires : goal.lay_out-requires
lay_out-requires c = rw c.as_slice.ensures.value (modest_parts c.args.self.now c.in_ok-parts.ensures.built c.args.fields.now _ c.in_ok-parts.ensures.found)

pub returns-in_err-parts-clause-refused : goal.returns-in_err-parts-clause-refused
returns-in_err-parts-clause-refused c =
    let p = err_from_is_err_and c.from_residual.result c.from_residual.ensures.1 in
    rw (p.1, p.2) (c.in_err-parts.ensures.refused c.args.is_union)
