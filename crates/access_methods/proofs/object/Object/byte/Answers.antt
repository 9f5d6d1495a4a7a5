use Rattle.std.proofs.Common.{ℕ, List, get_or, ◌%◌, ap, ◌∙◌}
use Rattle.std.specs.Int.{w32, to_le_bytes}
use Rattle.access_methods.proofs.Reading.{byte_is}
use Rattle.access_methods.proofs.object.Object.byte.Goals as goal

pub returns : goal.returns
returns c = λ x lays.
    ap (λ (bytes : List ℕ). get_or bytes (c.args.offset % 4) 0) (c.to_le_bytes.ensures ∙ ap (λ (v : ℕ). to_le_bytes w32 v) c.value.ensures)
    ∙ byte_is c.args.store.now c.args.self.now x c.args.offset lays c.requires.within
