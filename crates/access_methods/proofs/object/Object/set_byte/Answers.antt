use Rattle.std.proofs.Common.{ℕ, ◌%◌, List, set, ap, ◌∙◌, arith}
use Rattle.std.specs.Int.{w32, from_le_bytes, to_le_bytes}
use Rattle.access_methods.proofs.Writing.{byte_set}
use Rattle.access_methods.proofs.object.Object.set_byte.Goals as goal

pub returns-clause-turns : goal.returns-clause-turns
returns-clause-turns c =
    let read = c.to_le_bytes-bytes.ensures in
    let spelled = c.from_le_bytes-value.ensures in
    byte_set c.args.store.now c.set_word.new.self c.args.self.now c.total.result c.value_at.result c.args.offset c.args.byte c.from_le_bytes-value.result
    c.requires.stands c.requires.within (omega arith) c.total.ensures.count c.value_at.ensures.place
    (spelled ∙ ap (λ (bytes : List ℕ). from_le_bytes w32 (set bytes (c.args.offset % 4) c.args.byte)) (read ∙ ap (λ (v : ℕ). to_le_bytes w32 v) c.value.ensures))
    c.set_word.ensures.store
