use Rattle.std.proofs.Common.{◌≢◌, ℕ, ◌+◌, ◌%◌, ◌≤◌, ◌⊎◌, inl, inr, take, subst, arith}
use Rattle.c_memory.specs.Access.{with_word}
use Rattle.c_memory.specs.Blocks.{Block}
use Rattle.access_methods.specs.Forms.{layout_in}
use Rattle.access_methods.specs.Objects.{Turns}
use Rattle.access_methods.proofs.Filling.{lowest_of, whole_written, part_written}
use Rattle.access_methods.proofs.object.Object.write.Goals as goal
use Rattle.access_methods.proofs.object.Object.write.Goals.{else-n-eq4-via-then-n-eq4+else-offset-eq0, else-n-eq4-via-else-n-eq4}

pub returns-then-offset-eq0 : goal.returns-then-offset-eq0
returns-then-offset-eq0 c =
    let n : ℕ = c.byte_count-n.result in
    let room : c.args.offset + n ≤ c.args.self.now.size = omega arith in
    subst (λ (m : ℕ). Turns c.args.store.now c.set_base.new.store c.args.self.now.block (layout_in c.args.self.now.layout) (λ (x : Block). with_word x c.args.offset m c.args.what))
    c.byte_count-n.ensures
    (whole_written c.args.store.now c.set_bytes.new.store c.set_base.new.store c.args.self.now.block (layout_in c.args.self.now.layout) c.args.offset n c.args.self.now.size
    (take n c.to_le_bytes.result) c.args.what
    c.requires.stands.size room c.if-n-eq4.true c.if-offset-eq0.true (lowest_of n c.args.what.value c.to_le_bytes.result c.args.width c.to_le_bytes.ensures c.byte_count-n.ensures)
    c.set_bytes.ensures.turns c.set_base.ensures.turns)

pub returns-else-n-eq4 : goal.returns-else-n-eq4
returns-else-n-eq4 c =
    let n : ℕ = c.byte_count-n.result in
    let part : (n ≢ 4) ⊎ (c.args.offset % 4 ≢ 0) = elim c.else-n-eq4.branch [
      | else-n-eq4-via-then-n-eq4+else-offset-eq0 w ↦ inr (omega arith)
      | else-n-eq4-via-else-n-eq4 w ↦ inl (omega arith)
    ] in
    subst (λ (m : ℕ). Turns c.args.store.now c.clear_bases.new.store c.args.self.now.block (layout_in c.args.self.now.layout) (λ (x : Block). with_word x c.args.offset m c.args.what))
    c.byte_count-n.ensures
    (part_written c.args.store.now c.set_bytes.new.store c.clear_bases.new.store c.args.self.now.block (layout_in c.args.self.now.layout) c.args.offset n
    (take n c.to_le_bytes.result) c.args.what part
    (lowest_of n c.args.what.value c.to_le_bytes.result c.args.width c.to_le_bytes.ensures c.byte_count-n.ensures)
    c.set_bytes.ensures.turns c.clear_bases.ensures.turns)
