use Rattle.std.proofs.Common.{ap, ◌∙◌, ◌≡◌, List, ℕ}
use Rattle.std.specs.FinMap as map
use Rattle.std.specs.declared.alloc.Global.{Global}
use Rattle.std.specs.declared.vec.Vec.{Vec}
use Rattle.std.specs.Ordering.{nat_cmp}
use Rattle.std.specs.Cmp.Lexicographic.{slice_cmp}
use Rattle.fsc_outside.specs.Table.{named}
use Rattle.fsc_outside.proofs.Named.{from_entries-insert_entry}
use Rattle.fsc_outside.proofs.file_table.FileTable.put.Goals as goal

pub returns-clause-ok : goal.returns-clause-ok
returns-clause-ok c =
    let before = c.self.inside.entries.entries in
    let view = λ (es : List (Vec ℕ Global × List ℕ)). map.from_entries {R = slice_cmp nat_cmp} (named es) in
    let same : map.insert (view before) c.in_ok-key.key.items c.in_ok-value.value ≡ map.insert c.args.self.now c.args.name.now c.args.bytes.now =
    cc (c.self.view_is, c.in_ok-key.ensures.items, c.in_ok-value.ensures) in
    ap view c.in_ok-insert.ensures.entries ∙ from_entries-insert_entry before c.in_ok-key.key c.in_ok-value.value ∙ same
