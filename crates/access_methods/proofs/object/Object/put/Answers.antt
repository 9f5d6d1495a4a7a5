use Rattle.access_methods.specs.Forms.{layout_in}
use Rattle.access_methods.specs.Objects.{with_bytes_at, with_bases_at}
use Rattle.std.proofs.Common.{◌/◌}
use Rattle.access_methods.proofs.Turning.{turns_then}
use Rattle.access_methods.proofs.object.Object.put.Goals as goal

pub returns : goal.returns
returns c =
    turns_then c.args.store.now c.set_bytes.new.store c.set_bases.new.store c.args.self.now.block (layout_in c.args.self.now.layout)
    (with_bytes_at c.args.offset c.args.bytes.now) (with_bases_at (c.args.offset / 4) c.args.bases.now) c.set_bytes.ensures.turns c.set_bases.ensures.turns
