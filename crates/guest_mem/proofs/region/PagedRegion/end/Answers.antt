use Rattle.std.proofs.Common.{ℕ, ◌+◌, ◌%◌, length, sym, ap, ◌∙◌, arith}
use Rattle.guest_mem.specs.Regions.{Paged}
use Rattle.guest_mem.proofs.PagedBytes.{length-bytes_from}
use Rattle.guest_mem.proofs.region.PagedRegion.end.Goals as goal

pub returns-clause-end : goal.returns-clause-end
returns-clause-end c =
    let i = c.self.inside in
    let same = ap (λ (p : Paged). p.region.address + length p.region.bytes) c.self.view_is in
    omega (arith, length-bytes_from i.pages (i.address % 4096) i.size, same)
