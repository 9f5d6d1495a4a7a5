-- One more block in the list.
use Rattle.std.proofs.Common.{◌≡◌, sym, subst, ℕ, suc, ◌+◌, List, Some, arith}
use Rattle.rv_run.specs.Machine.{State}
use Rattle.block_header.specs.declared.Header.{Header}
use Rattle.block_report.specs.declared.live.Live.{Live}
use Rattle.block_report.specs.Memory.{header_at}
use Rattle.block_report.specs.Listing.{Adds, Lists, one_more}

pub one_block : (s : State) (n : ℕ) (header : Header) (old new : List Live) → Lists s n old → header_at s (n + 1) ≡ Some header → Adds s (n + 1) header old new
    → Lists s (n + 1) new
one_block s n header old new lists is adds =
    let same : n + 1 ≡ suc n = omega arith in
    subst (λ (m : ℕ). Lists s m new) (sym same)
    (one_more n header old new lists (subst (λ (m : ℕ). header_at s m ≡ Some header) same is) (subst (λ (m : ℕ). Adds s m header old new) same adds))
