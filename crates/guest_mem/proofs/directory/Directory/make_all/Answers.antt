use Rattle.std.proofs.Common.{◌≡◌, ℕ, ◌+◌, ◌*◌, ◌/◌, ◌<◌, ◌≤◌, inl, inr, sym, subst, arith}
use Rattle.std.specs.Prelude.{IsTrue}
use Rattle.std.proofs.lemmas.Bool.{cases_lt}
use Rattle.guest_mem.proofs.Pages.{keeps_then, is_made-same}
use Rattle.guest_mem.proofs.directory.Directory.make_all.Goals as goal

pub loop-page-preserved : goal.loop-page-preserved
loop-page-preserved c =
    let page = c.loop-page.page in record {
      kept = keeps_then c.args.self.now c.loop-page.self c.make.new.self c.loop-page.invariant.kept c.make.ensures.kept;
      made = λ place from to.
          elim (cases_lt (place / 4096) page) [
            | inl before ↦ c.make.ensures.kept.made place (c.loop-page.invariant.made place from before)
            | inr here ↦
                let same : place / 4096 ≡ page * 4096 / 4096 = omega arith in
                subst IsTrue (sym (is_made-same c.make.new.self place (page * 4096) same)) c.in_ok-make.ensures.made
          ];
    }
