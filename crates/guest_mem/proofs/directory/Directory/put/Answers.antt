use Rattle.std.proofs.Common.{◌≡◌, ℕ, ◌+◌, ◌-◌, ◌<◌, ◌≤◌, List, ◌++◌, length, take, drop, sym, ap, subst, ◌∙◌, arith}
use Rattle.std.proofs.lemmas.List.{length-take-le}
use Rattle.std.proofs.Math.Seq.{take-add}
use Rattle.guest_mem.specs.Pages.{Writes}
use Rattle.guest_mem.proofs.Pages.{writes_then}
use Rattle.guest_mem.proofs.directory.Directory.put.Goals as goal

pub loop-done-preserved : goal.loop-done-preserved
loop-done-preserved c =
    let done = c.loop-done.done in
    let n = c.min-n.result in
    let bytes = c.args.bytes.now in
    let now = c.loop-done.self in
    let new = c.write.new.self in
    let within : done ≤ length bytes = c.loop-done.invariant.within in
    let more : done + n ≤ length bytes = omega arith in
    let long : length (take done bytes) ≡ done = length-take-le done bytes within in
    let same : done + n - done ≡ n = omega arith in
    let place : c.args.place + done ≡ c.args.place + length (take done bytes) = omega arith in
    let piece : Writes now new (c.args.place + length (take done bytes)) (take n (drop done bytes)) =
    subst (λ (k : ℕ). Writes now new k (take n (drop done bytes))) place
    (subst (λ (k : ℕ). Writes now new (c.args.place + done) (take k (drop done bytes))) same c.write.ensures) in
    record {
      within = more;
      written = subst (λ (l : List ℕ). Writes c.args.self.now new c.args.place l) (sym (take-add done n bytes))
          (writes_then c.args.self.now now new c.args.place (take done bytes) (take n (drop done bytes)) c.loop-done.invariant.written piece);
    }
