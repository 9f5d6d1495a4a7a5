use Rattle.std.proofs.Common.{◌≡◌, ℕ, ◌+◌, ◌-◌, ◌<◌, ◌≤◌, true, false, [], length, get_or, sym, ap, subst, ◌∙◌, arith}
use Rattle.guest_mem.specs.Regions.{Paged}
use Rattle.guest_mem.specs.Guest.{contains}
use Rattle.guest_mem.proofs.Ready.{found_alone, not_found}
use Rattle.guest_mem.proofs.guest.find.Goals as goal

pub returns-then-contains : goal.returns-then-contains
returns-then-contains c =
    let paged = c.index-regions-index.result in
    let index = c.loop-index.index - 1 in
    let inside : index < length c.args.regions.now = omega (arith, c.loop-index.invariant.within) in
    let has : contains paged.region c.args.right c.args.at c.args.n ≡ true = sym c.contains.ensures ∙ c.if-contains.true in
    sym (found_alone c.args.regions.now c.args.right c.args.at c.args.n index paged c.requires.apart c.requires.some inside
    (subst (λ (p : Paged). contains p.region c.args.right c.args.at c.args.n ≡ true) c.index-regions-index.is has))

pub returns : goal.returns
returns c =
    let nowhere : Paged = record { region = record { address = 0; flags = 0; bytes = [] }; made = [] } in
    let done : c.loop-index.index ≡ 0 = omega arith in
    sym (not_found c.args.regions.now c.args.right c.args.at c.args.n nowhere
    (λ (k : ℕ) (lt : k < length c.args.regions.now). c.loop-index.invariant.none k nowhere (omega arith) lt))
