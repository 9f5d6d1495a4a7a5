use Rattle.std.proofs.Common.{◌≡◌, ℕ, ◌+◌, ◌<◌, get_or, set, Result, Ok, Err, List, sym, ap, ◌∙◌}
use Rattle.std.specs.Prelude.{IfOk}
use Rattle.std.proofs.lemmas.Result.{IfOk-weaker}
use Rattle.guest_mem.specs.declared.right.Right.TheVariants.{Write}
use Rattle.guest_mem.specs.Ready.{HasPage, IsReady}
use Rattle.guest_mem.proofs.Ready.{found_at, none_covered, nothing_ready, regions_of-same, ready_found}
use Rattle.guest_mem.proofs.guest.make_in.Goals as goal

pub returns-in_default-clause-ready : goal.returns-in_default-clause-ready
returns-in_default-clause-ready c =
    nothing_ready c.args.regions.now c.args.at c.args.n (none_covered c.args.regions.now c.args.at c.args.n Write (sym c.in_default.ensures) c.requires.covered)

pub make-requires-clause-from : goal.make-requires-clause-from
make-requires-clause-from c = (found_at c.args.regions.now Write c.args.at c.args.n c.in-Some.place c.index-regions-place.result (sym c.in-Some.ensures)).within.0

pub make-requires-clause-to : goal.make-requires-clause-to
make-requires-clause-to c = (found_at c.args.regions.now Write c.args.at c.args.n c.in-Some.place c.index-regions-place.result (sym c.in-Some.ensures)).within.1

pub returns-clause-same : goal.returns-clause-same
returns-clause-same c =
    let f = found_at c.args.regions.now Write c.args.at c.args.n c.in-Some.place c.index-regions-place.result (sym c.in-Some.ensures) in
    regions_of-same c.args.regions.now c.in-Some.place (get_or c.args.regions.now c.in-Some.place c.index-regions-place.result) c.make.new.self f.read c.make.ensures.same

pub returns-clause-ready : goal.returns-clause-ready
returns-clause-ready c =
    let f = found_at c.args.regions.now Write c.args.at c.args.n c.in-Some.place c.index-regions-place.result (sym c.in-Some.ensures) in
    let regions = c.args.regions.now in
    let place = c.in-Some.place in
    let new = c.make.new.self in
    IfOk-weaker c.make.result (λ _. (k : ℕ) → k < c.args.n → HasPage new (c.args.at + k)) (λ _. IsReady (set regions place new) c.args.at c.args.n)
    (λ _ pages. ready_found regions c.args.at c.args.n place (get_or c.args.regions.now c.in-Some.place c.index-regions-place.result) new c.requires.apart f pages) c.make.ensures.made
