use Rattle.std.proofs.Common.{◌≡◌, ◌≢◌, ℕ, ◌+◌, ◌-◌, ◌<◌, ◌≤◌, List, [], ◌++◌, length, take, drop, get_or, refl, sym, ap, subst, ◌∙◌, arith}
use Rattle.std.proofs.lemmas.List.{length-append, length-take, length-take-le, take-append-le}
use Rattle.std.proofs.lemmas.List.Elements.{All-nil, All-append}
use Rattle.guest_mem.specs.Regions.{Region}
use Rattle.guest_mem.specs.Guest.{part, with_part}
use Rattle.guest_mem.specs.Layout.{AreBytes}
use Rattle.guest_mem.proofs.Apart.{part_kept}
use Rattle.guest_mem.proofs.Filling.{takes_nothing, takes_then, takes_front, takes_no_more, takes_rest}
use Rattle.guest_mem.proofs.Ready.{has_page_same}
use Rattle.guest_mem.proofs.Streaming.{with_part-nothing, with_part-then}
use Rattle.guest_mem.proofs.region.PagedRegion.fill_part.Goals as goal

pub loop-taken-init : goal.loop-taken-init
loop-taken-init g c = record {
  within = omega arith;
  took = ([], refl, sym (with_part-nothing c.args.self.now.region c.args.at), takes_nothing _, All-nil (λ byte. byte < 256));
  made = refl;
  counted = omega arith;
  untouched = λ none. refl;
}

pub put-requires-clause-made : goal.put-requires-clause-made
put-requires-clause-made g c k lt =
    let before = c.loop-taken.invariant in
    let some = c.in-Moved.ensures.moved.1 in
    let piece = ap length (take-append-le c.in-Moved.count c.read.new.buffer (drop c.min-room.result c.loop-taken.buffer) some) ∙ length-take-le c.in-Moved.count c.read.new.buffer some in
    let inside : c.loop-taken.taken + k < c.args.n = omega (arith, length-take c.min-room.result c.loop-taken.buffer) in
    has_page_same c.args.self.now c.loop-taken.self (c.args.at + (c.loop-taken.taken + k)) (c.args.at + c.loop-taken.taken + k) before.made
    (ap (λ (r : Region). r.address) before.took.2) (omega arith) (c.requires.made (c.loop-taken.taken + k) inside)

pub loop-taken-preserved : goal.loop-taken-preserved
loop-taken-preserved g c =
    let before = c.loop-taken.invariant in
    let some = c.in-Moved.ensures.moved.1 in
    let count = c.in-Moved.count in
    let at = c.args.at in
    let region = c.args.self.now.region in
    let now = c.loop-taken.self.region in
    let front = before.took.0 in
    let long = before.took.1 in
    let from = c.requires.from in
    let to = c.requires.to in
    let piece : List ℕ = take count c.read.new.buffer in
    let same = take-append-le count c.read.new.buffer (drop c.min-room.result c.loop-taken.buffer) some in
    let size : length piece ≡ count = length-take-le count c.read.new.buffer some in
    let within : c.loop-taken.taken + count ≤ c.args.n = omega (arith, length-take c.min-room.result c.loop-taken.buffer) in
    let place : at + c.loop-taken.taken ≡ at + length front = omega arith in
    let both : length (front ++ piece) ≡ c.loop-taken.taken + count = length-append front piece ∙ (omega arith) in
    let written =
    c.put.ensures.bytes ∙ ap (λ (l : List ℕ). with_part now (at + c.loop-taken.taken) l) same
    ∙ ap (λ (r : Region). with_part r (at + c.loop-taken.taken) piece) before.took.2
    ∙ ap (λ (m : ℕ). with_part (with_part region at front) m piece) place
    ∙ with_part-then region at front piece from (omega arith) in
    let bytes : AreBytes piece = subst AreBytes same c.put.ensures.are_bytes in
    record {
      within = within;
      took = (front ++ piece, both, written, takes_then _ _ _ front piece before.took.3 c.in-Moved.ensures.taken, All-append (λ byte. byte < 256) front piece before.took.4 bytes);
      made = c.put.ensures.made ∙ before.made;
      counted = omega (arith, c.in-Moved.ensures.counted);
      untouched = λ none. absurd (omega arith);
    }

pub returns-in-End-clause-fills : goal.returns-in-End-clause-fills
returns-in-End-clause-fills g c =
    let before = c.loop-taken.invariant in
    let front = before.took.0 in
    let few : length front ≤ c.args.n = omega (arith, before.took.1) in (
      front,
      few,
      before.took.2 ∙ sym (part_kept c.args.self.now.region c.args.at c.args.n front (c.requires.from, c.requires.to) few),
      (before.took.1, takes_rest _ _ _ _ _ few before.took.3 (c.in-End.ensures.end refl) c.in-End.ensures.taken),
      before.took.4,
    )

pub returns-in-Failed-clause-fills : goal.returns-in-Failed-clause-fills
returns-in-Failed-clause-fills g c =
    let before = c.loop-taken.invariant in
    let front = before.took.0 in
    let few : length front ≤ c.args.n = omega (arith, before.took.1) in (
      front,
      few,
      before.took.2 ∙ sym (part_kept c.args.self.now.region c.args.at c.args.n front (c.requires.from, c.requires.to) few),
      (before.took.1, omega (arith, before.took.1), takes_front _ _ _ (takes_no_more _ _ _ _ before.took.3 c.in-Failed.ensures.taken)),
      before.took.4,
    )
