use Rattle.std.proofs.Common.{◌≡◌, ℕ, ◌+◌, ◌-◌, ◌<◌, ◌≤◌, Option, List, ◌++◌, length, refl, sym, ap, subst, ◌∙◌, arith}
use Rattle.fsc_outside.specs.Streams.{Appends, AppendsFront}
use Rattle.fsc_outside.proofs.Appending.{appends_then, appends_front_then, appends_front_longer}
use Rattle.guest_mem.specs.Regions.{Region}
use Rattle.guest_mem.specs.Guest.{part}
use Rattle.guest_mem.proofs.Streaming.{part-then}
use Rattle.guest_mem.proofs.region.PagedRegion.write_part.Goals as goal

more : (region : Region) (at done : ℕ) (piece : List ℕ) → region.address ≤ at → piece ≡ part region (at + done) (length piece)
    → part region at done ++ piece ≡ part region at (done + length piece)
more region at done piece from is = ap (λ (l : List ℕ). part region at done ++ l) is ∙ part-then region at done (length piece) from

whole : (region : Region) (at m n : ℕ) → region.address ≤ at → m ≤ n → part region at m ++ part region (at + m) (n - m) ≡ part region at n
whole region at m n from le = part-then region at m (n - m) from ∙ ap (λ (k : ℕ). part region at k) (let e : m + (n - m) ≡ n = omega arith in e)

-- a front of a piece behind what was written is a front of all
cut : (region : Region) (at done n : ℕ) (piece : List ℕ) (old now new : Option (List ℕ)) → region.address ≤ at → piece ≡ part region (at + done) (length piece)
    → done + length piece ≤ n → Appends old now (part region at done) → AppendsFront now new piece → AppendsFront old new (part region at n)
cut region at done n piece old now new from is few wrote front =
    let m : ℕ = done + length piece in
    subst (λ (l : List ℕ). AppendsFront old new l) (whole region at m n from few)
    (appends_front_longer old new (part region at m) (part region (at + m) (n - m))
    (subst (λ (l : List ℕ). AppendsFront old new l) (more region at done piece from is) (appends_front_then old now new (part region at done) piece wrote front)))

pub loop-done-preserved : goal.loop-done-preserved
loop-done-preserved g c = record {
  within = omega (arith, c.front-piece.ensures.most);
  wrote = subst (λ (l : List ℕ). Appends (g.O.Sink.written c.args.out.now) (g.O.Sink.written c.write_whole.new.out) l) (more c.args.self.now.region c.args.at c.loop-done.done c.front-piece.result.now c.requires.from c.front-piece.ensures.bytes)
      (appends_then (g.O.Sink.written c.args.out.now) (g.O.Sink.written c.loop-done.out) (g.O.Sink.written c.write_whole.new.out) (part c.args.self.now.region c.args.at c.loop-done.done) c.front-piece.result.now c.loop-done.invariant.wrote (c.in-Whole.ensures.whole refl));
  counted = omega (arith, c.write_whole.ensures.counted, c.loop-done.invariant.counted);
}

pub returns-in-Failed-clause-front : goal.returns-in-Failed-clause-front
returns-in-Failed-clause-front g c =
    cut c.args.self.now.region c.args.at c.loop-done.done c.args.n c.front-piece.result.now _ _ _ c.requires.from c.front-piece.ensures.bytes
    (omega (arith, c.front-piece.ensures.most)) c.loop-done.invariant.wrote c.write_whole.ensures.front

pub returns-in-NoMemory-clause-front : goal.returns-in-NoMemory-clause-front
returns-in-NoMemory-clause-front g c =
    cut c.args.self.now.region c.args.at c.loop-done.done c.args.n c.front-piece.result.now _ _ _ c.requires.from c.front-piece.ensures.bytes
    (omega (arith, c.front-piece.ensures.most)) c.loop-done.invariant.wrote c.write_whole.ensures.front
