use Rattle.std.proofs.Common.{◌≡◌, ℕ, List, [], length, position, Some, sym, ap, subst, ◌∙◌}
use Rattle.std.specs.Prelude.{IsTrue}
use Rattle.std.proofs.lemmas.Option.{same_Some}
use Rattle.fsc_outside.specs.Streams.{Appends, AppendsFront}
use Rattle.fsc_outside.proofs.Appending.{appends_nothing}
use Rattle.guest_mem.specs.declared.right.Right.TheVariants.{Read}
use Rattle.guest_mem.specs.Regions.{Paged, regions_of}
use Rattle.guest_mem.specs.Guest.{part, bytes_at, covers}
use Rattle.guest_mem.proofs.Places.{bytes_at-nothing}
use Rattle.guest_mem.proofs.Ready.{serving, found, bytes_at-found, none_covered}
use Rattle.guest_mem.proofs.guest.Guest.write_to.Goals as goal

pub write_part-requires-clause-from : goal.write_part-requires-clause-from
write_part-requires-clause-from g c =
    let memory = c.self.inside.regions.items in
    let f = found memory Read c.args.at c.args.n c.in-Some.place c.index.result.now
    (ap (position (serving Read c.args.at c.args.n)) (sym c.deref.ensures.value) ∙ sym c.in-Some.ensures) c.index.ensures in
    f.within.0

pub write_part-requires-clause-to : goal.write_part-requires-clause-to
write_part-requires-clause-to g c =
    let memory = c.self.inside.regions.items in
    let f = found memory Read c.args.at c.args.n c.in-Some.place c.index.result.now
    (ap (position (serving Read c.args.at c.args.n)) (sym c.deref.ensures.value) ∙ sym c.in-Some.ensures) c.index.ensures in
    f.within.1

pub returns-in-Some-clause-whole : goal.returns-in-Some-clause-whole
returns-in-Some-clause-whole g c bytes is done =
    let memory = c.self.inside.regions.items in
    let f = found memory Read c.args.at c.args.n c.in-Some.place c.index.result.now
    (ap (position (serving Read c.args.at c.args.n)) (sym c.deref.ensures.value) ∙ sym c.in-Some.ensures) c.index.ensures in
    let read : Some (part c.index.result.now.region c.args.at c.args.n) ≡ Some bytes =
    sym (bytes_at-found memory Read c.args.at c.args.n c.in-Some.place c.index.result.now f)
    ∙ ap (λ (m : List Paged). bytes_at (regions_of m) Read c.args.at c.args.n) c.self.view_is ∙ is in
    subst (λ (l : List ℕ). Appends (g.O.Sink.written c.args.out.now) (g.O.Sink.written c.write_part.new.out) l) (same_Some (part c.index.result.now.region c.args.at c.args.n) bytes read) (c.write_part.ensures.whole done)

pub returns-in-Some-clause-front : goal.returns-in-Some-clause-front
returns-in-Some-clause-front g c bytes is =
    let memory = c.self.inside.regions.items in
    let f = found memory Read c.args.at c.args.n c.in-Some.place c.index.result.now
    (ap (position (serving Read c.args.at c.args.n)) (sym c.deref.ensures.value) ∙ sym c.in-Some.ensures) c.index.ensures in
    let read : Some (part c.index.result.now.region c.args.at c.args.n) ≡ Some bytes =
    sym (bytes_at-found memory Read c.args.at c.args.n c.in-Some.place c.index.result.now f)
    ∙ ap (λ (m : List Paged). bytes_at (regions_of m) Read c.args.at c.args.n) c.self.view_is ∙ is in
    subst (λ (l : List ℕ). AppendsFront (g.O.Sink.written c.args.out.now) (g.O.Sink.written c.write_part.new.out) l) (same_Some (part c.index.result.now.region c.args.at c.args.n) bytes read) c.write_part.ensures.front

pub returns-in-None-clause-whole : goal.returns-in-None-clause-whole
returns-in-None-clause-whole g c bytes is done =
    let memory = c.self.inside.regions.items in
    let none = none_covered memory c.args.at c.args.n Read (ap (position (serving Read c.args.at c.args.n)) (sym c.deref.ensures.value) ∙ sym c.in-None.ensures)
    (subst (λ (m : List Paged). IsTrue (covers (regions_of m) Read c.args.at c.args.n)) (sym c.self.view_is) c.requires) in
    let read : Some [] ≡ Some bytes =
    sym (bytes_at-nothing (regions_of c.args.self.now) Read c.args.at) ∙ ap (λ (k : ℕ). bytes_at (regions_of c.args.self.now) Read c.args.at k) (sym none) ∙ is in
    subst (λ (l : List ℕ). Appends (g.O.Sink.written c.args.out.now) (g.O.Sink.written c.args.out.now) l) (same_Some [] bytes read) (appends_nothing (g.O.Sink.written c.args.out.now))
