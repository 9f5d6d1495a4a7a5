use Rattle.std.proofs.Common.{◌≡◌, ℕ, ◌+◌, ◌<◌, ◌≤◌, true, false, Result, Ok, Err, List, length, sym, ap, subst, ◌∙◌, arith}
use Rattle.std.specs.Prelude.{IsTrue, OnErr, slice_index_or}
use Rattle.guest_mem.specs.Pages.{is_made}
use Rattle.guest_mem.specs.Regions.{Paged, paged_of}
use Rattle.guest_mem.specs.Guest.{with_part}
use Rattle.guest_mem.specs.Ready.{HasPage, StaysMade}
use Rattle.guest_mem.proofs.PagedBytes.{Inside, inside_of, wider, in_table, region_keeps, region_writes, made_writes, stays_kept, page_of_has}
use Rattle.guest_mem.proofs.region.PagedRegion.store.Goals as goal

any_err : {E : Type 0} (result : Result (Unit {0}) E) (P : Type 0) → P → OnErr result P
any_err (Ok x) P p = tt
any_err (Err e) P p = p

pub make-requires : goal.make-requires
make-requires c =
    let i = c.self.inside in
    let h = inside_of i.address i.flags i.size i.pages c.args.self.now c.args.at (length c.args.bytes.now) c.self.view_is c.requires.from c.requires.to c.self.invariant in
    in_table i.address i.size i.pages c.args.at (length c.args.bytes.now) c.place_of-place.result h c.requires.some c.place_of-place.ensures

pub returns-in_err-make-clause-refused : goal.returns-in_err-make-clause-refused
returns-in_err-make-clause-refused c =
    let i = c.self.inside in
    any_err c.from_residual.result _ (region_keeps i.address i.flags i.size i.pages c.make.new.self c.make.ensures.kept ∙ ap (λ (p : Paged). p.region) c.self.view_is)

pub returns-in_err-make-clause-kept : goal.returns-in_err-make-clause-kept
returns-in_err-make-clause-kept c =
    let i = c.self.inside in
    subst (λ (p : Paged). StaysMade p (paged_of i.address i.flags i.size c.make.new.self)) c.self.view_is
    (stays_kept i.address i.flags i.size i.pages c.make.new.self c.make.ensures.kept)

pub returns-in_err-make-clause-ready : goal.returns-in_err-make-clause-ready
returns-in_err-make-clause-ready c has =
    let i = c.self.inside in
    let h = inside_of i.address i.flags i.size i.pages c.args.self.now c.args.at (length c.args.bytes.now) c.self.view_is c.requires.from c.requires.to c.self.invariant in
    let first : HasPage c.args.self.now (c.args.at + 0) = subst (HasPage c.args.self.now) (let e : c.args.at ≡ c.args.at + 0 = omega arith in e) has in
    let there = page_of_has i.address i.flags i.size i.pages c.args.at (length c.args.bytes.now) c.place_of-place.result 0 h c.place_of-place.ensures c.requires.some
    (subst (λ (p : Paged). HasPage p (c.args.at + 0)) (sym c.self.view_is) first) in
    let made : IsTrue (is_made i.pages c.place_of-place.result) = subst (λ (k : ℕ). IsTrue (is_made i.pages k)) (let e : c.place_of-place.result + 0 ≡ c.place_of-place.result = omega arith in e) there in
    absurd (let no : false ≡ true = c.in_err-make.ensures.ready made in cc)

pub returns-clause-stored : goal.returns-clause-stored
returns-clause-stored c =
    let i = c.self.inside in
    let h = inside_of i.address i.flags i.size i.pages c.args.self.now c.args.at (length c.args.bytes.now) c.self.view_is c.requires.from c.requires.to c.self.invariant in
    let mid = c.make.new.self in
    region_writes i.address i.flags i.size mid c.write.new.self c.args.at c.place_of-place.result c.args.bytes.now
    (wider i.address i.size i.pages mid c.args.at (length c.args.bytes.now) h c.make.ensures.kept.long) c.place_of-place.ensures c.write.ensures
    ∙ ap (λ r. with_part r c.args.at c.args.bytes.now) (region_keeps i.address i.flags i.size i.pages mid c.make.ensures.kept ∙ ap (λ (p : Paged). p.region) c.self.view_is)

pub returns-clause-kept : goal.returns-clause-kept
returns-clause-kept c k was =
    let i = c.self.inside in
    let mid = c.make.new.self in
    let first = subst (λ (p : Paged). StaysMade p (paged_of i.address i.flags i.size mid)) c.self.view_is
    (stays_kept i.address i.flags i.size i.pages mid c.make.ensures.kept) in
    subst (λ l. IsTrue (slice_index_or l k false)) (sym (made_writes i.address i.flags i.size mid c.write.new.self c.place_of-place.result c.args.bytes.now c.write.ensures)) (first k was)
