-- What copies in a heap come to.
use Rattle.std.proofs.Common.{◌≡◌, ◌≢◌, ℕ, ◌+◌, ◌-◌, ◌/◌, ◌≤◌, ◌⊎◌, inl, inr, true, false, List, ◌++◌, length, take, drop, Some, None, Ok, Err, Result, refl, sym, ap, ◌∙◌, subst, arith}
use Rattle.std.proofs.lemmas.Bool.{eq-eqb, ne_eqb}
use Rattle.std.proofs.lemmas.List.{drop-replicate, take-replicate, replicate-append-replicate, length-replicate}
use Rattle.fsc_base.specs.declared.word.Word.{Word}
use Rattle.fsc_base.specs.declared.word.WordKind.{WordKind}
use Rattle.c_memory.specs.declared.access.Outside.{Outside}
use Rattle.c_memory.specs.declared.access.CopyNo.{CopyNo}
use Rattle.c_memory.specs.declared.access.CopyNo.TheVariants as no
use Rattle.c_memory.specs.Access.{distance, within, refused, touched}
use Rattle.c_memory.specs.Blocks.{Block, Heap, with_block, words_of}
use Rattle.c_memory.specs.Bytes.{overwritten}
use Rattle.c_memory.specs.Copying.{copied_bases, with_copy, copy_of}
use Rattle.cell_store.specs.Layouts.{Layouts}
use Rattle.cell_store.specs.StandsFor.{Memory, IsUndecided, Keeps}
use Rattle.cell_store.specs.Store.{Store, memory_of, header_in, Holds}
use Rattle.access_methods.specs.declared.form.Chosen.{Chosen}
use Rattle.access_methods.specs.declared.form.Form.TheVariants as form
use Rattle.access_methods.specs.declared.locate.Spot.{Spot}
use Rattle.access_methods.specs.declared.taken.Taken.{Taken}
use Rattle.access_methods.specs.Shaped.{layouts_of}
use Rattle.access_methods.specs.Forms.{layout_in, IsFormOf}
use Rattle.access_methods.specs.Spots.{IsSpot, IsNowhere, IsBeyond}
use Rattle.access_methods.specs.Objects.{Turns, with_both, with_content}
use Rattle.access_methods.specs.Accesses.{IsCopyable, Copies}
use Rattle.access_methods.specs.Copied.{AreTaken, AreZeros, KeepsAt}
use Rattle.access_methods.proofs.HeapBlocks.{with_block_here}
use Rattle.access_methods.proofs.Located.{IsThere, there, not_there}
use Rattle.access_methods.proofs.Accessing.{zeros, part_of_zeros, sealed_keeps, undecided_keeps, keeps_at, filled_at, holds_at, turned_at, not_undecided}
use Rattle.access_methods.proofs.Taking.{zero_bases}

-- ---- what the definition gives

nothing_copied : (heap : Heap) (to from : Word) (n : ℕ) → n ≡ 0 → copy_of heap to from n ≡ Ok heap
unfolding copy_of
nothing_copied heap to from n none = rw (eq-eqb n 0 none) refl

no_source : (heap : Heap) (to from : Word) (n : ℕ) → n ≢ 0 → within heap from n ≡ None → copy_of heap to from n ≡ Err (no.Outside (refused heap from n))
unfolding copy_of
no_source heap to from n some none = rw (ne_eqb n 0 some, none) refl

no_target : (heap : Heap) (to from : Word) (n : ℕ) (s : Block) → n ≢ 0 → within heap from n ≡ Some s → within heap to n ≡ None
    → copy_of heap to from n ≡ Err (no.Outside (refused heap to n))
unfolding copy_of
no_target heap to from n s some source none = rw (ne_eqb n 0 some, source, none) refl

copied : (heap : Heap) (to from : Word) (n : ℕ) (s t : Block) → n ≢ 0 → within heap from n ≡ Some s → within heap to n ≡ Some t → t.is_sealed ≡ false
    → copy_of heap to from n ≡ Ok (with_block heap to.block (with_copy t s (distance to.value t.base) (distance from.value s.base) n))
unfolding copy_of
copied heap to from n s t some source target unsealed = rw (ne_eqb n 0 some, source, target, unsealed) refl

copied_not : (heap : Heap) (to from : Word) (n : ℕ) (s t : Block) → n ≢ 0 → within heap from n ≡ Some s → within heap to n ≡ Some t → t.is_sealed ≡ true
    → copy_of heap to from n ≡ Err (no.ReadOnly (refused heap to n))
unfolding copy_of
copied_not heap to from n s t some source target is_sealed = rw (ne_eqb n 0 some, source, target, is_sealed) refl

-- ---- what the code does

pub copy_nothing : (store : Store) (heap : Heap) (layouts : Layouts) (to from : Word) (n : ℕ) → n ≡ 0 → Holds store heap layouts
    → Copies (copy_of heap to from n) layouts store (Ok tt)
copy_nothing store heap layouts to from n none holds =
    subst (λ (said : Result Heap CopyNo). Copies said layouts store (Ok tt)) (sym (nothing_copied heap to from n none)) holds

pub copy_no_source : (store new : Store) (heap : Heap) (layouts : Layouts) (to from : Word) (n : ℕ) (refusal : Outside) → n ≢ 0
    → IsNowhere store from n refusal ⊎ IsBeyond store from n refusal → Holds store heap layouts → Copies (copy_of heap to from n) layouts new (Err (no.Outside refusal))
copy_no_source store new heap layouts to from n refusal some fails holds =
    let none = not_there store heap layouts from n refusal holds fails in
    subst (λ (said : Result Heap CopyNo). Copies said layouts new (Err (no.Outside refusal))) (sym (no_source heap to from n some none.0))
    (ap (λ (e : Outside). no.Outside e) none.1)

pub copy_no_target : (store new : Store) (heap : Heap) (layouts : Layouts) (to from : Word) (n : ℕ) (source : Spot) (refusal : Outside) → n ≢ 0
    → IsSpot store from n source → IsNowhere store to n refusal ⊎ IsBeyond store to n refusal → Holds store heap layouts
    → Copies (copy_of heap to from n) layouts new (Err (no.Outside refusal))
copy_no_target store new heap layouts to from n source refusal some is fails holds =
    let s = there store heap layouts from n source holds is in
    let none = not_there store heap layouts to n refusal holds fails in
    subst (λ (said : Result Heap CopyNo). Copies said layouts new (Err (no.Outside refusal))) (sym (no_target heap to from n s.block some s.around none.0))
    (ap (λ (e : Outside). no.Outside e) none.1)

pub copy_sealed : (store new : Store) (heap : Heap) (shapes : List (ℕ × List WordKind)) (to from : Word) (n : ℕ) (source target : Spot) (chosen : Chosen) → n ≢ 0
    → IsSpot store from n source → IsSpot store to n target → IsFormOf (layouts_of shapes) target.desc (form.Sealed chosen) → Holds store heap (layouts_of shapes)
    → Copies (copy_of heap to from n) (layouts_of shapes) new (Err (no.ReadOnly (record { block = target.block; offset = target.offset; width = n })))
copy_sealed store new heap shapes to from n source target chosen some is_source is form holds =
    let refusal : CopyNo = no.ReadOnly (record { block = target.block; offset = target.offset; width = n }) in
    let s = there store heap (layouts_of shapes) from n source holds is_source in
    let t = there store heap (layouts_of shapes) to n target holds is in
    let kept = keeps_at store heap (layouts_of shapes) to n target holds is t in
    let shut = sealed_keeps (memory_of store.words) (layouts_of shapes) target.desc (header_in store target.block).cell t.block chosen form kept in
    subst (λ (said : Result Heap CopyNo). Copies said (layouts_of shapes) new (Err refusal)) (sym (copied_not heap to from n s.block t.block some s.around t.around shut.0))
    (ap (λ (e : Outside). no.ReadOnly e) (sym t.refusal))

-- the source as it is kept
source_kept : (store : Store) (heap : Heap) (shapes : List (ℕ × List WordKind)) (from : Word) (n : ℕ) (source : Spot) → Holds store heap (layouts_of shapes)
    → IsSpot store from n source → (s : IsThere store heap from n source) → KeepsAt store (layouts_of shapes) source s.block
source_kept store heap shapes from n source holds is s = record {
  size = s.size;
  filled = filled_at store heap (layouts_of shapes) from n source holds s;
  keeps = keeps_at store heap (layouts_of shapes) from n source holds is s;
}

with_copy-same : (t : Block) (bytes bytes' bases bases' : List ℕ) (o o' : ℕ) → bytes ≡ bytes' → bases ≡ bases' → o ≡ o'
    → with_both o bytes bases t ≡ with_content t (overwritten t.bytes o' bytes') (overwritten t.bases (o' / 4) bases')
with_copy-same t bytes bytes' bases bases' o o' p q r = rw (p, q, r) refl

pub copy_open : (store new : Store) (heap : Heap) (shapes : List (ℕ × List WordKind)) (to from : Word) (n : ℕ) (source target : Spot) (chosen : Chosen) (taken : Taken) → n ≢ 0
    → IsSpot store from n source → IsSpot store to n target → IsFormOf (layouts_of shapes) target.desc (form.Open chosen)
    → ((x : Block) → KeepsAt store (layouts_of shapes) source x → AreTaken taken target.offset source.offset n x)
    → Turns store new target.block (layout_in chosen) (with_both target.offset taken.bytes.items taken.bases.items)
    → Holds store heap (layouts_of shapes) → Copies (copy_of heap to from n) (layouts_of shapes) new (Ok tt)
copy_open store new heap shapes to from n source target chosen taken some is_source is form are turns holds =
    let s = there store heap (layouts_of shapes) from n source holds is_source in
    let t = there store heap (layouts_of shapes) to n target holds is in
    let object = holds_at store heap shapes to n target chosen is form holds t in
    let got = are s.block (source_kept store heap shapes from n source holds is_source s) in
    let o : ℕ = distance to.value t.block.base in
    let p : ℕ = distance from.value s.block.base in
    let same : with_both target.offset taken.bytes.items taken.bases.items t.block ≡ with_copy t.block s.block o p n =
    with_copy-same t.block _ _ _ _ _ _
    (got.bytes ∙ ap (λ (i : ℕ). take n (drop i s.block.bytes)) s.offset)
    (got.bases ∙ ap (λ (i : ℕ). copied_bases (touched target.offset n) s.block.bases target.offset i n (target.offset / 4)) s.offset
    ∙ ap (λ (i : ℕ). copied_bases (touched i n) s.block.bases i p n (i / 4)) t.offset)
    t.offset in
    subst (λ (said : Result Heap CopyNo). Copies said (layouts_of shapes) new (Ok tt)) (sym (copied heap to from n s.block t.block some s.around t.around object.unsealed))
    (subst (λ (x : Block). Holds new (with_block heap to.block x) (layouts_of shapes)) same
    (turned_at store new heap shapes to n target chosen (with_both target.offset taken.bytes.items taken.bases.items) is form turns holds t))

-- ---- undecided blocks

zeros_over : (size place n : ℕ) → place + n ≤ size → overwritten (zeros size) place (zeros n) ≡ zeros size
zeros_over size place n room =
    let joined : place + (n + (size - (place + n))) ≡ size = omega arith in
    let front : take place (zeros size) ≡ zeros place = take-replicate place size 0 (omega arith) in
    let back : drop (place + length (zeros n)) (zeros size) ≡ zeros (size - (place + n)) =
    ap (λ (i : ℕ). drop (place + i) (zeros size)) (length-replicate n 0) ∙ drop-replicate (place + n) size 0 in
    ap (λ (xs : List ℕ). xs ++ (zeros n ++ drop (place + length (zeros n)) (zeros size))) front
    ∙ ap (λ (xs : List ℕ). zeros place ++ (zeros n ++ xs)) back
    ∙ ap (λ (xs : List ℕ). zeros place ++ xs) (replicate-append-replicate n (size - (place + n)) 0)
    ∙ replicate-append-replicate place (n + (size - (place + n))) 0
    ∙ ap zeros joined

content_here : (t : Block) (bytes bases : List ℕ) → bytes ≡ t.bytes → bases ≡ t.bases → with_content t bytes bases ≡ t
content_here t bytes bases p q = rw (p, q) refl

blank_copied : (s t : Block) (o p n : ℕ) → o + n ≤ t.size → p + n ≤ s.size → n ≢ 0
    → s.bytes ≡ zeros s.size → s.bases ≡ zeros (words_of s.size) → t.bytes ≡ zeros t.size → t.bases ≡ zeros (words_of t.size)
    → with_copy t s o p n ≡ t
blank_copied s t o p n room_t room_s some sb sk tb tk =
    let words : o / 4 + touched o n ≤ words_of t.size = omega arith in
    content_here t _ _
    (ap (λ (bs : List ℕ). overwritten t.bytes o (take n (drop p bs))) sb
    ∙ ap (λ (bs : List ℕ). overwritten t.bytes o bs) (part_of_zeros s.size p n room_s)
    ∙ ap (λ (bs : List ℕ). overwritten bs o (zeros n)) tb
    ∙ zeros_over t.size o n room_t
    ∙ sym tb)
    (ap (λ (ks : List ℕ). overwritten t.bases (o / 4) (copied_bases (touched o n) ks o p n (o / 4))) sk
    ∙ ap (λ (ks : List ℕ). overwritten t.bases (o / 4) ks) (zero_bases (touched o n) (words_of s.size) o p n (o / 4))
    ∙ ap (λ (ks : List ℕ). overwritten ks (o / 4) (zeros (touched o n))) tk
    ∙ zeros_over (words_of t.size) (o / 4) (touched o n) words
    ∙ sym tk)

-- what is kept under descriptor 2
two_keeps : (memory : Memory) (layouts : Layouts) (desc cell : ℕ) (x : Block) → desc ≡ 2 → Keeps memory layouts desc cell x → IsUndecided memory desc cell x
two_keeps memory layouts desc cell x two (inl undecided) = undecided
two_keeps memory layouts desc cell x two (inr (inl decided)) = absurd (let high = decided.decided in omega arith)
two_keeps memory layouts desc cell x two (inr (inr shut)) = absurd (let high = shut.decided in let one = shut.desc_is in omega arith)

pub copy_undecided : (store : Store) (heap : Heap) (shapes : List (ℕ × List WordKind)) (to from : Word) (n : ℕ) (source target : Spot) → n ≢ 0
    → IsSpot store from n source → IsSpot store to n target → IsFormOf (layouts_of shapes) target.desc form.Undecided → IsCopyable store to.block from.block
    → Holds store heap (layouts_of shapes) → Copies (copy_of heap to from n) (layouts_of shapes) store (Ok tt)
copy_undecided store heap shapes to from n source target some is_source is form (inl decided) holds =
    absurd (not_undecided store heap shapes to n target is form decided holds)
copy_undecided store heap shapes to from n source target some is_source is form (inr both) holds =
    let s = there store heap (layouts_of shapes) from n source holds is_source in
    let t = there store heap (layouts_of shapes) to n target holds is in
    let kept_s = two_keeps (memory_of store.words) (layouts_of shapes) source.desc (header_in store source.block).cell s.block (is_source.desc ∙ both.1.desc)
    (keeps_at store heap (layouts_of shapes) from n source holds is_source s) in
    let kept_t = undecided_keeps (memory_of store.words) (layouts_of shapes) target.desc (header_in store target.block).cell t.block form
    (keeps_at store heap (layouts_of shapes) to n target holds is t) in
    let o : ℕ = distance to.value t.block.base in
    let p : ℕ = distance from.value s.block.base in
    let so = s.offset in let ss = s.size in let sw = is_source.within in
    let to_offset = t.offset in let ts = t.size in let tw = is.within in
    let same : with_copy t.block s.block o p n ≡ t.block =
    blank_copied s.block t.block o p n (omega arith) (omega arith) some kept_s.blank.bytes kept_s.blank.bases kept_t.blank.bytes kept_t.blank.bases in
    subst (λ (said : Result Heap CopyNo). Copies said (layouts_of shapes) store (Ok tt)) (sym (copied heap to from n s.block t.block some s.around t.around kept_t.unsealed))
    (subst (λ (h : Heap). Holds store h (layouts_of shapes)) (sym (ap (λ (x : Block). with_block heap to.block x) same ∙ with_block_here heap to.block t.block t.found)) holds)

-- zeros are what an undecided block gives
pub zeros_taken : (store : Store) (shapes : List (ℕ × List WordKind)) (source : Spot) (taken : Taken) (to n : ℕ) → source.offset + n ≤ source.size
    → IsFormOf (layouts_of shapes) source.desc form.Undecided → AreZeros taken to n
    → (x : Block) → KeepsAt store (layouts_of shapes) source x → AreTaken taken to source.offset n x
zeros_taken store shapes source taken to n room form are x kept =
    let size = kept.size in
    let blank = (undecided_keeps (memory_of store.words) (layouts_of shapes) source.desc (header_in store source.block).cell x form kept.keeps).blank in
    record {
      bytes = are.bytes ∙ sym (ap (λ (bs : List ℕ). take n (drop source.offset bs)) blank.bytes ∙ part_of_zeros x.size source.offset n (omega arith));
      bases = are.bases ∙ sym (ap (λ (ks : List ℕ). copied_bases (touched to n) ks to source.offset n (to / 4)) blank.bases
          ∙ zero_bases (touched to n) (words_of x.size) to source.offset n (to / 4));
    }
