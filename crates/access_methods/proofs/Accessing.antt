-- What a descriptor says of the cell that is kept, and what reads and writes of a heap come to.
use Rattle.std.proofs.Common.{◌≡◌, ℕ, zero, suc, ◌+◌, ◌-◌, ◌/◌, ◌%◌, ◌≤◌, ◌⊎◌, inl, inr, Bool, true, false, List, take, drop, get_or, replicate, Option, Some, None, Ok, Err, Result, refl, sym, ap, ◌∙◌, subst, arith}
use Rattle.std.specs.Prelude.{◌&&◌, ◌==◌, if◌then◌else◌}
use Rattle.std.proofs.lemmas.List.{drop-replicate, take-replicate}
use Rattle.fsc_base.specs.declared.word.Word.{Word}
use Rattle.fsc_base.specs.declared.word.Width.{Width}
use Rattle.fsc_base.specs.declared.word.WordKind.{WordKind}
use Rattle.c_memory.specs.declared.access.Outside.{Outside}
use Rattle.c_memory.specs.declared.access.WriteNo.{WriteNo}
use Rattle.c_memory.specs.declared.access.WriteNo.TheVariants as no
use Rattle.c_memory.specs.Access.{bytes_of, distance, within, refused, word_in, read_of, with_word, write_of}
use Rattle.c_memory.specs.Blocks.{Block, Heap, block_at, with_block, words_of}
use Rattle.c_memory.specs.Bytes.{little_endian}
use Rattle.c_memory.specs.Sound.{IsFilled}
use Rattle.cell_store.specs.Layouts.{AreLayouts, Layout, Layouts, IsLayout}
use Rattle.cell_store.specs.StandsFor.{Memory, IsLaidOut, IsUndecided, Keeps}
use Rattle.cell_store.specs.Store.{Store, memory_of, header_in, IsLiveIn, Holds}
use Rattle.type_desc.specs.Shapes.{shape_of}
use Rattle.access_methods.specs.declared.form.Chosen.{Chosen}
use Rattle.access_methods.specs.declared.form.Form.TheVariants as form
use Rattle.access_methods.specs.declared.locate.Spot.{Spot}
use Rattle.access_methods.specs.declared.object.Object.{Object}
use Rattle.access_methods.specs.Shaped.{plane, shaped, shaped_by, layouts_of}
use Rattle.access_methods.specs.ShapedLaws.{plane_is_layout, shaped_is_layout}
use Rattle.access_methods.specs.Forms.{layout_in, IsFormOf}
use Rattle.access_methods.specs.Spots.{IsSpot, IsNowhere, IsBeyond}
use Rattle.access_methods.specs.Objects.{HoldsObject, Turns}
use Rattle.access_methods.specs.Cells.{IsObjectIn, Lays}
use Rattle.access_methods.specs.Accesses.{IsDecidedAt, Writes}
use Rattle.access_methods.proofs.Located.{IsThere, there, not_there}

-- ---- layouts

some_same : (a b : Layout) → ◌≡◌ {A = Option Layout} (Some a) (Some b) → a ≡ b
some_same a b e = cc

none_some : (a : Layout) → ◌≡◌ {A = Option Layout} None (Some a) → ⊥
none_some a e = cc

shaped_by_is : (found : Option (List WordKind)) (layout : Layout) → shaped_by found ≡ Some layout → IsLayout layout
shaped_by_is None layout h = absurd (none_some layout h)
shaped_by_is (Some kinds) layout h = subst IsLayout (some_same (shaped kinds) layout h) (shaped_is_layout kinds)

chosen_is : (a b : Bool) (found : Option (List WordKind)) (layout : Layout)
    → (if a then Some plane else (if b then shaped_by found else None)) ≡ Some layout → IsLayout layout
chosen_is true b found layout h = subst IsLayout (some_same plane layout h) plane_is_layout
chosen_is false true found layout h = shaped_by_is found layout h
chosen_is false false found layout h = absurd (none_some layout h)

pub layouts_are : (shapes : List (ℕ × List WordKind)) → AreLayouts (layouts_of shapes)
unfolding layouts_of
layouts_are shapes desc layout h = chosen_is (desc == 3) (desc % 4 == 0) (shape_of shapes desc) layout h

-- ---- what a descriptor says

-- it is decided and open
pub record IsOpenCell (memory : Memory) (cell : ℕ) (layout : Layout) (x : Block) (desc : ℕ) : Type 0 where
  pub unsealed : x.is_sealed ≡ false
  pub decided : 3 ≤ desc
  pub laid_out : IsLaidOut memory cell layout x

pub open_keeps : (memory : Memory) (layouts : Layouts) (desc cell : ℕ) (x : Block) (chosen : Chosen) → IsFormOf layouts desc (form.Open chosen)
    → Keeps memory layouts desc cell x → IsOpenCell memory cell (layout_in chosen) x desc
open_keeps memory layouts desc cell x chosen is (inl undecided) = absurd (is.1 undecided.desc_is)
open_keeps memory layouts desc cell x chosen is (inr (inl decided)) =
    let same : layout_in chosen ≡ decided.layout = some_same (layout_in chosen) decided.layout (sym is.0 ∙ decided.found) in
    record { unsealed = decided.unsealed; decided = decided.decided; laid_out = subst (λ (l : Layout). IsLaidOut memory cell l x) (sym same) decided.laid_out }
open_keeps memory layouts desc cell x chosen is (inr (inr shut)) =
    absurd (none_some shut.layout (sym (is.2 shut.of shut.desc_is shut.decided) ∙ shut.found))

-- it is sealed
pub sealed_keeps : (memory : Memory) (layouts : Layouts) (desc cell : ℕ) (x : Block) (chosen : Chosen) → IsFormOf layouts desc (form.Sealed chosen)
    → Keeps memory layouts desc cell x → (x.is_sealed ≡ true) × IsLaidOut memory cell (layout_in chosen) x
sealed_keeps memory layouts desc cell x chosen is (inl undecided) = absurd (let two = undecided.desc_is in let high = is.1 in omega arith)
sealed_keeps memory layouts desc cell x chosen is (inr (inl decided)) = absurd (none_some decided.layout (sym is.0 ∙ decided.found))
sealed_keeps memory layouts desc cell x chosen is (inr (inr shut)) =
    let one = shut.desc_is in
    let of : desc - 1 ≡ shut.of = omega arith in
    let same : layout_in chosen ≡ shut.layout = some_same (layout_in chosen) shut.layout (sym is.2 ∙ ap layouts of ∙ shut.found) in
    (shut.shut, subst (λ (l : Layout). IsLaidOut memory cell l x) (sym same) shut.laid_out)

-- it is undecided
pub undecided_keeps : (memory : Memory) (layouts : Layouts) (desc cell : ℕ) (x : Block) → IsFormOf layouts desc form.Undecided
    → Keeps memory layouts desc cell x → IsUndecided memory desc cell x
undecided_keeps memory layouts desc cell x is (inl undecided) = undecided
undecided_keeps memory layouts desc cell x is (inr (inl decided)) = absurd (none_some decided.layout (sym is.0 ∙ decided.found))
undecided_keeps memory layouts desc cell x is (inr (inr shut)) = absurd (none_some shut.layout (sym (is.1 shut.of shut.desc_is shut.decided) ∙ shut.found))

-- ---- zeros

zeros_spell : (n : ℕ) → little_endian (replicate n 0) ≡ 0
zeros_spell zero = refl
zeros_spell (suc n) = rw (zeros_spell n) refl

abbrev pub zeros : ℕ → List ℕ
zeros n = replicate n 0

pub zero_item : (n k : ℕ) → get_or (zeros n) k 0 ≡ 0
zero_item zero k = refl
zero_item (suc n) zero = refl
zero_item (suc n) (suc k) = zero_item n k

pub part_of_zeros : (size offset n : ℕ) → offset + n ≤ size → take n (drop offset (zeros size)) ≡ zeros n
part_of_zeros size offset n h =
    ap (λ (bs : List ℕ). take n bs) (drop-replicate offset size 0) ∙ take-replicate n (size - offset) 0 (omega arith)

abbrev pub either : Bool → ℕ → ℕ
either b base = if b then base else 0

either_zero : (b : Bool) → either b 0 ≡ 0
either_zero true = refl
either_zero false = refl

word-same : (a b c d : ℕ) → a ≡ c → b ≡ d → ◌≡◌ {A = Word} (record { value = a; block = b }) (record { value = c; block = d })
word-same a b c d p q = rw (p, q) refl

pub zero_word : (x : Block) (offset n : ℕ) → offset + n ≤ x.size → x.bytes ≡ replicate x.size 0 → x.bases ≡ replicate (words_of x.size) 0
    → record { value = 0; block = 0 } ≡ word_in x offset n
zero_word x offset n h bytes bases =
    word-same 0 0 _ _
    (sym (ap (λ (bs : List ℕ). little_endian (take n (drop offset bs))) bytes ∙ ap little_endian (part_of_zeros x.size offset n h) ∙ zeros_spell n))
    (sym (ap (λ (b : ℕ). either ((n == 4) && (offset % 4 == 0)) b)
    (ap (λ (bs : List ℕ). get_or bs (offset / 4) 0) bases ∙ zero_item (words_of x.size) (offset / 4))
    ∙ either_zero ((n == 4) && (offset % 4 == 0))))

-- ---- what reads of a heap give

pub reads : (heap : Heap) (at : Word) (width : Width) (x : Block) → within heap at (bytes_of width) ≡ Some x
    → read_of heap at width ≡ Ok (word_in x (distance at.value x.base) (bytes_of width))
unfolding read_of
reads heap at width x around = rw around refl

pub reads_not : (heap : Heap) (at : Word) (width : Width) → within heap at (bytes_of width) ≡ None → read_of heap at width ≡ Err (refused heap at (bytes_of width))
unfolding read_of
reads_not heap at width none = rw none refl

-- ---- what a store that holds a heap has at a spot

pub keeps_at : (store : Store) (heap : Heap) (layouts : Layouts) (at : Word) (n : ℕ) (spot : Spot) → Holds store heap layouts → IsSpot store at n spot
    → (t : IsThere store heap at n spot) → Keeps (memory_of store.words) layouts spot.desc (header_in store spot.block).cell t.block
keeps_at store heap layouts at n spot holds is t =
    let kept = holds.stands.kept at.block t.block t.found t.live in
    subst (λ (b : ℕ). Keeps (memory_of store.words) layouts spot.desc (header_in store b).cell t.block) (sym is.block)
    (subst (λ (d : ℕ). Keeps (memory_of store.words) layouts d (header_in store at.block).cell t.block) (sym is.desc) kept)

pub filled_at : (store : Store) (heap : Heap) (layouts : Layouts) (at : Word) (n : ℕ) (spot : Spot) → Holds store heap layouts
    → (t : IsThere store heap at n spot) → IsFilled t.block
filled_at store heap layouts at n spot holds t = (holds.sound.blocks at.block t.block t.found).filled t.live

abbrev pub object_at : Spot → Chosen → Object
object_at spot chosen = record { block = spot.block; size = spot.size; layout = chosen }

pub object_stands : (store : Store) (at : Word) (n : ℕ) (spot : Spot) (chosen : Chosen) → IsSpot store at n spot → IsObjectIn store (object_at spot chosen)
object_stands store at n spot chosen is = record {
  live = subst (λ (b : ℕ). IsLiveIn store b) (sym is.block) is.live;
  size = is.size ∙ ap (λ (b : ℕ). (header_in store b).size) (sym is.block);
}

-- a read of a cell that has this layout
read_laid_out : (store : Store) (heap : Heap) (shapes : List (ℕ × List WordKind)) (at : Word) (width : Width) (spot : Spot) (chosen : Chosen) (got : Word)
    → Holds store heap (layouts_of shapes) → (t : IsThere store heap at (bytes_of width) spot)
    → IsLaidOut (memory_of store.words) (header_in store spot.block).cell (layout_in chosen) t.block
    → ((x : Block) → Lays store (object_at spot chosen) x → got ≡ word_in x spot.offset (bytes_of width))
    → Ok got ≡ read_of heap at width
read_laid_out store heap shapes at width spot chosen got holds t laid gives =
    ap (λ (w : Word). Ok w)
    (gives t.block (record { size = t.size; filled = filled_at store heap (layouts_of shapes) at (bytes_of width) spot holds t; laid_out = laid })
    ∙ ap (λ (o : ℕ). word_in t.block o (bytes_of width)) t.offset)
    ∙ sym (reads heap at width t.block t.around)

pub read_open : (store : Store) (heap : Heap) (shapes : List (ℕ × List WordKind)) (at : Word) (width : Width) (spot : Spot) (chosen : Chosen) (got : Word)
    → IsSpot store at (bytes_of width) spot → IsFormOf (layouts_of shapes) spot.desc (form.Open chosen)
    → ((x : Block) → Lays store (object_at spot chosen) x → got ≡ word_in x spot.offset (bytes_of width))
    → Holds store heap (layouts_of shapes) → Ok got ≡ read_of heap at width
read_open store heap shapes at width spot chosen got is form gives holds =
    let t = there store heap (layouts_of shapes) at (bytes_of width) spot holds is in
    let kept = keeps_at store heap (layouts_of shapes) at (bytes_of width) spot holds is t in
    read_laid_out store heap shapes at width spot chosen got holds t
    (open_keeps (memory_of store.words) (layouts_of shapes) spot.desc (header_in store spot.block).cell t.block chosen form kept).laid_out gives

pub read_sealed : (store : Store) (heap : Heap) (shapes : List (ℕ × List WordKind)) (at : Word) (width : Width) (spot : Spot) (chosen : Chosen) (got : Word)
    → IsSpot store at (bytes_of width) spot → IsFormOf (layouts_of shapes) spot.desc (form.Sealed chosen)
    → ((x : Block) → Lays store (object_at spot chosen) x → got ≡ word_in x spot.offset (bytes_of width))
    → Holds store heap (layouts_of shapes) → Ok got ≡ read_of heap at width
read_sealed store heap shapes at width spot chosen got is form gives holds =
    let t = there store heap (layouts_of shapes) at (bytes_of width) spot holds is in
    let kept = keeps_at store heap (layouts_of shapes) at (bytes_of width) spot holds is t in
    read_laid_out store heap shapes at width spot chosen got holds t
    (sealed_keeps (memory_of store.words) (layouts_of shapes) spot.desc (header_in store spot.block).cell t.block chosen form kept).1 gives

pub read_undecided : (store : Store) (heap : Heap) (shapes : List (ℕ × List WordKind)) (at : Word) (width : Width) (spot : Spot)
    → IsSpot store at (bytes_of width) spot → IsFormOf (layouts_of shapes) spot.desc form.Undecided
    → Holds store heap (layouts_of shapes) → Ok (record { value = 0; block = 0 }) ≡ read_of heap at width
read_undecided store heap shapes at width spot is form holds =
    let n : ℕ = bytes_of width in
    let t = there store heap (layouts_of shapes) at n spot holds is in
    let kept = keeps_at store heap (layouts_of shapes) at n spot holds is t in
    let blank = (undecided_keeps (memory_of store.words) (layouts_of shapes) spot.desc (header_in store spot.block).cell t.block form kept).blank in
    let room = is.within in
    let same = t.size in
    let offset = t.offset in
    ap (λ (w : Word). Ok w) (zero_word t.block (distance at.value t.block.base) n (omega arith) blank.bytes blank.bases) ∙ sym (reads heap at width t.block t.around)

pub read_nowhere : (store : Store) (heap : Heap) (shapes : List (ℕ × List WordKind)) (at : Word) (width : Width) (refusal : Outside)
    → IsNowhere store at (bytes_of width) refusal ⊎ IsBeyond store at (bytes_of width) refusal
    → Holds store heap (layouts_of shapes) → Err refusal ≡ read_of heap at width
read_nowhere store heap shapes at width refusal fails holds =
    let none = not_there store heap (layouts_of shapes) at (bytes_of width) refusal holds fails in
    ap (λ (e : Outside). Err e) none.1 ∙ sym (reads_not heap at width none.0)

-- ---- writes

writes_ok : (heap : Heap) (at : Word) (width : Width) (what : Word) (x : Block) → within heap at (bytes_of width) ≡ Some x → x.is_sealed ≡ false
    → write_of heap at width what ≡ Ok (with_block heap at.block (with_word x (distance at.value x.base) (bytes_of width) what))
unfolding write_of
writes_ok heap at width what x around unsealed = rw (around, unsealed) refl

writes_sealed : (heap : Heap) (at : Word) (width : Width) (what : Word) (x : Block) → within heap at (bytes_of width) ≡ Some x → x.is_sealed ≡ true
    → write_of heap at width what ≡ Err (no.ReadOnly (refused heap at (bytes_of width)))
unfolding write_of
writes_sealed heap at width what x around is_sealed = rw (around, is_sealed) refl

writes_not : (heap : Heap) (at : Word) (width : Width) (what : Word) → within heap at (bytes_of width) ≡ None
    → write_of heap at width what ≡ Err (no.Outside (refused heap at (bytes_of width)))
unfolding write_of
writes_not heap at width what none = rw none refl

-- the object at a spot whose descriptor says that it is open
pub holds_at : (store : Store) (heap : Heap) (shapes : List (ℕ × List WordKind)) (at : Word) (n : ℕ) (spot : Spot) (chosen : Chosen)
    → IsSpot store at n spot → IsFormOf (layouts_of shapes) spot.desc (form.Open chosen) → Holds store heap (layouts_of shapes)
    → (t : IsThere store heap at n spot) → HoldsObject store (layouts_of shapes) spot.block (layout_in chosen) heap t.block
holds_at store heap shapes at n spot chosen is form holds t =
    let kept = keeps_at store heap (layouts_of shapes) at n spot holds is t in
    let cell = open_keeps (memory_of store.words) (layouts_of shapes) spot.desc (header_in store spot.block).cell t.block chosen form kept in
    let desc : spot.desc ≡ (header_in store spot.block).desc = is.desc ∙ ap (λ (b : ℕ). (header_in store b).desc) (sym is.block) in
    record {
      are_layouts = layouts_are shapes;
      holds = holds;
      found = ap (λ (b : ℕ). block_at heap b) is.block ∙ t.found;
      live = t.live;
      unsealed = cell.unsealed;
      decided = subst (λ (d : ℕ). 3 ≤ d) desc cell.decided;
      desc = ap (layouts_of shapes) (sym desc) ∙ form.0;
      laid_out = cell.laid_out;
    }

-- what a change of that object leaves
pub turned_at : (store new : Store) (heap : Heap) (shapes : List (ℕ × List WordKind)) (at : Word) (n : ℕ) (spot : Spot) (chosen : Chosen) (change : Block → Block)
    → IsSpot store at n spot → IsFormOf (layouts_of shapes) spot.desc (form.Open chosen) → Turns store new spot.block (layout_in chosen) change
    → Holds store heap (layouts_of shapes) → (t : IsThere store heap at n spot) → Holds new (with_block heap at.block (change t.block)) (layouts_of shapes)
turned_at store new heap shapes at n spot chosen change is form turns holds t =
    subst (λ (b : ℕ). Holds new (with_block heap b (change t.block)) (layouts_of shapes)) is.block
    (turns.keeps (layouts_of shapes) heap t.block (holds_at store heap shapes at n spot chosen is form holds t)).holds

pub write_open : (store new : Store) (heap : Heap) (shapes : List (ℕ × List WordKind)) (at : Word) (width : Width) (what : Word) (spot : Spot) (chosen : Chosen)
    → IsSpot store at (bytes_of width) spot → IsFormOf (layouts_of shapes) spot.desc (form.Open chosen)
    → Turns store new spot.block (layout_in chosen) (λ (x : Block). with_word x spot.offset (bytes_of width) what)
    → Holds store heap (layouts_of shapes) → Writes (write_of heap at width what) (layouts_of shapes) new (Ok tt)
write_open store new heap shapes at width what spot chosen is form turns holds =
    let n : ℕ = bytes_of width in
    let t = there store heap (layouts_of shapes) at n spot holds is in
    let object = holds_at store heap shapes at n spot chosen is form holds t in
    subst (λ (said : Result Heap WriteNo). Writes said (layouts_of shapes) new (Ok tt)) (sym (writes_ok heap at width what t.block t.around object.unsealed))
    (subst (λ (o : ℕ). Holds new (with_block heap at.block (with_word t.block o n what)) (layouts_of shapes)) t.offset
    (turned_at store new heap shapes at n spot chosen (λ (x : Block). with_word x spot.offset n what) is form turns holds t))

pub write_sealed : (store new : Store) (heap : Heap) (shapes : List (ℕ × List WordKind)) (at : Word) (width : Width) (what : Word) (spot : Spot) (chosen : Chosen)
    → IsSpot store at (bytes_of width) spot → IsFormOf (layouts_of shapes) spot.desc (form.Sealed chosen)
    → Holds store heap (layouts_of shapes)
    → Writes (write_of heap at width what) (layouts_of shapes) new (Err (no.ReadOnly (record { block = spot.block; offset = spot.offset; width = bytes_of width })))
write_sealed store new heap shapes at width what spot chosen is form holds =
    let n : ℕ = bytes_of width in
    let refusal : WriteNo = no.ReadOnly (record { block = spot.block; offset = spot.offset; width = n }) in
    let t = there store heap (layouts_of shapes) at n spot holds is in
    let kept = keeps_at store heap (layouts_of shapes) at n spot holds is t in
    let shut = sealed_keeps (memory_of store.words) (layouts_of shapes) spot.desc (header_in store spot.block).cell t.block chosen form kept in
    subst (λ (said : Result Heap WriteNo). Writes said (layouts_of shapes) new (Err refusal)) (sym (writes_sealed heap at width what t.block t.around shut.0))
    (ap (λ (e : Outside). no.ReadOnly e) (sym t.refusal))

pub write_nowhere : (store new : Store) (heap : Heap) (shapes : List (ℕ × List WordKind)) (at : Word) (width : Width) (what : Word) (refusal : Outside)
    → IsNowhere store at (bytes_of width) refusal ⊎ IsBeyond store at (bytes_of width) refusal
    → Holds store heap (layouts_of shapes) → Writes (write_of heap at width what) (layouts_of shapes) new (Err (no.Outside refusal))
write_nowhere store new heap shapes at width what refusal fails holds =
    let none = not_there store heap (layouts_of shapes) at (bytes_of width) refusal holds fails in
    subst (λ (said : Result Heap WriteNo). Writes said (layouts_of shapes) new (Err (no.Outside refusal))) (sym (writes_not heap at width what none.0))
    (ap (λ (e : Outside). no.Outside e) none.1)

-- an object that is decided is not undecided
pub not_undecided : (store : Store) (heap : Heap) (shapes : List (ℕ × List WordKind)) (at : Word) (n : ℕ) (spot : Spot)
    → IsSpot store at n spot → IsFormOf (layouts_of shapes) spot.desc form.Undecided → IsDecidedAt store at.block → Holds store heap (layouts_of shapes) → ⊥
not_undecided store heap shapes at n spot is form decided holds =
    let t = there store heap (layouts_of shapes) at n spot holds is in
    let kept = keeps_at store heap (layouts_of shapes) at n spot holds is t in
    let two = (undecided_keeps (memory_of store.words) (layouts_of shapes) spot.desc (header_in store spot.block).cell t.block form kept).desc_is in
    decided is.live (sym is.desc ∙ two)
