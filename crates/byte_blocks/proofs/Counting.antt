-- How the counts go with the blocks.
use Rattle.std.proofs.Common.{eq-eqb, ne_eqb, ◌≡◌, ℕ, ◌+◌, ◌-◌, ◌*◌, ◌^◌, ◌<◌, ◌≤◌, inl, inr, List, [], ◌∷◌, ◌++◌, Bool, ◌&&◌, cond, eqb, length, get_or, replicate, max, refl, sym, ap, ◌∙◌, arith, true, false}
use Rattle.std.proofs.Math.ListN.{set}
use Rattle.std.proofs.lemmas.List.{get_or-replicate, length_push, length-set, get_or-set_same, get_or-set_other, set-get_or}
use Rattle.std.proofs.lemmas.List.Sums.{count_by-le-length, sum_by_push, sum_by-set}
use Rattle.std.proofs.lemmas.Bool.{cases_eq}
use Rattle.c_memory.specs.Blocks.{Block, ended}
use Rattle.c_memory.specs.Storage.{bytes_of_cells, class_of, live_in, new_block, next_base, raised, span, stored_of}
use Rattle.c_memory.specs.declared.kind.BlockKind.{BlockKind}
use Rattle.byte_blocks.specs.Counts.{Counts}
use Rattle.byte_blocks.specs.declared.tally.Tally.{Tally}
use Rattle.byte_blocks.proofs.Classes.{bytes_of_cells-one_more}

-- ---- no blocks

abbrev none : Tally
none = record { greatest = replicate 30 0; live = replicate 30 0; stored = 0; next_base = 65536 }

pub Counts-none : Counts [] none
unfolding live_in stored_of next_base
Counts-none = record {
  live_is = λ class h. get_or-replicate 30 class 0 0 h;
  live_once = λ class h. omega arith;
  stored_is = refl;
  base_is = refl;
}

-- ---- how many are live

-- a block counts for a class
abbrev counts_for : (class : ℕ) → Block → Bool
counts_for class block = block.is_live && eqb (class_of block.size) class

abbrev one_if : Bool → ℕ
one_if test = cond test 1 0

pub live_in-le-length : (class : ℕ) (blocks : List Block) → live_in class blocks ≤ length blocks
unfolding live_in
live_in-le-length class blocks = count_by-le-length (λ (block : Block). counts_for class block) blocks

live_in_push : (class : ℕ) (blocks : List Block) (block : Block) → live_in class (blocks ++ block ∷ []) ≡ live_in class blocks + one_if (counts_for class block)
unfolding live_in
live_in_push class blocks block = sum_by_push (λ (x : Block). one_if (counts_for class x)) blocks block

live_in-set : (class : ℕ) (blocks : List Block) (place : ℕ) (new old : Block) → place < length blocks → get_or blocks place old ≡ old
    → live_in class (set blocks place new) + one_if (counts_for class old) ≡ live_in class blocks + one_if (counts_for class new)
unfolding live_in
live_in-set class blocks place new old h e =
    let sums = sum_by-set (λ (x : Block). one_if (counts_for class x)) blocks place new old h in
    rw e at sums

-- what a block counts for a class
same_class : (class size : ℕ) → class ≡ class_of size → one_if (eqb (class_of size) class) ≡ 1
same_class class size e = let t : eqb (class_of size) class ≡ true = eq-eqb (class_of size) class (sym e) in rw t refl

other_class : (class other size : ℕ) → class ≡ class_of size → (other ≡ class → ⊥) → one_if (eqb (class_of size) other) ≡ 0
other_class class other size e ne =
    let t : eqb (class_of size) other ≡ false = ne_eqb (class_of size) other (λ same. ne (sym same ∙ sym e)) in rw t refl

-- ---- one more block

-- the numbers of live blocks are those of these blocks
abbrev LiveIs : (live : List ℕ) → List Block → Type 0
LiveIs live blocks = (class : ℕ) → class < 30 → get_or live class 0 ≡ live_in class blocks

LiveIs_push : (live : List ℕ) (blocks : List Block) (block : Block) (class : ℕ) → length live ≡ 30 → class < 30 → class ≡ class_of block.size
    → block.is_live ≡ true → LiveIs live blocks → LiveIs (set live class (get_or live class 0 + 1)) (blocks ++ block ∷ [])
LiveIs_push live blocks block class len h e alive was other below =
    let more = live_in_push other blocks block in
    let counted = was other below in
    let one : one_if (counts_for other block) ≡ one_if (eqb (class_of block.size) other) = rw alive refl in
    elim (cases_eq other class) [
      | inl same ↦
          let here : get_or (set live class (get_or live class 0 + 1)) class 0 ≡ get_or live class 0 + 1 = get_or-set_same live class (get_or live class 0 + 1) 0 (omega arith) in
          let by : one_if (eqb (class_of block.size) other) ≡ 1 = same_class other block.size (same ∙ e) in
          let there : get_or (set live class (get_or live class 0 + 1)) other 0 ≡ get_or live other 0 + 1 = rw same here in
          omega arith
      | inr ne ↦
          let there : get_or (set live class (get_or live class 0 + 1)) other 0 ≡ get_or live other 0 = get_or-set_other live class other (get_or live class 0 + 1) 0 ne in
          let by : one_if (eqb (class_of block.size) other) ≡ 0 = other_class class other block.size e ne in
          omega arith
    ]

stored_push : (blocks : List Block) (block : Block) (greatest : List ℕ) (stored more : ℕ) (new : List ℕ) → stored ≡ stored_of (record { blocks = blocks; greatest = greatest })
    → bytes_of_cells new 16 ≡ bytes_of_cells greatest 16 + more → stored + more + 16 ≡ stored_of (record { blocks = blocks ++ block ∷ []; greatest = new })
unfolding stored_of
stored_push blocks block greatest stored more new h e = let l = length_push blocks block in omega arith

base_push : (blocks : List Block) (block : Block) (greatest new : List ℕ) (base : ℕ) → base ≡ next_base (record { blocks = blocks; greatest = greatest })
    → base + span block.size ≡ next_base (record { blocks = blocks ++ block ∷ []; greatest = new })
unfolding next_base
base_push blocks block greatest new base h = let l = sum_by_push (λ (x : Block). span x.size) blocks block in omega arith

-- where a cell is free
pub Counts-free : (blocks : List Block) (tally : Tally) (kind : BlockKind) (size class : ℕ) → length tally.live ≡ 30 → class < 30 → class ≡ class_of size
    → get_or tally.live class 0 < get_or tally.greatest class 0 → Counts blocks tally
    → Counts (blocks ++ new_block tally.next_base size kind ∷ []) (record {
      greatest = tally.greatest;
      live = set tally.live class (get_or tally.live class 0 + 1);
      stored = tally.stored + 16;
      next_base = tally.next_base + span size;
    })
Counts-free blocks tally kind size class len h e free counts = record {
  live_is = LiveIs_push tally.live blocks (new_block tally.next_base size kind) class len h e refl counts.live_is;
  live_once = λ other below.
      let was = counts.live_once other below in
      elim (cases_eq other class) [
        | inl same ↦
            let here : get_or (set tally.live class (get_or tally.live class 0 + 1)) class 0 ≡ get_or tally.live class 0 + 1 = get_or-set_same tally.live class (get_or tally.live class 0 + 1) 0 (omega arith) in
            rw (same, here) (omega arith)
        | inr ne ↦ rw (get_or-set_other tally.live class other (get_or tally.live class 0 + 1) 0 ne) was
      ];
  stored_is =
      let all = stored_push blocks (new_block tally.next_base size kind) tally.greatest tally.stored 0 tally.greatest counts.stored_is (omega arith) in
      omega arith;
  base_is = base_push blocks (new_block tally.next_base size kind) tally.greatest tally.greatest tally.next_base counts.base_is;
}

-- where all cells of its class are in use
pub Counts-full : (blocks : List Block) (tally : Tally) (kind : BlockKind) (size class : ℕ) → length tally.live ≡ 30 → length tally.greatest ≡ 30 → class < 30
    → class ≡ class_of size → get_or tally.greatest class 0 ≤ get_or tally.live class 0 → Counts blocks tally
    → Counts (blocks ++ new_block tally.next_base size kind ∷ []) (record {
      greatest = set tally.greatest class (get_or tally.live class 0 + 1);
      live = set tally.live class (get_or tally.live class 0 + 1);
      stored = tally.stored + 16 * 2 ^ class + 16;
      next_base = tally.next_base + span size;
    })
Counts-full blocks tally kind size class len glen h e full counts =
    let once = counts.live_once class h in
    let most : get_or tally.live class 0 ≡ get_or tally.greatest class 0 = omega arith in
    let new = set tally.greatest class (get_or tally.live class 0 + 1) in
    record {
      live_is = LiveIs_push tally.live blocks (new_block tally.next_base size kind) class len h e refl counts.live_is;
      live_once = λ other below.
          let was = counts.live_once other below in
          elim (cases_eq other class) [
            | inl same ↦
                let here : get_or (set tally.live class (get_or tally.live class 0 + 1)) class 0 ≡ get_or tally.live class 0 + 1 = get_or-set_same tally.live class (get_or tally.live class 0 + 1) 0 (omega arith) in
                let there : get_or (set tally.greatest class (get_or tally.live class 0 + 1)) class 0 ≡ get_or tally.live class 0 + 1 = get_or-set_same tally.greatest class (get_or tally.live class 0 + 1) 0 (omega arith) in
                rw (same, here, there) (omega arith)
            | inr ne ↦
                let here : get_or (set tally.live class (get_or tally.live class 0 + 1)) other 0 ≡ get_or tally.live other 0 = get_or-set_other tally.live class other (get_or tally.live class 0 + 1) 0 ne in
                let there : get_or (set tally.greatest class (get_or tally.live class 0 + 1)) other 0 ≡ get_or tally.greatest other 0 = get_or-set_other tally.greatest class other (get_or tally.live class 0 + 1) 0 ne in
                rw (here, there) was
          ];
      stored_is = stored_push blocks (new_block tally.next_base size kind) tally.greatest tally.stored (16 * 2 ^ class) new counts.stored_is
          (rw most (bytes_of_cells-one_more tally.greatest 16 class (omega arith)));
      base_is = base_push blocks (new_block tally.next_base size kind) tally.greatest new tally.next_base counts.base_is;
    }

-- what is raised
pub raised-free : (greatest : List ℕ) (class live : ℕ) → live < get_or greatest class 0 → raised greatest class (live + 1) ≡ greatest
raised-free greatest class live h =
    let m : max (get_or greatest class 0) (live + 1) ≡ get_or greatest class 0 = omega arith in
    ap (λ (n : ℕ). set greatest class n) m ∙ set-get_or greatest class 0

pub raised-full : (greatest : List ℕ) (class live : ℕ) → get_or greatest class 0 ≤ live → raised greatest class (live + 1) ≡ set greatest class (live + 1)
raised-full greatest class live h =
    let m : max (get_or greatest class 0) (live + 1) ≡ live + 1 = omega arith in
    ap (λ (n : ℕ). set greatest class n) m

-- ---- a block is changed

-- its size stays, and whether it is alive
pub Counts-set : (blocks : List Block) (tally : Tally) (place : ℕ) (old new : Block) → place < length blocks → get_or blocks place old ≡ old
    → new.size ≡ old.size → new.is_live ≡ old.is_live → Counts blocks tally → Counts (set blocks place new) tally
unfolding stored_of next_base
Counts-set blocks tally place old new h read size live counts = record {
  live_is = λ class below.
      let was = counts.live_is class below in
      let change = live_in-set class blocks place new old h read in
      let same : one_if (counts_for class new) ≡ one_if (counts_for class old) = rw (size, live) refl in
      omega arith;
  live_once = counts.live_once;
  stored_is = counts.stored_is ∙ ap (λ (n : ℕ). 16 * n + bytes_of_cells tally.greatest 16) (sym (length-set blocks place new));
  base_is =
      let sums = sum_by-set (λ (x : Block). span x.size) blocks place new old h in
      let was : span (get_or blocks place old).size ≡ span old.size = rw read refl in
      let now : span new.size ≡ span old.size = rw size refl in
      let base = counts.base_is in
      omega arith;
}

-- its life ends
pub Counts-ended : (blocks : List Block) (tally : Tally) (place : ℕ) (old : Block) → place < length blocks → get_or blocks place old ≡ old → old.is_live ≡ true
    → length tally.live ≡ 30 → class_of old.size < 30 → Counts blocks tally
    → Counts (set blocks place (ended old)) (record tally { live = set tally.live (class_of old.size) (get_or tally.live (class_of old.size) 0 - 1) })
unfolding stored_of next_base
Counts-ended blocks tally place old h read alive len in_range counts =
    let class = class_of old.size in
    let live = set tally.live class (get_or tally.live class 0 - 1) in
    let here : get_or live class 0 ≡ get_or tally.live class 0 - 1 = get_or-set_same tally.live class (get_or tally.live class 0 - 1) 0 (omega arith) in
    record {
      live_is = λ other below.
          let was = counts.live_is other below in
          let change = live_in-set other blocks place (ended old) old h read in
          let one : one_if (counts_for other old) ≡ one_if (eqb (class_of old.size) other) = rw alive refl in
          elim (cases_eq other class) [
            | inl same ↦
                let by : one_if (eqb (class_of old.size) other) ≡ 1 = same_class other old.size same in
                let there : get_or live other 0 ≡ get_or tally.live other 0 - 1 = rw same here in
                omega arith
            | inr ne ↦
                let by : one_if (eqb (class_of old.size) other) ≡ 0 = other_class class other old.size refl ne in
                let there : get_or live other 0 ≡ get_or tally.live other 0 = get_or-set_other tally.live class other (get_or tally.live class 0 - 1) 0 ne in
                omega arith
          ];
      live_once = λ other below.
          let was = counts.live_once other below in
          elim (cases_eq other class) [
            | inl same ↦ let there : get_or live other 0 ≡ get_or tally.live other 0 - 1 = rw same here in omega arith
            | inr ne ↦ rw (get_or-set_other tally.live class other (get_or tally.live class 0 - 1) 0 ne) was
          ];
      stored_is = counts.stored_is ∙ ap (λ (n : ℕ). 16 * n + bytes_of_cells tally.greatest 16) (sym (length-set blocks place (ended old)));
      base_is =
          let sums = sum_by-set (λ (x : Block). span x.size) blocks place (ended old) old h in
          let was : span (get_or blocks place old).size ≡ span old.size = rw read refl in
          let base = counts.base_is in
          omega arith;
    }

-- a live block counts
pub live_above : (blocks : List Block) (tally : Tally) (place : ℕ) (old : Block) → place < length blocks → get_or blocks place old ≡ old → old.is_live ≡ true
    → class_of old.size < 30 → Counts blocks tally → 0 < get_or tally.live (class_of old.size) 0
live_above blocks tally place old h read alive in_range counts =
    let was = counts.live_is (class_of old.size) in_range in
    let change = live_in-set (class_of old.size) blocks place (ended old) old h read in
    let one : one_if (counts_for (class_of old.size) old) ≡ one_if (eqb (class_of old.size) (class_of old.size)) = rw alive refl in
    let by = same_class (class_of old.size) old.size refl in
    omega arith
