-- A store when one word of a live object's cell is changed: all headers and the cells of all other blocks stay.
use Rattle.std.proofs.Common.{◌≡◌, ◌≢◌, ℕ, ◌+◌, ◌-◌, ◌*◌, ◌/◌, ◌%◌, ◌<◌, ◌≤◌, ◌⊎◌, inl, inr, true, List, length, get_or, set, Some, refl, sym, ap, ◌∙◌, subst, arith}
use Rattle.std.proofs.lemmas.List.{length-set, get_or-set_same, get_or-set_other}
use Rattle.c_memory.specs.Blocks.{Block, Heap, block_at, is_live_object, with_block, words_of}
use Rattle.c_memory.specs.Sound.{IsFilled, IsBlock, IsHeap}
use Rattle.cell_store.specs.Layouts.{AreLayouts, Layout, Layouts, IsLayout}
use Rattle.cell_store.specs.StandsFor.{Memory, HeaderWords, header_of, header_address, IsLaidOut, Keeps, Describes, LiesIn}
use Rattle.cell_store.specs.Store.{Store, memory_of, header_in, cell_place, with_cell_word}
use Rattle.access_methods.specs.Objects.{HoldsObject, with_content}
use Rattle.access_methods.proofs.HeapBlocks.{block_at-made, block_at-with_same, length-with_block, each_block}

-- ---- words by address

-- the word at an address when another word is changed
pub elsewhere : (words : List ℕ) (p v a : ℕ) → a / 4 ≢ p → memory_of (set words p v) a ≡ memory_of words a
elsewhere words p v a apart = get_or-set_other words p (a / 4) v 0 apart

pub here : (words : List ℕ) (p v a : ℕ) → a / 4 ≡ p → p < length words → memory_of (set words p v) a ≡ v
here words p v a e within = ap (λ (i : ℕ). get_or (set words p v) i 0) e ∙ get_or-set_same words p v 0 within

-- ---- headers

same_header : (a b c d e f g h : ℕ) → a ≡ e → b ≡ f → c ≡ g → d ≡ h
    → ◌≡◌ {A = HeaderWords} (record { desc = a; size = b; base = c; cell = d }) (record { desc = e; size = f; base = g; cell = h })
same_header a b c d e f g h p q r s = rw (p, q, r, s) refl

before_cell : (made c cell i k : ℕ) → 0 + 16 * made ≤ cell → 1 ≤ c → c ≤ made → k < 16 → (0 + 16 * (c - 1) + k) / 4 ≢ cell / 4 + i
before_cell made c cell i k behind positive known h = omega arith

before_first : (made c cell i : ℕ) → 0 + 16 * made ≤ cell → 1 ≤ c → c ≤ made → (0 + 16 * (c - 1)) / 4 ≢ cell / 4 + i
before_first made c cell i behind positive known = omega arith

-- the header of a block when a word behind all headers is changed
pub header_kept : (words : List ℕ) (made c cell i v : ℕ) → 0 + 16 * made ≤ cell → 1 ≤ c → c ≤ made
    → header_of (memory_of (set words (cell / 4 + i) v)) 0 c ≡ header_of (memory_of words) 0 c
header_kept words made c cell i v behind positive known =
    same_header _ _ _ _ _ _ _ _
    (elsewhere words (cell / 4 + i) v (header_address 0 c) (before_first made c cell i behind positive known))
    (elsewhere words (cell / 4 + i) v (header_address 0 c + 4) (before_cell made c cell i 4 behind positive known (omega arith)))
    (elsewhere words (cell / 4 + i) v (header_address 0 c + 8) (before_cell made c cell i 8 behind positive known (omega arith)))
    (elsewhere words (cell / 4 + i) v (header_address 0 c + 12) (before_cell made c cell i 12 behind positive known (omega arith)))

-- ---- cells

-- two memories have the same words from an address on
abbrev Agree : (new old : Memory) (cell words : ℕ) → Type 0
Agree new old cell words = (i : ℕ) → i < words → new (cell + 4 * i) ≡ old (cell + 4 * i)

laid_out-agree : (new old : Memory) (cell : ℕ) (layout : Layout) (z : Block) → IsLayout layout → Agree new old cell (2 * words_of z.size)
    → IsLaidOut old cell layout z → IsLaidOut new cell layout z
laid_out-agree new old cell layout z is agree laid = record {
  values = λ w h. agree (layout.value_at (words_of z.size) w) (is.value_in (words_of z.size) w h) ∙ laid.values w h;
  bases = λ w h. agree (layout.base_at (words_of z.size) w) (is.base_in (words_of z.size) w h) ∙ laid.bases w h;
}

keeps-agree : (new old : Memory) (layouts : Layouts) (desc cell : ℕ) (z : Block) → AreLayouts layouts → Agree new old cell (2 * words_of z.size)
    → Keeps old layouts desc cell z → Keeps new layouts desc cell z
keeps-agree new old layouts desc cell z are agree (inl undecided) = inl (record {
  desc_is = undecided.desc_is;
  unsealed = undecided.unsealed;
  blank = record {
    words = λ i h. agree i h ∙ undecided.blank.words i h;
    bytes = undecided.blank.bytes;
    bases = undecided.blank.bases;
  };
})
keeps-agree new old layouts desc cell z are agree (inr (inl decided)) = inr (inl (record {
  layout = decided.layout;
  found = decided.found;
  decided = decided.decided;
  unsealed = decided.unsealed;
  laid_out = laid_out-agree new old cell decided.layout z (are desc decided.layout decided.found) agree decided.laid_out;
}))
keeps-agree new old layouts desc cell z are agree (inr (inr shut)) = inr (inr (record {
  of = shut.of;
  desc_is = shut.desc_is;
  layout = shut.layout;
  found = shut.found;
  decided = shut.decided;
  shut = shut.shut;
  laid_out = laid_out-agree new old cell shut.layout z (are shut.of shut.layout shut.found) agree shut.laid_out;
}))

-- the words of a cell that does not overlap the changed one
beside_cell : (cell mine other size i j : ℕ) → cell % 4 ≡ 0 → other % 4 ≡ 0 → i < 2 * mine → j < 2 * size
    → (cell + 8 * mine ≤ other) ⊎ (other + 8 * size ≤ cell) → (other + 4 * j) / 4 ≢ cell / 4 + i
beside_cell cell mine other size i j a b h k (inl below) = omega arith
beside_cell cell mine other size i j a b h k (inr above) = omega arith

-- ---- the store

-- what a block with other content was before
record Was (heap : Heap) (c : ℕ) (z : Block) : Type 0 where
  old : Block
  found : block_at heap c ≡ Some old
  size : old.size ≡ z.size
  live : is_live_object z ≡ true → is_live_object old ≡ true

was : (heap : Heap) (b : ℕ) (x : Block) (bytes bases : List ℕ) → block_at heap b ≡ Some x
    → (c : ℕ) (z : Block) → block_at (with_block heap b (with_content x bytes bases)) c ≡ Some z → Was heap c z
was heap b x bytes bases found = each_block heap b x (with_content x bytes bases) (λ c z. Was heap c z) found
    (record { old = x; found = found; size = refl; live = λ live. live })
    (λ c z other h. record { old = z; found = h; size = refl; live = λ live. live })

-- the facts that all blocks share
record Changes (store : Store) (layouts : Layouts) (b : ℕ) (layout : Layout) (heap : Heap) (x : Block) (i v : ℕ) (bytes bases : List ℕ) : Type 0 where
  object : HoldsObject store layouts b layout heap x
  within : i < 2 * words_of x.size
  filled : IsFilled (with_content x bytes bases)
  laid : IsLaidOut (memory_of (set store.words (cell_place store b i) v)) (header_in store b).cell layout (with_content x bytes bases)

abbrev old_memory : Store → Memory
old_memory store = memory_of store.words

abbrev new_memory : Store → (b i v : ℕ) → Memory
new_memory store b i v = memory_of (set store.words (cell_place store b i) v)

same_headers : (store : Store) (layouts : Layouts) (b : ℕ) (layout : Layout) (heap : Heap) (x : Block) (i v : ℕ)
    → HoldsObject store layouts b layout heap x
    → (c : ℕ) (z : Block) → block_at heap c ≡ Some z → header_of (new_memory store b i v) 0 c ≡ header_of (old_memory store) 0 c
same_headers store layouts b layout heap x i v object c z h =
    let lies = object.holds.stands.inside b x object.found object.live in
    let made = block_at-made heap c z h in
    header_kept store.words (length heap.blocks) c (header_in store b).cell i v lies.behind made.0 made.1

other_cell : (store : Store) (layouts : Layouts) (b : ℕ) (layout : Layout) (heap : Heap) (x : Block) (i v : ℕ)
    → HoldsObject store layouts b layout heap x → i < 2 * words_of x.size
    → (c : ℕ) (z : Block) → c ≢ b → block_at heap c ≡ Some z → is_live_object z ≡ true
    → Agree (new_memory store b i v) (old_memory store) (header_in store c).cell (2 * words_of z.size)
other_cell store layouts b layout heap x i v object within c z other h live j k =
    let mine = object.holds.stands.inside b x object.found object.live in
    let its = object.holds.stands.inside c z h live in
    elsewhere store.words (cell_place store b i) v ((header_in store c).cell + 4 * j)
    (beside_cell (header_in store b).cell (words_of x.size) (header_in store c).cell (words_of z.size) i j mine.aligned its.aligned within k
    (object.holds.stands.apart b c x z object.found h object.live live (λ e. other (sym e))))

new_sound : (store : Store) (layouts : Layouts) (b : ℕ) (layout : Layout) (heap : Heap) (x : Block) (i v : ℕ) (bytes bases : List ℕ)
    → Changes store layouts b layout heap x i v bytes bases → IsHeap (with_block heap b (with_content x bytes bases))
new_sound store layouts b layout heap x i v bytes bases c =
    let was_block : IsBlock x = c.object.holds.sound.blocks b x c.object.found in
    record {
      blocks = each_block heap b x (with_content x bytes bases) (λ _ z. IsBlock z) c.object.found
          (record { size = was_block.size; base = was_block.base; filled = λ _. c.filled })
          (λ d z other h. c.object.holds.sound.blocks d z h);
      greatest = c.object.holds.sound.greatest;
    }

new_headers : (store : Store) (layouts : Layouts) (b : ℕ) (layout : Layout) (heap : Heap) (x : Block) (i v : ℕ) (bytes bases : List ℕ)
    → Changes store layouts b layout heap x i v bytes bases
    → (c : ℕ) (z : Block) → block_at (with_block heap b (with_content x bytes bases)) c ≡ Some z → Describes (header_of (new_memory store b i v) 0 c) z
new_headers store layouts b layout heap x i v bytes bases c =
    let heads = same_headers store layouts b layout heap x i v c.object in
    let mine = c.object.holds.stands.headers b x c.object.found in
    each_block heap b x (with_content x bytes bases) (λ d z. Describes (header_of (new_memory store b i v) 0 d) z) c.object.found
    (subst (λ (h : HeaderWords). Describes h (with_content x bytes bases)) (sym (heads b x c.object.found))
    (record { size = mine.size; base = mine.base; dead = mine.dead; function = mine.function; object = mine.object }))
    (λ d z other h. subst (λ (k : HeaderWords). Describes k z) (sym (heads d z h)) (c.object.holds.stands.headers d z h))

new_kept : (store : Store) (layouts : Layouts) (b : ℕ) (layout : Layout) (heap : Heap) (x : Block) (i v : ℕ) (bytes bases : List ℕ)
    → Changes store layouts b layout heap x i v bytes bases
    → (c : ℕ) (z : Block) → block_at (with_block heap b (with_content x bytes bases)) c ≡ Some z → is_live_object z ≡ true
    → Keeps (new_memory store b i v) layouts (header_of (new_memory store b i v) 0 c).desc (header_of (new_memory store b i v) 0 c).cell z
new_kept store layouts b layout heap x i v bytes bases c =
    let heads = same_headers store layouts b layout heap x i v c.object in
    each_block heap b x (with_content x bytes bases)
    (λ d z. is_live_object z ≡ true → Keeps (new_memory store b i v) layouts (header_of (new_memory store b i v) 0 d).desc (header_of (new_memory store b i v) 0 d).cell z)
    c.object.found
    (λ live. subst (λ (h : HeaderWords). Keeps (new_memory store b i v) layouts h.desc h.cell (with_content x bytes bases)) (sym (heads b x c.object.found))
    (inr (inl (record { layout = layout; found = c.object.desc; decided = c.object.decided; unsealed = c.object.unsealed; laid_out = c.laid }))))
    (λ d z other h live. subst (λ (k : HeaderWords). Keeps (new_memory store b i v) layouts k.desc k.cell z) (sym (heads d z h))
    (keeps-agree (new_memory store b i v) (old_memory store) layouts (header_in store d).desc (header_in store d).cell z c.object.are_layouts
    (other_cell store layouts b layout heap x i v c.object c.within d z other h live)
    (c.object.holds.stands.kept d z h live)))

-- a cell lies in a region of as many bytes, behind as many headers
lies-same : (bytes bytes' made made' cell cell' words words' : ℕ) → bytes ≡ bytes' → made ≡ made' → cell ≡ cell' → words ≡ words'
    → LiesIn 0 bytes made cell words → LiesIn 0 bytes' made' cell' words'
lies-same bytes bytes' made made' cell cell' words words' p q r s lies = record {
  aligned = subst (λ (n : ℕ). n % 4 ≡ 0) r lies.aligned;
  behind = let h = lies.behind in omega arith;
  within = let h = lies.within in omega arith;
}

new_inside : (store : Store) (layouts : Layouts) (b : ℕ) (layout : Layout) (heap : Heap) (x : Block) (i v : ℕ) (bytes bases : List ℕ)
    → Changes store layouts b layout heap x i v bytes bases
    → (c : ℕ) (z : Block) → block_at (with_block heap b (with_content x bytes bases)) c ≡ Some z → is_live_object z ≡ true
    → LiesIn 0 (4 * length (set store.words (cell_place store b i) v)) (length (with_block heap b (with_content x bytes bases)).blocks)
    (header_of (new_memory store b i v) 0 c).cell (2 * words_of z.size)
new_inside store layouts b layout heap x i v bytes bases c d z h live =
    let before = was heap b x bytes bases c.object.found d z h in
    let head = same_headers store layouts b layout heap x i v c.object d before.old before.found in
    lies-same _ _ _ _ _ _ _ _
    (ap (λ (n : ℕ). 4 * n) (sym (length-set store.words (cell_place store b i) v)))
    (sym (length-with_block heap b (with_content x bytes bases)))
    (ap (λ (k : HeaderWords). k.cell) (sym head))
    (ap (λ (n : ℕ). 2 * words_of n) before.size)
    (c.object.holds.stands.inside d before.old before.found (before.live live))

-- two cells that do not overlap
apart-same : (p q p' q' m n m' n' : ℕ) → p ≡ p' → q ≡ q' → m ≡ m' → n ≡ n' → (p + 8 * words_of m ≤ q) ⊎ (q + 8 * words_of n ≤ p)
    → (p' + 8 * words_of m' ≤ q') ⊎ (q' + 8 * words_of n' ≤ p')
apart-same p q p' q' m n m' n' d e f g (inl below) = inl (rw (sym d, sym e, sym f) below)
apart-same p q p' q' m n m' n' d e f g (inr above) = inr (rw (sym d, sym e, sym g) above)

new_apart : (store : Store) (layouts : Layouts) (b : ℕ) (layout : Layout) (heap : Heap) (x : Block) (i v : ℕ) (bytes bases : List ℕ)
    → Changes store layouts b layout heap x i v bytes bases
    → (d e : ℕ) (y z : Block) → block_at (with_block heap b (with_content x bytes bases)) d ≡ Some y → block_at (with_block heap b (with_content x bytes bases)) e ≡ Some z
    → is_live_object y ≡ true → is_live_object z ≡ true → d ≢ e
    → ((header_of (new_memory store b i v) 0 d).cell + 8 * words_of y.size ≤ (header_of (new_memory store b i v) 0 e).cell)
    ⊎ ((header_of (new_memory store b i v) 0 e).cell + 8 * words_of z.size ≤ (header_of (new_memory store b i v) 0 d).cell)
new_apart store layouts b layout heap x i v bytes bases c d e y z at_d at_e live_y live_z other =
    let first = was heap b x bytes bases c.object.found d y at_d in
    let second = was heap b x bytes bases c.object.found e z at_e in
    let heads = same_headers store layouts b layout heap x i v c.object in
    apart-same _ _ _ _ _ _ _ _
    (ap (λ (k : HeaderWords). k.cell) (sym (heads d first.old first.found)))
    (ap (λ (k : HeaderWords). k.cell) (sym (heads e second.old second.found)))
    first.size
    second.size
    (c.object.holds.stands.apart d e first.old second.old first.found second.found (first.live live_y) (second.live live_z) other)

-- A word of the object's cell is changed, and its cell then holds the object with other content.
pub object_kept : (store : Store) (layouts : Layouts) (b : ℕ) (layout : Layout) (heap : Heap) (x : Block) (i v : ℕ) (bytes bases : List ℕ)
    → HoldsObject store layouts b layout heap x → i < 2 * words_of x.size → IsFilled (with_content x bytes bases)
    → IsLaidOut (memory_of (set store.words (cell_place store b i) v)) (header_in store b).cell layout (with_content x bytes bases)
    → HoldsObject (with_cell_word store b i v) layouts b layout (with_block heap b (with_content x bytes bases)) (with_content x bytes bases)
object_kept store layouts b layout heap x i v bytes bases object within filled laid =
    let c : Changes store layouts b layout heap x i v bytes bases = record { object = object; within = within; filled = filled; laid = laid } in
    let head = same_headers store layouts b layout heap x i v object b x object.found in
    record {
      are_layouts = object.are_layouts;
      holds = record {
        sound = new_sound store layouts b layout heap x i v bytes bases c;
        stands = record {
          headers = new_headers store layouts b layout heap x i v bytes bases c;
          kept = new_kept store layouts b layout heap x i v bytes bases c;
          inside = new_inside store layouts b layout heap x i v bytes bases c;
          apart = new_apart store layouts b layout heap x i v bytes bases c;
        };
        made = object.holds.made ∙ sym (length-with_block heap b (with_content x bytes bases));
        greatest = object.holds.greatest;
      };
      found = block_at-with_same heap b x (with_content x bytes bases) object.found;
      live = object.live;
      unsealed = object.unsealed;
      decided = subst (λ (h : HeaderWords). 3 ≤ h.desc) (sym head) object.decided;
      desc = subst (λ (h : HeaderWords). layouts h.desc ≡ Some layout) (sym head) object.desc;
      laid_out = subst (λ (h : HeaderWords). IsLaidOut (new_memory store b i v) h.cell layout (with_content x bytes bases)) (sym head) laid;
    }
