-- Near and away accesses: which accesses fit the shape of their block, and so need no look at its layout.
use Rattle.std.specs.Prelude.{ℕ, ◌+◌, ◌*◌, ◌%◌, ◌==◌, nat_lt, ◌&&◌, ◌||◌, not, if◌then◌else◌, Bool, true, false, List, [], ◌∷◌, length, Option, Some, None}
use Rattle.fsc_base.specs.declared.word.Word.{Word}
use Rattle.fsc_base.specs.declared.word.Width.{Width}
use Rattle.fsc_base.specs.declared.word.WordKind.{WordKind}
use Rattle.fsc_base.specs.declared.word.WordKind.TheVariants.{Fat, Narrow}
use Rattle.c_memory.specs.Blocks.{Block, Heap, block_at}
use Rattle.c_memory.specs.Access.{bytes_of, distance, is_within, offset_of}
use Rattle.c_shapes.specs.Watch.{Watch, shape_at, decided}

-- An access through a pointer, as the text has it: the word and the width of the access; how many bytes the access lies
-- behind the place that the pointer names, by the members that were taken; the shape of the type that the pointer points to;
-- and whether it is a write.
pub record Reach : Type 0 where
  pub at : Word
  pub width : Width
  pub member : ℕ
  pub kinds : List WordKind
  pub is_write : Bool

-- ---- equal shapes

abbrev pub is_same_kind : (left right : WordKind) → Bool
is_same_kind Fat Fat = true
is_same_kind Narrow Narrow = true
is_same_kind Fat Narrow = false
is_same_kind Narrow Fat = false

abbrev pub are_same : (left right : List WordKind) → Bool
are_same [] [] = true
are_same [] (kind ∷ right) = false
are_same (kind ∷ left) [] = false
are_same (kind ∷ left) (other ∷ right) = is_same_kind kind other && are_same left right

-- the block is decided, and as this shape
abbrev pub is_decided_as : List WordKind → Option (List WordKind) → Bool
is_decided_as kinds None = false
is_decided_as kinds (Some shape) = are_same shape kinds

-- ---- near accesses

-- all bytes lie in a live object, and a write finds it unsealed
abbrev pub is_allowed : Block → (offset n : ℕ) → (is_write : Bool) → Bool
is_allowed block offset n is_write = is_within block offset n && not (is_write && block.is_sealed)

-- the pointer names the first byte of a whole repetition of the shape in the block; with one word each place will do
abbrev pub is_rooted : Block → (root : ℕ) → List WordKind → Bool
is_rooted block root kinds = (length kinds == 1) || (nat_lt root block.size && (root % (4 * length kinds) == 0))

-- an access of n bytes at an offset in the block fits the block's shape
abbrev pub fits_in : Option Block → (offset n : ℕ) → Reach → Bool
fits_in None offset n reach = false
fits_in (Some block) offset n reach =
    is_allowed block offset n reach.is_write && ((offset % n == 0) && is_rooted block (distance offset reach.member) reach.kinds)

-- An access is near where its block is live and decided as the type's shape, it is allowed and aligned, and its pointer
-- names the start of a repetition of the shape. Every other access is away.
abbrev pub is_near : Heap → Watch → Reach → Bool
is_near heap watch reach =
    is_decided_as reach.kinds (shape_at watch reach.at.block)
    && fits_in (block_at heap reach.at.block) (offset_of heap reach.at) (bytes_of reach.width) reach

-- ---- counting

-- one more access is away, where it is not near
abbrev pub counted : Watch → (is_near : Bool) → Watch
counted watch is_near = record watch { away = if is_near then watch.away else watch.away + 1 }

-- What an access leaves of the watch, also one that fails: it decides its block first, and then it is counted where it is
-- away.
abbrev pub watched : Heap → Watch → Reach → Watch
watched heap watch reach =
    let after = decided heap watch reach.at.block reach.kinds in
    counted after (is_near heap after reach)

-- the same, with the parts of the access one by one
unfoldable pub watched_access : Heap → Watch → (at : Word) → Width → (member : ℕ) → (kinds : List WordKind) → (is_write : Bool) → Watch
watched_access heap watch at width member kinds is_write =
    watched heap watch (record { at = at; width = width; member = member; kinds = kinds; is_write = is_write })

-- the shape of a block of extra words: one fat word
abbrev pub extra_shape : List WordKind
extra_shape = Fat ∷ []
