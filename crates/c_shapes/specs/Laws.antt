-- Laws of shapes, and what five accesses leave of one block's.
use Rattle.std.specs.Prelude.{◌≡◌, ℕ, ◌+◌, List, [], ◌∷◌, replicate, Some, None, Bool, true, false}
use Rattle.fsc_base.specs.declared.word.Word.{Word}
use Rattle.fsc_base.specs.declared.word.Width.{Width}
use Rattle.fsc_base.specs.declared.word.Width.TheVariants.{One, Four}
use Rattle.fsc_base.specs.declared.word.WordKind.{WordKind}
use Rattle.fsc_base.specs.declared.word.WordKind.TheVariants.{Fat, Narrow}
use Rattle.c_memory.specs.declared.kind.BlockKind.TheVariants as maker
use Rattle.c_memory.specs.Blocks.{Block, Heap}
use Rattle.c_shapes.specs.Watch.{Watch, shape_at, decided, copied}
use Rattle.c_shapes.specs.Away.{watched_access}

-- ---- laws

-- a decided shape stays
abbrev pub DecidesOnce : Type 0
DecidesOnce = (heap : Heap) (watch : Watch) (number : ℕ) (kinds shape : List WordKind)
    → shape_at watch number ≡ Some shape → decided heap watch number kinds ≡ watch

-- deciding counts no access
abbrev pub DecidingIsNoAccess : Type 0
DecidingIsNoAccess = (heap : Heap) (watch : Watch) (number : ℕ) (kinds : List WordKind) → (decided heap watch number kinds).away ≡ watch.away

-- a copy of no bytes decides nothing
abbrev pub EmptyCopyDecidesNothing : Type 0
EmptyCopyDecidesNothing = (heap : Heap) (watch : Watch) (to from : Word) → copied heap watch to from 0 ≡ watch

-- ---- one block of 10 bytes

-- an object that the program asked for
abbrev pub ten_bytes : Block
ten_bytes = record {
  size = 10;
  base = 65536;
  kind = maker.Alloc;
  is_live = true;
  is_sealed = false;
  bytes = replicate 10 0;
  bases = replicate 3 0;
}

-- it is block 1, and not decided yet
abbrev pub one_object : Heap
one_object = record { blocks = ten_bytes ∷ []; greatest = replicate 30 0 }

abbrev pub nothing_decided : Watch
nothing_decided = record { shapes = None ∷ []; away = 0 }

-- an access of block 1 at an offset, through a pointer to a type of this shape
abbrev pub access_at : (offset : ℕ) → Width → (member : ℕ) → List WordKind → (is_write : Bool) → Watch → Watch
access_at offset width member kinds is_write watch =
    watched_access one_object watch (record { value = 65536 + offset; block = 1 }) width member kinds is_write

-- of struct s{char c;int i;}; and of char and int
abbrev pub struct_shape : List WordKind
struct_shape = Narrow ∷ Fat ∷ []

abbrev pub char_shape : List WordKind
char_shape = Narrow ∷ []

abbrev pub int_shape : List WordKind
int_shape = Fat ∷ []

-- p[0].c=1;p[0].i=2;p[1].c=7; with struct s *p: the first decides the block, and all are near
abbrev pub three_near : Watch
three_near = access_at 8 One 0 struct_shape true (access_at 4 Four 4 struct_shape true (access_at 0 One 0 struct_shape true nothing_decided))

-- and then b[5] and *w with char *b=(char*)p and int *w=(int*)(b+3)
abbrev pub two_away : Watch
two_away = access_at 3 Four 0 int_shape false (access_at 5 One 0 char_shape false three_near)

abbrev pub FiveAccesses : Type 0
FiveAccesses = (three_near ≡ record { shapes = Some struct_shape ∷ []; away = 0 }) × (two_away ≡ record { shapes = Some struct_shape ∷ []; away = 2 })

-- an access behind the end decides the block although it fails, and is away
abbrev pub FailingAccess : Type 0
FailingAccess = access_at 8 Four 0 int_shape true nothing_decided ≡ record { shapes = Some int_shape ∷ []; away = 1 }

-- an access without a block decides nothing, and is away
abbrev pub AccessOfNothing : Type 0
AccessOfNothing =
    watched_access one_object nothing_decided (record { value = 65536; block = 0 }) Four 0 int_shape false
    ≡ record { shapes = None ∷ []; away = 1 }

-- a struct whose pointer names no start of a repetition: (struct s*)(b+4) and its member c
abbrev pub MisplacedRoot : Type 0
MisplacedRoot = access_at 4 One 0 struct_shape false nothing_decided ≡ record { shapes = Some struct_shape ∷ []; away = 1 }
