-- What items come to.
use Rattle.std.specs.Prelude.{◌≡◌, ℕ, ◌+◌, ◌-◌, ◌%◌, ◌^◌, List, [], ◌∷◌, ◌++◌, Option, Some, None, IsSome}
use Rattle.std.specs.List.{flat_map}
use Rattle.std.specs.Int.{w32, to_le_bytes}
use Rattle.rv_isa.specs.declared.inst.Inst.TheVariants.{Auipc, Jalr}
use Rattle.rv_isa.specs.Encoding.{encoding}
use Rattle.rv_asm.specs.declared.item.Item.{Item}
use Rattle.rv_asm.specs.declared.item.Item.TheVariants.{Line, Bind, Leap}
use Rattle.rv_asm.specs.Items.{size_of, place_of}
use Rattle.rv_asm.specs.Parts.{high, low}

-- a jump over a distance
abbrev pub leap_words : (distance link : ℕ) → List ℕ
leap_words distance link = encoding (Auipc 31 (high distance)) ∷ encoding (Jalr link 31 (low distance)) ∷ []

-- a jump from a place to a label's place
abbrev pub leap_to : Option ℕ → (at link : ℕ) → List ℕ
leap_to None at link = []
leap_to (Some to) at link = leap_words ((to + 2 ^ 32 - at) % 2 ^ 32) link

-- the words of an item at a place, where the labels have these places
abbrev pub words_at : (ℕ → Option ℕ) → (at : ℕ) → Item → List ℕ
words_at places at (Line word) = word ∷ []
words_at places at (Bind label) = []
words_at places at (Leap label link) = leap_to (places label) at link

abbrev pub words_from : (ℕ → Option ℕ) → (at : ℕ) → List Item → List ℕ
words_from places at [] = []
words_from places at (item ∷ items) = words_at places at item ++ words_from places (at + size_of item) items

-- each label that a jump names is bound
abbrev pub IsBound : (ℕ → Option ℕ) → Item → Type 0
IsBound places (Line word) = Unit {0}
IsBound places (Bind label) = Unit {0}
IsBound places (Leap label link) = IsSome (places label)

abbrev pub AreBound : (ℕ → Option ℕ) → List Item → Type 0
AreBound places [] = Unit {0}
AreBound places (item ∷ items) = IsBound places item × AreBound places items

-- words in memory, one behind the other, the lowest byte of each first
abbrev pub bytes_of_words : List ℕ → List ℕ
bytes_of_words words = flat_map (to_le_bytes w32) words

-- bytes with words behind them
abbrev pub Adds : (old new words : List ℕ) → Type 0
Adds old new words = new ≡ old ++ bytes_of_words words

-- bytes with the words of items behind a place, whose labels are bound
abbrev pub AddsItems : (old new : List ℕ) → (ℕ → Option ℕ) → (at : ℕ) → List Item → Type 0
AddsItems old new places at items = AreBound places items × Adds old new (words_from places at items)

-- the bytes of items that are the whole code, whose labels are bound
abbrev pub IsCode : List ℕ → List Item → Type 0
IsCode bytes items = AddsItems [] bytes (place_of items) 0 items
