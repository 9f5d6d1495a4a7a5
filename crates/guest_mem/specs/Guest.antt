-- Guest memory: what the bytes at an address are, what a store leaves, and when an access is refused.
-- Read it beside the RISC-V manual: addresses are numbers below 2 ^ 32, and sizes are in bytes.
use Rattle.std.specs.Prelude.{◌≡◌, ℕ, zero, suc, ◌+◌, ◌*◌, ◌-◌, ◌/◌, ◌%◌, ◌==◌, nat_le, ◌&&◌, if◌then◌else◌, List, [], ◌∷◌, ◌++◌, length, take, drop, map, replicate, Bool, Option, Some, None, is_some, is_ok, IsTrue, Result, Ok, Err}
use Rattle.std.specs.Option.{option_map}
use Rattle.fsc_base.specs.declared.image.Segment.{Segment}
use Rattle.fsc_base.specs.declared.image.Image.{Image}
use Rattle.guest_mem.specs.declared.right.Right.{Right}
use Rattle.guest_mem.specs.declared.right.Right.TheVariants.{Execute, Write, Read}
use Rattle.guest_mem.specs.declared.fault.Fault.{Fault}
use Rattle.guest_mem.specs.declared.fault.Fault.TheVariants as fault
use Rattle.guest_mem.specs.declared.fault.StoreNo.{StoreNo}
use Rattle.guest_mem.specs.declared.fault.StoreNo.TheVariants as no
use Rattle.guest_mem.specs.Regions.{Region}
use Rattle.guest_mem.specs.Rights.{flag_of}

-- n bytes from an address on all lie in the region, and it gives the right
abbrev pub contains : Region → Right → (at n : ℕ) → Bool
contains region right at n =
    (region.flags / flag_of right % 2 == 1) && (nat_le region.address at && nat_le (at + n) (region.address + length region.bytes))

-- n bytes of a region from an address on
abbrev pub part : Region → (at n : ℕ) → List ℕ
part region at n = take n (drop (at - region.address) region.bytes)

-- a list with these bytes in it from a place on
abbrev pub overwritten : List ℕ → (place : ℕ) → List ℕ → List ℕ
overwritten all place bytes = take place all ++ (bytes ++ drop (place + length bytes) all)

-- a region with these bytes in it from an address on
abbrev pub with_part : Region → (at : ℕ) → List ℕ → Region
with_part region at bytes = record region { bytes = overwritten region.bytes (at - region.address) bytes }

-- n bytes of memory from an address on: those of the first region that has them all and gives the right. Any address has
-- 0 bytes.
unfoldable pub bytes_at : List Region → Right → (at n : ℕ) → Option (List ℕ)
bytes_at [] right at n = if n == 0 then Some [] else None
bytes_at (region ∷ regions) right at n = if contains region right at n then Some (part region at n) else bytes_at regions right at n

-- memory with these bytes in it from an address on: in the first region that has as many there and may be written. 0 bytes
-- go anywhere.
unfoldable pub with_bytes : List Region → (at : ℕ) → List ℕ → Option (List Region)
with_bytes [] at bytes = if length bytes == 0 then Some [] else None
with_bytes (region ∷ regions) at bytes =
    if contains region Write at (length bytes)
    then Some (with_part region at bytes ∷ regions)
    else option_map (λ (others : List Region). region ∷ others) (with_bytes regions at bytes)

-- n bytes from an address on all lie in one region that gives the right, or n is 0
abbrev pub covers : List Region → Right → (at n : ℕ) → Bool
covers regions right at n = is_some (bytes_at regions right at n)

-- the number that bytes spell, the lowest byte first
abbrev pub little_endian : List ℕ → ℕ
little_endian [] = 0
little_endian (byte ∷ bytes) = byte + 256 * little_endian bytes

-- the n lowest bytes of a number, the lowest first
abbrev pub little_endian_bytes : (n value : ℕ) → List ℕ
little_endian_bytes zero value = []
little_endian_bytes (suc n) value = value % 256 ∷ little_endian_bytes n (value / 256)

-- the number that the bytes spell, where they are in memory
abbrev pub number_in : Option (List ℕ) → Result ℕ Fault
number_in None = Err fault.Outside
number_in (Some bytes) = Ok (little_endian bytes)

-- what an access of this width gives, the right asked for
abbrev pub number_at : (width : ℕ) → List Region → Right → (at : ℕ) → Result ℕ Fault
number_at width regions right at =
    if at % width == 0 then number_in (bytes_at regions right at width) else Err fault.Misaligned

-- what a load of this many bytes gives
unfoldable pub loaded : (width : ℕ) → List Region → (at : ℕ) → Result ℕ Fault
loaded width regions at = number_at width regions Read at

-- what the fetch of an instruction gives
unfoldable pub fetched : List Region → (at : ℕ) → Result ℕ Fault
fetched regions at = number_at 4 regions Execute at

-- the memory that is left, where the bytes could be put
abbrev pub memory_in : Option (List Region) → Result (List Region) Fault
memory_in None = Err fault.Outside
memory_in (Some regions) = Ok regions

-- what a store of these bytes leaves, at this width
abbrev pub stored_bytes : (width : ℕ) → List Region → (at : ℕ) → List ℕ → Result (List Region) Fault
stored_bytes width regions at bytes =
    if at % width == 0 then memory_in (with_bytes regions at bytes) else Err fault.Misaligned

-- what a store of this many bytes leaves, the lowest of a value
unfoldable pub stored : (width : ℕ) → List Region → (at value : ℕ) → Result (List Region) Fault
stored width regions at value = stored_bytes width regions at (little_endian_bytes width value)

-- How a store goes: it leaves what it is to leave, or it is refused and leaves memory as it was. Want of memory refuses only
-- what nothing else refuses.
abbrev pub Stores : Result (List Region) Fault → (old new : List Region) → Result (Unit {0}) StoreNo → Type 0
Stores said old new (Ok _) = said ≡ Ok new
Stores said old new (Err no.Misaligned) = (said ≡ Err fault.Misaligned) × (new ≡ old)
Stores said old new (Err no.Outside) = (said ≡ Err fault.Outside) × (new ≡ old)
Stores said old new (Err no.NoMemory) = IsTrue (is_ok said) × (new ≡ old)

-- a region of zeros
abbrev pub blank_region : (address flags size : ℕ) → Region
blank_region address flags size = record { address = address; flags = flags; bytes = replicate size 0 }

-- a segment in memory: its bytes, and then zeros to its size
abbrev pub region_of : Segment → Region
region_of segment = record {
  address = segment.address;
  flags = segment.flags;
  bytes = segment.bytes ++ replicate (segment.size - length segment.bytes) 0;
}

-- the memory of an image: its segments, in their order
abbrev pub memory_of : Image → List Region
memory_of image = map region_of image.segments
