-- Reading: the image of a file that has no fault, or its fault.
use Rattle.std.specs.Prelude.{◌≡◌, ℕ, List, Option, Some, None, Result, Ok, Err}
use Rattle.fsc_base.specs.declared.image.Image.{Image}
use Rattle.elf_image.specs.declared.fault.ReadElfNo.{ReadElfNo}
use Rattle.elf_image.specs.declared.fault.ReadElfNo.TheVariants.{Bad, NoMemory}
use Rattle.elf_image.specs.Fields.{file_header_at, segments_before}
use Rattle.elf_image.specs.Faults.{table_of, first_fault}

-- the entry, and the segments of the program headers that are loaded, in their order
abbrev pub image_of : List ℕ → Image
image_of file =
    let header = file_header_at file in
    record { entry = header.entry; segments = segments_before file header.count }

abbrev pub unless : Option ReadElfNo → Image → Result Image ReadElfNo
unless None image = Ok image
unless (Some fault) image = Err fault

-- the image, unless the file has a fault
unfoldable pub image_at : List ℕ → Result Image ReadElfNo
image_at file = unless (first_fault (table_of file)) (image_of file)

-- what a function returned is what reading gives, unless memory ran out
abbrev pub Gives : Result Image ReadElfNo → Result Image ReadElfNo → Type 0
Gives (Ok image) read = read ≡ Ok image
Gives (Err NoMemory) read = Unit {0}
Gives (Err (Bad fault offset)) read = read ≡ Err (Bad fault offset)
