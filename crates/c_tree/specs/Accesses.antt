-- Steps that read, write and copy memory.
use Rattle.std.specs.Prelude.{ℕ, List, ◌∷◌, Option, Some, None, unwrap_or, Result, Ok, Err}
use Rattle.fsc_base.specs.declared.word.Word.{Word}
use Rattle.fsc_base.specs.declared.word.Width.{Width}
use Rattle.fsc_base.specs.declared.word.Width.TheVariants as width
use Rattle.c_memory.specs.declared.access.Outside.{Outside}
use Rattle.c_memory.specs.declared.access.WriteNo.{WriteNo}
use Rattle.c_memory.specs.declared.access.CopyNo.{CopyNo}
use Rattle.c_memory.specs.Blocks.{Heap}
use Rattle.c_memory.specs.Access.{read_of, write_of}
use Rattle.c_memory.specs.Copying.{copy_of}
use Rattle.c_memory.specs.Ends.{outside_end, write_end, copy_end}
use Rattle.c_ops.specs.Bits.{field_of, replaced_in, narrowed_to}
use Rattle.c_ops.specs.Runs.{Action, Stops}
use Rattle.c_tree.specs.declared.expression.Access.{Access}
use Rattle.c_tree.specs.declared.expression.Access.TheVariants.{Scalar, Bits}
use Rattle.c_tree.specs.Rows.{Todo, next, Writes}
use Rattle.c_tree.specs.States.{State, steps, changes}

-- ---- what follows

-- a word was read, and becomes the value that is given; or the run ends
abbrev pub after_read : State → Todo → List Word → (Word → Word) → Result Word Outside → Action State
after_read s rest words fit (Ok word) = steps s rest (fit word ∷ words)
after_read s rest words fit (Err at) = Stops (outside_end at)

abbrev pub after_write : (besides : ℕ) → State → Todo → List Word → Result Heap WriteNo → Action State
after_write besides s rest words (Ok heap) = changes besides s rest words heap
after_write besides s rest words (Err refusal) = Stops (write_end refusal)

-- ---- reading

-- the value of an object of this kind: a scalar is extended to 4 bytes, a bit-field is taken from its unit
abbrev pub value_of : Access → Word → Word
value_of (Scalar width is_signed) word = narrowed_to width is_signed word
value_of (Bits first count is_signed) unit = field_of first count is_signed unit

-- how many bytes are read for it
abbrev pub width_of : Access → Width
width_of (Scalar width is_signed) = width
width_of (Bits first count is_signed) = width.Four

abbrev pub reads : Access → (at : Word) → Todo → List Word → State → Action State
reads access at rest words s = after_read s rest words (value_of access) (read_of s.heap at (width_of access))

-- ---- storing

-- a word as an object of this kind holds it
abbrev pub stored_as : Access → Word → Word
stored_as (Scalar width is_signed) word = narrowed_to width is_signed word
stored_as (Bits first count is_signed) word = field_of 0 count is_signed word

-- A store to a bit-field is two steps: its unit is read, and then written with its bits replaced. It gives a word, if any.
abbrev pub reads_unit : (kind member first count : ℕ) → (at word : Word) → (gives : Option Word) → Todo → List Word → State → Action State
reads_unit kind member first count at word gives rest words s =
    after_read s (next (Writes kind member first count word gives) rest) (at ∷ words) (λ (unit : Word). unit) (read_of s.heap at width.Four)

abbrev pub given : Option Word → List Word → List Word
given None words = words
given (Some word) words = word ∷ words

abbrev pub writes_unit : (first count : ℕ) → (unit at word : Word) → (gives : Option Word) → Todo → List Word → State → Action State
writes_unit first count unit at word gives rest words s =
    after_write 0 s rest (given gives words) (write_of s.heap at width.Four (replaced_in first count unit word))

-- A store gives what is named, or else the value that the object has now.
abbrev pub stores : (kind member : ℕ) → Access → (at word : Word) → (gives : Option Word) → Todo → List Word → State → Action State
stores kind member (Scalar width is_signed) at word gives rest words s =
    after_write 0 s rest (unwrap_or gives word ∷ words) (write_of s.heap at width word)
stores kind member (Bits first count is_signed) at word gives rest words s =
    reads_unit kind member first count at word (Some (unwrap_or gives (field_of 0 count is_signed word))) rest words s

-- ---- copying

abbrev pub after_copy : (size : ℕ) → State → Todo → List Word → Result Heap CopyNo → Action State
after_copy size s rest words (Ok heap) = changes size s rest words heap
after_copy size s rest words (Err refusal) = Stops (copy_end refusal)

-- a copy of so many bytes costs these besides the step
abbrev pub copies : (to from : Word) → (size : ℕ) → Todo → List Word → State → Action State
copies to from size rest words s = after_copy size s rest words (copy_of s.heap to from size)
