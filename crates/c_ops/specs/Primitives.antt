-- The primitives.
use Rattle.std.specs.Prelude.{ℕ}
use Rattle.c_ops.specs.declared.primitive.Primitive.{Primitive}
use Rattle.c_ops.specs.declared.primitive.Primitive.TheVariants.{Put, Get, Alloc, Release, Size, Copy, Exit, Abort, Extra}

-- how many arguments each takes
abbrev pub arguments_of : Primitive → ℕ
arguments_of Put = 1
arguments_of Get = 0
arguments_of Alloc = 1
arguments_of Release = 1
arguments_of Size = 1
arguments_of Copy = 3
arguments_of Exit = 1
arguments_of Abort = 0
arguments_of Extra = 0
