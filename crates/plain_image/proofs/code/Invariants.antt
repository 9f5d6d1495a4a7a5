use Rattle.std.proofs.Common.{◌≡◌, ◌++◌, take}
use Rattle.std.specs.List.{flat_map}
use Rattle.rv_isa.specs.Spelling.{spelled}
use Rattle.plain_image.specs.Code.{prologue, write_byte}
use Rattle.plain_image.proofs.code.Given as goal

-- the code of the bytes so far
abbrev pub invariant-loop-byte : goal.invariant-loop-byte
invariant-loop-byte l = l.code.items ≡ spelled (prologue ++ flat_map write_byte (take l.byte-index l.bytes))
