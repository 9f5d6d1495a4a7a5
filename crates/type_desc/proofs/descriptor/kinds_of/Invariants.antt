use Rattle.std.proofs.Common.{◌≡◌, take, map}
use Rattle.type_desc.specs.Descriptors.{byte_of}
use Rattle.type_desc.proofs.descriptor.kinds_of.Given as goal

abbrev pub invariant-loop-byte : goal.invariant-loop-byte
invariant-loop-byte l = map byte_of l.kinds.items ≡ take l.byte-index l.bytes
