use Rattle.std.proofs.Common.{◌≡◌, ◌++◌, take, map}
use Rattle.type_desc.specs.Descriptors.{byte_of}
use Rattle.type_desc.proofs.descriptor.push_kinds.Given as goal

abbrev pub invariant-loop-kind : goal.invariant-loop-kind
invariant-loop-kind l = l.bytes.items ≡ l.fn.bytes.items ++ map byte_of (take l.kind-index l.kinds)
