use Rattle.std.proofs.Common.{◌≡◌, ◌++◌, map, take}
use Rattle.rv_asm.specs.Items.{line}
use Rattle.rv_asm.proofs.assembler.Assembler.emit_all.Given as goal

abbrev pub invariant-insts : goal.invariant-insts
invariant-insts l = l.self ≡ record l.fn.self { items = l.fn.self.items ++ map line (take l.inst-index l.insts) }
