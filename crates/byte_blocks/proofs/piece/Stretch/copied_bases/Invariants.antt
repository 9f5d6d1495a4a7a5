use Rattle.std.proofs.Common.{◌≡◌, ◌-◌, ◌++◌}
use Rattle.c_memory.specs.Copying.{copied_bases}
use Rattle.byte_blocks.proofs.piece.Stretch.copied_bases.Given as goal

-- the bases so far, and then those of the words that are left, are those of all
abbrev pub invariant-loop-word : goal.invariant-loop-word
invariant-loop-word l =
    l.bases.items ++ copied_bases (l.end - l.word) l.source l.self.to l.self.from l.self.n l.word
    ≡ copied_bases (l.end - l.first) l.source l.self.to l.self.from l.self.n l.first
