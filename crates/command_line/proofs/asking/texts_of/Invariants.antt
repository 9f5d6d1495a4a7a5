use Rattle.std.proofs.Common.{◌≡◌, map, take, All}
use Rattle.std.specs.Str.{IsUtf8}
use Rattle.command_line.proofs.asking.texts_of.Given as goal

abbrev pub invariant-loop-word : goal.invariant-loop-word
invariant-loop-word l = record {
  same : map (λ text. text.now) l.texts.items ≡ take l.word-index l.words;
  utf8 : All IsUtf8 (take l.word-index l.words);
}
