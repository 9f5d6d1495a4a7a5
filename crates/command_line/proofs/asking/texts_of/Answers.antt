use Rattle.command_line.proofs.TextLemmas.{texts_more, usage_here, utf8_all, utf8_more}
use Rattle.command_line.proofs.asking.texts_of.Goals as goal

pub returns-in_err-text_of-clause-usage : goal.returns-in_err-text_of-clause-usage
returns-in_err-text_of-clause-usage c =
    usage_here c.from_residual.result c.in_err-text_of.field-0.0 c.args.words.now c.loop-word.word-index c.word-item.result c.loop-word-test.true
    c.word-item.is c.in_err-text_of.ensures.usage c.from_residual.ensures.1

pub loop-word-preserved : goal.loop-word-preserved
loop-word-preserved c = record {
  same = rw c.in_ok-push.ensures.items
      (texts_more c.args.words.now c.loop-word.word-index c.word-item.result c.loop-word.texts.items c.in_ok-text_of.field-0 c.loop-word-test.true c.word-item.is
      c.in_ok-text_of.ensures.found c.loop-word.invariant.same);
  utf8 = utf8_more c.args.words.now c.loop-word.word-index c.word-item.result c.loop-word-test.true c.word-item.is c.in_ok-text_of.ensures.utf8
      c.loop-word.invariant.utf8;
}

pub returns-clause-utf8 : goal.returns-clause-utf8
returns-clause-utf8 c = utf8_all c.args.words.now c.loop-word.word-index c.loop-word-test.false c.loop-word.invariant.utf8
