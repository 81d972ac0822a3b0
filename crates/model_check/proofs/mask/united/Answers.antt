use Rattle.std.proofs.Common.{arith}
use Rattle.model_check.specs.WideMasks.{or_words}
use Rattle.model_check.proofs.WideWords.{united_step}
use Rattle.model_check.proofs.mask.united.Goals as goal

pub loop-i-preserved : goal.loop-i-preserved
loop-i-preserved c =
    united_step c.max-width.result c.loop-i.i c.args.words.now c.args.others.now c.loop-i.out.items
    c.push.new.self.items (or_words c.max-width.result c.args.words.now c.args.others.now)
    c.word_at.result c.word_at-in-loop-i.result (omega arith)
    c.loop-i.invariant c.word_at.ensures c.word_at-in-loop-i.ensures c.in_ok-push.ensures.items
