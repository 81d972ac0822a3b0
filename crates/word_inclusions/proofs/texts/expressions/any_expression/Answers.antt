use Rattle.word_inclusions.specs.Grammar.{read_any}
use Rattle.word_inclusions.proofs.texts.expressions.any_expression.Goals as goal

pub returns : goal.returns
unfolding read_any
returns c = c.expression.ensures
