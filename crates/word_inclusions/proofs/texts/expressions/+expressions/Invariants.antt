use Rattle.std.proofs.Common.{◌+◌, ◌*◌}
use Rattle.word_inclusions.proofs.texts.expressions.+expressions.Given as goal

abbrev pub decreases-bracket : goal.decreases-bracket
decreases-bracket l = 3 * l.depth + 1

abbrev pub decreases-expression : goal.decreases-expression
decreases-expression l = 3 * l.depth

abbrev pub decreases-factor : goal.decreases-factor
decreases-factor l = 3 * l.depth + 2

abbrev pub decreases-product : goal.decreases-product
decreases-product l = 3 * l.depth + 1

abbrev pub decreases-sum : goal.decreases-sum
decreases-sum l = 3 * l.depth + 1
