use Rattle.piecewise_lex.proofs.Fed.{tells-tokens}
use Rattle.piecewise_lex.proofs.lexer.feed_law.Goals as goal

pub returns : goal.returns
returns c calls new last h ends = tells-tokens new calls last h ends
