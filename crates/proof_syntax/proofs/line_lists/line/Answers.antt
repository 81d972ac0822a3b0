use Rattle.std.proofs.Common.{ap}
use Rattle.heap_syntax.specs.LineTrees.{line_of}
use Rattle.heap_syntax.specs.LineGrammar as commands
use Rattle.heap_syntax.proofs.SeenTrees.{gives-same}
use Rattle.proof_syntax.proofs.SeenTrees.{number_itself, line-same}
use Rattle.proof_syntax.specs.Trees.{Line}
use Rattle.proof_syntax.specs.Grammar.{variable}
use Rattle.proof_syntax.proofs.line_lists.line.Goals as goal

pub returns : goal.returns
returns c = gives-same (λ x. (line_of number_itself x, c.line.new.cursor)) (λ x. (x, c.line.new.cursor))
    (λ x. ap (λ (l : Line). (l, c.line.new.cursor)) (line-same x)) c.line.result
    ((commands.line c.args.version variable).read c.args.cursor.now) c.line.ensures
