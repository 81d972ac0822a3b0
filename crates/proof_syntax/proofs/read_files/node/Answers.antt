use Rattle.std.proofs.Common.{subst}
use Rattle.cyc_grammar.specs.Syntax.{Syntax}
use Rattle.cyc_grammar.specs.Giving.{Gives}
use Rattle.proof_syntax.specs.Trees.{Node, node_of}
use Rattle.proof_syntax.proofs.NodeFronts.{whole-node}
use Rattle.proof_syntax.proofs.read_files.node.Goals as goal

pub returns : goal.returns
returns c = subst (λ (s : Syntax Node). Gives (λ x. (node_of x, c.kept_node.new.cursor)) c.kept_node.result
    (s.read c.args.cursor.now)) whole-node c.kept_node.ensures
