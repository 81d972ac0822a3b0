-- What a contract sees of statements as trees.
use Rattle.std.specs.Prelude.{◌⊎◌}
use Rattle.std.proofs.Common.{inl, inr}
use Rattle.proof_syntax.specs.Trees.{Definition, Line, End, Node, definition_of, end_of, node_of}
use Rattle.proof_syntax.specs.declared.statements.tree.EndOrNode.{EndOrNode}
use Rattle.proof_syntax.specs.declared.statements.tree.EndOrNode.TheVariants as third
use Rattle.proof_syntax.specs.declared.statements.tree.LineOrLater.{LineOrLater}
use Rattle.proof_syntax.specs.declared.statements.tree.LineOrLater.TheVariants as second
use Rattle.proof_syntax.specs.declared.statements.tree.PredOrLater.{PredOrLater}
use Rattle.proof_syntax.specs.declared.statements.tree.PredOrLater.TheVariants as first
use Rattle.proof_syntax.specs.declared.statements.tree.NodeOrLast.{NodeOrLast}
use Rattle.proof_syntax.specs.declared.statements.tree.NodeOrLast.TheVariants as fourth

abbrev pub end_or_node_of : EndOrNode → End ⊎ Node
end_or_node_of (third.End e) = inl (end_of e)
end_or_node_of (third.Node n) = inr (node_of n)

abbrev pub line_or_later_of : LineOrLater → Line ⊎ (End ⊎ Node)
line_or_later_of (second.Line l) = inl l
line_or_later_of (second.Later s) = inr (end_or_node_of s)

abbrev pub pred_or_later_of : PredOrLater → Definition ⊎ (Line ⊎ (End ⊎ Node))
pred_or_later_of (first.Pred d) = inl (definition_of d)
pred_or_later_of (first.Later s) = inr (line_or_later_of s)

abbrev pub node_or_last_of : NodeOrLast → Node ⊎ Unit {0}
node_or_last_of (fourth.Node n) = inl (node_of n)
node_or_last_of fourth.Last = inr tt
