-- The nodes of a proof.
use Rattle.fo_formula.specs.declared.nodes.FoReason.{FoReason}
use Rattle.fo_formula.specs.declared.sequents.FoSequent.{FoSequent}
use Rattle.logics.specs.declared.node.ProofNode.{ProofNode}

-- what a node states, why that holds, and the numbers of its premises' nodes
abbrev pub FoNode : Type 0
FoNode = ProofNode FoSequent FoReason
