-- The nodes of a proof file.
use Rattle.heap_formula.specs.declared.judgements.Judgement.{Judgement}
use Rattle.heap_formula.specs.declared.proof_rules.Reason.{Reason}
use Rattle.logics.specs.declared.node.ProofNode.{ProofNode}

abbrev pub FileNode : Type 0
FileNode = ProofNode Judgement Reason
