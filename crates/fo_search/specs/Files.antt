-- The nodes of a derivation as the nodes of a proof.
use Rattle.std.specs.Prelude.{List}
use Rattle.fo_formula.specs.declared.nodes.FoReason.{FoReason}
use Rattle.fo_formula.specs.declared.sequents.FoSequent.{FoSequent}
use Rattle.fo_formula.specs.Nodes.{FoNode}
use Rattle.fo_logic.specs.FirstOrder.{target_of}
use Rattle.derivations.specs.Tableau.{Tableau}
use Rattle.derivations.specs.LogicNodes.{proof_nodes as nodes_of}

-- the nodes of a derivation without open goals
abbrev pub proof_nodes : Tableau FoSequent FoReason → List FoNode
proof_nodes tableau = nodes_of target_of tableau
