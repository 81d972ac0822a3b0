use Rattle.std.proofs.Common.{List, ap, ◌∙◌}
use Rattle.std.proofs.lemmas.Result.{IfOk-weaker}
use Rattle.trace_pairs.specs.Graph.{Node}
use Rattle.derivations.specs.LogicNodes.{nodes_with}
use Rattle.derivations.proofs.found.searching.proof_of.Goals as goal

pub returns : goal.returns
returns g c =
    IfOk-weaker c.nodes_made.result _ _ (λ v e. e ∙ ap (λ (ns : List Node). nodes_with
    (g.L.Logic.logic c.args.logic.now).target ns c.args.moves.made.items) c.in_ok-graph.ensures)
    c.nodes_made.ensures
