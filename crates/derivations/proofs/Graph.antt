-- The trace graph of the proof is that of the nodes made.
use Rattle.std.proofs.Common.{◌≡◌, ℕ, List, [], ◌∷◌, map, Option, Some, None, slice_get, refl, sym, ap, ◌∙◌, arith}
use Rattle.std.proofs.lemmas.List.{length-map}
use Rattle.std.proofs.lemmas.Option.{slice_get_within}
use Rattle.trace_pairs.specs.Graph.{Node, Edge}
use Rattle.buchi_core.proofs.Lists.{get_one}
use Rattle.logics.specs.declared.premises.Subgoal.{Subgoal}
use Rattle.logics.specs.declared.node.ProofNode.{ProofNode}
use Rattle.logics.specs.Logics.{LogicValue}
use Rattle.logics.specs.Graphs.{edges_to, rule_edges, link_edges, companion_edges, reason_edges, graph_node, graph_of}
use Rattle.derivations.specs.Tableau.{Made, Tableau}
use Rattle.derivations.proofs.Joined.{same_lists}
use Rattle.derivations.proofs.Made.{AllLead}
use Rattle.derivations.specs.Calculus.{judgement_of}
use Rattle.derivations.specs.LogicNodes.{numbers_by, proof_node}
use Rattle.derivations.proofs.LogicMade.{IsBy, IsNode, AreNodes}
use Rattle.derivations.proofs.LogicRows.{rows, length-rows, node_at}
use Rattle.cyc_basics.proofs.Places.{get_within, get_map}

-- the edges to the premises' nodes are those of the trace graph
edges_same : {J R : Type 0} (nodes : List (Made J R)) (v : ℕ) (ps : List (Subgoal J)) (es : List Edge)
    → AllLead nodes v ps es →
    edges_to ps (map (λ (e : Edge). e.target) es) ≡ es
edges_same nodes v [] [] led = refl
edges_same nodes v [] (e ∷ es) led = absurd led
edges_same nodes v (p ∷ ps) [] led = absurd led
edges_same nodes v (p ∷ ps) (e ∷ es) led =
    let first : p.pairs ≡ e.pairs = sym led.0.pairs in
    let rest = edges_same nodes v ps es led.1 in λ i. record { target = e.target; pairs = first i } ∷ rest i

module _ {J R F : Type 0} (c : LogicValue J R F) (b : Tableau J R) (all' : AreNodes c b) where
  abbrev nodes : List (ProofNode J R)
  nodes = rows c b all'

  reason_same : (v : ℕ) (j : J) (r : R) (o : Option ℕ) (es : List Edge) → IsBy c b.nodes v j r o es →
      reason_edges c nodes (numbers_by o es) j r o ≡ es
  reason_same v j r None es by =
      ap (rule_edges (map (λ (e : Edge). e.target) es)) by.is_answer ∙ edges_same b.nodes v by.premises es by.edges
  reason_same v j r (Some target) es by =
      let made = all'.each target by.companion by.is_companion in
      ap (companion_edges c j r target) (node_at c b all' target by.companion made by.is_companion)
      ∙ (ap (link_edges target) by.is ∙ sym by.edge)

  node_same : (v : ℕ) (m : Made J R) (made : IsNode c b v m)
      → graph_node c nodes (proof_node c.target made.traces m) ≡ made.traces
  node_same v m made =
      let edges = reason_same v (judgement_of m) m.reason (c.target m.reason) made.traces.edges made.by in
      λ i. record { positions = sym made.positions i; edges = edges i }

  pub graph_same : graph_of c nodes ≡ b.graph
  graph_same = same_lists (graph_of c nodes) b.graph
      (length-map nodes (graph_node c nodes) ∙ (length-rows c b all' ∙ sym all'.size)) each
    where
      each : (v : ℕ) (x y : Node) → slice_get (graph_of c nodes) v ≡ Some x → slice_get b.graph v ≡ Some y → x ≡ y
      each v x y at at' =
          let less = slice_get_within b.graph v y at' in
          let m = get_within b.nodes v (omega (arith, less, all'.size)) in
          let made = all'.each v m.0 m.1 in
          let here = get_map (graph_node c nodes) nodes v (proof_node c.target made.traces m.0)
          (node_at c b all' v m.0 made m.1) in
          get_one (graph_of c nodes) v x (graph_node c nodes (proof_node c.target made.traces m.0)) at here
          ∙ (node_same v m.0 made ∙ get_one b.graph v made.traces y made.is_traces at')
