-- Each node made, with its edges: a rule's premises and the later nodes that are made for them, or a link's companion.
use Rattle.std.proofs.Common.{◌≡◌, ℕ, List, [], ◌∷◌, take, Option, Some, None, slice_get, length, sym, ap, subst, ◌∙◌}
use Rattle.std.specs.Prelude.{Ok}
use Rattle.trace_pairs.specs.Graph.{Node, Edge, Pair}
use Rattle.logics.specs.Logics.{LogicValue}
use Rattle.derivations.specs.Tableau.{Subgoal, Made, Tableau}
use Rattle.derivations.specs.Nodes.{AreEdges}
use Rattle.derivations.proofs.Made.{AllLead, all_lead, IsMade}
use Rattle.cyc_basics.proofs.Places.{get_taken}
use Rattle.derivations.specs.Calculus.{Offers, judgement_of, edge_to, premises_by, back_by, calculus_with}
use Rattle.derivations.proofs.Answers.{answer_is, none_with, linked}

module _ {J R F : Type 0} (c : LogicValue J R F) where
  -- node v's rule has premises, and an edge for each
  pub record IsByRule (nodes : List (Made J R)) (v : ℕ) (j : J) (r : R) (es : List Edge) : Type 0 where
    pub premises : List (Subgoal J)
    pub is_answer : c.premises j r ≡ Ok premises
    pub edges : AllLead nodes v premises es

  -- the link leads to one of the nodes, and has no fault
  pub record IsByLink (nodes : List (Made J R)) (j : J) (r : R) (target : ℕ) (es : List Edge) : Type 0 where
    pub companion : Made J R
    pub is_companion : slice_get nodes target ≡ Some companion
    pub pairs : List Pair
    pub is : c.pairs_back j r (judgement_of companion) ≡ Ok pairs
    pub edge : es ≡ record { target = target; pairs = pairs } ∷ []

  abbrev pub IsBy : List (Made J R) → ℕ → J → R → Option ℕ → List Edge → Type 0
  IsBy nodes v j r None es = IsByRule nodes v j r es
  IsBy nodes v j r (Some target) es = IsByLink nodes j r target es

  -- node v, made as m, in the trace graph
  pub record IsNode (b : Tableau J R) (v : ℕ) (m : Made J R) : Type 0 where
    pub traces : Node
    pub is_traces : slice_get b.graph v ≡ Some traces
    pub positions : traces.positions ≡ c.positions (judgement_of m)
    pub by : IsBy b.nodes v (judgement_of m) m.reason (c.target m.reason) traces.edges

  -- the trace graph has a node for each node made
  pub record AreNodes (b : Tableau J R) : Type 0 where
    pub size : length b.graph ≡ length b.nodes
    pub each : (v : ℕ) (m : Made J R) → slice_get b.nodes v ≡ Some m → IsNode b v m

  by_reason : (nodes : List (Made J R)) (v : ℕ) (j : J) (r : R) (o : Option ℕ) (ps : List (Subgoal J)) (es : List Edge)
      →
      premises_by c (take v nodes) j r o ≡ Some ps → AreEdges nodes v ps (back_by c (take v nodes) j r o) es
      → IsBy nodes v j r o es
  by_reason nodes v j r None ps es h edges =
      record { premises = ps; is_answer = answer_is (c.premises j r) ps h; edges = all_lead nodes v ps es edges }
  by_reason nodes v j r (Some target) ps es h edges =
      let edge = none_with (edge_to c j r target (slice_get (take v nodes) target)) ps h in
      let l = linked c (take v nodes) j r target edge.0 edge.1 in
      let one : es ≡ edge.0 ∷ [] = subst (λ (o : Option Edge). AreEdges nodes v ps o es) edge.1 edges in
      record {
        companion = l.companion;
        is_companion = get_taken nodes v target l.companion l.is_companion;
        pairs = l.pairs;
        is = l.is;
        edge = one ∙ ap (λ (e : Edge). e ∷ []) (sym l.edge);
      }

  pub node_made : (links rules : Offers J R) (b : Tableau J R) (v : ℕ) (m : Made J R)
      → IsMade (calculus_with c links rules) b v m → IsNode b v m
  node_made links rules b v m made = record {
    traces = made.edged.node;
    is_traces = made.edged.is_node;
    positions = made.positions;
    by = by_reason b.nodes v (judgement_of m) m.reason (c.target m.reason)
        made.edged.premises made.edged.node.edges made.edged.has made.edged.edges;
  }
