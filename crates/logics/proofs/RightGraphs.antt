-- The graph of nodes without a fault is in order, and the judgements that hold are local in it.
use Rattle.std.proofs.Common.{◌≡◌, ℕ, zero, suc, ◌≤◌, ◌<◌, true, false, List, [], ◌∷◌, map, length, Option, Some, None}
use Rattle.std.proofs.Common.{refl, sym, ap, subst, arith}
use Rattle.std.specs.Prelude.{slice_get}
use Rattle.std.proofs.lemmas.List.{length-map}
use Rattle.std.proofs.lemmas.Option.{slice_get_within}
use Rattle.trace_pairs.specs.Graph.{Node as TraceNode, Edge, Pair, IsGraph, IsLocal, IsPositionSet, Falls}
use Rattle.trace_pairs.specs.System.{AreIn, AreFit, IsFit, IsRight}
use Rattle.trace_pairs.proofs.Orders.{right_graph, right_is, fit_by}
use Rattle.logics.specs.declared.premises.Subgoal.{Subgoal}
use Rattle.logics.specs.declared.node.ProofNode.{ProofNode}
use Rattle.logics.specs.Logics.{LogicValue}
use Rattle.logics.specs.Faults.{node_fault, AreRight}
use Rattle.logics.specs.Graphs.{edges_to, edges_of, graph_node, graph_of}
use Rattle.logics.specs.Laws.{IsInOrder, IsLocallySound, MayStand}
use Rattle.logics.proofs.RightNodes.{ByRule, ByLink, ByReason, edge_leads, premise_edge, node_by}
use Rattle.cyc_basics.proofs.Places.{get_within, get_map}

-- no more edges than premises
edges_short : {J : Type 0} (ps : List (Subgoal J)) (us : List ℕ) → length (edges_to ps us) ≤ length ps
edges_short [] us = omega arith
edges_short (p ∷ ps) [] = omega arith
edges_short (p ∷ ps) (u ∷ us) = let r = edges_short ps us in omega arith

-- the node that a place of a graph comes from
pub record Mapped {X Y : Type 0} (f : X → Y) (xs : List X) (k : ℕ) (y : Y) : Type 0 where
  pub from : X
  pub at : slice_get xs k ≡ Some from
  pub is : f from ≡ y

pub mapped_at : {X Y : Type 0} (f : X → Y) (xs : List X) (k : ℕ) (y : Y) → slice_get (map f xs) k ≡ Some y
    → Mapped f xs k y
mapped_at f xs k y e = with_from (get_within xs k (omega (arith, slice_get_within (map f xs) k y e, length-map xs f)))
  where
    with_from : (x : _) × (slice_get xs k ≡ Some x) → Mapped f xs k y
    with_from m =
        let there = get_map f xs k m.0 m.1 in
        let one : f m.0 ≡ y = cc in
        record { from = m.0; at = m.1; is = one }

module _ {J R F : Type 0} (c : LogicValue J R F) (Occurs : J → Type 0) (Allows : J → R → Type 0)
    (order : IsInOrder c Occurs Allows) (nodes : List (ProofNode J R)) (stand : MayStand Occurs Allows nodes) where
  abbrev g : List TraceNode
  g = graph_of c nodes

  abbrev same : (j k : J) → c.same j k ≡ true → j ≡ k
  same = order.same

  edge_fits : (j : J) (u : ℕ) (node : ProofNode J R) (e : Edge) → slice_get nodes u ≡ Some node → u ≡ e.target
      → AreIn e.pairs (c.positions j) (c.positions node.judgement) → IsFit g (c.positions j) e
  edge_fits j u node e at is pairs =
      fit_by g (c.positions j) e (graph_node c nodes node) u (get_map (graph_node c nodes) nodes u node at) is pairs

  rule_fits : (j : J) (r : R) (us : List ℕ) (edges : List Edge) → Occurs j → Allows j r
      → ByRule c same nodes j r us edges → AreFit g (c.positions j) edges
  rule_fits j r us edges occurs allowed by k e is =
      let lead = edge_leads c same nodes by.premises us by.state k e
      (subst (λ (es : List Edge). slice_get es k ≡ Some e) by.edges_are is) in
      let fit = (order.rules j r by.premises occurs allowed by.is).fit k lead.premise lead.is_premise in
      edge_fits j e.target lead.states.node e lead.states.at refl
      (subst (λ (ps : List Pair). AreIn ps (c.positions j) (c.positions lead.states.node.judgement))
      (sym lead.pairs) (subst (λ (i : J). AreIn lead.premise.pairs (c.positions j) (c.positions i))
      lead.states.is fit))

  link_fits : (j : J) (r : R) (target : ℕ) (edges : List Edge) → Occurs j → Allows j r
      → ByLink c same nodes j r target edges → AreFit g (c.positions j) edges
  link_fits j r target edges occurs allowed by k e is =
      by_place k (subst (λ (es : List Edge). slice_get es k ≡ Some e) by.edges_are is)
    where
      by_place : (k : ℕ) → slice_get (record { target = target; pairs = by.pairs } ∷ []) k ≡ Some e
          → IsFit g (c.positions j) e
      by_place zero h =
          let one : record { target = target; pairs = by.pairs } ≡ e = cc in
          let fit = order.links j r by.companion.judgement by.pairs occurs (stand.occurs target by.companion by.at)
          allowed by.is in
          edge_fits j target by.companion e by.at (ap (λ (x : Edge). x.target) one)
          (subst (λ (x : Edge). AreIn x.pairs (c.positions j) (c.positions by.companion.judgement)) one fit)
      by_place (suc k) h = absurd (let n : None ≡ Some e = h in cc)

  reason_fits : (j : J) (r : R) (us : List ℕ) (o : Option ℕ) (edges : List Edge) → Occurs j → Allows j r
      → ByReason c same nodes j r us o edges → AreFit g (c.positions j) edges
  reason_fits j r us None edges occurs allowed by = rule_fits j r us edges occurs allowed by
  reason_fits j r us (Some target) edges occurs allowed by = link_fits j r target edges occurs allowed by

  reason_few : (j : J) (r : R) (us : List ℕ) (o : Option ℕ) (edges : List Edge) → Occurs j → Allows j r
      → ByReason c same nodes j r us o edges → length edges ≤ 256
  reason_few j r us None edges occurs allowed by =
      let few = (order.rules j r by.premises occurs allowed by.is).few in
      let short = edges_short by.premises us in
      omega (arith, ap length by.edges_are)
  reason_few j r us (Some target) edges occurs allowed by = omega (arith, ap length by.edges_are)

  -- a node is right where it has no fault and its positions are a set
  pub node_right : (v : ℕ) (node : ProofNode J R) → slice_get nodes v ≡ Some node → node_fault c nodes v node ≡ None
      → IsPositionSet (c.positions node.judgement) → IsRight g (graph_node c nodes node)
  node_right v node at none set =
      let by = node_by c same nodes v node none in
      let occurs = stand.occurs v node at in
      let allowed = stand.allowed v node at in
      right_is g (graph_node c nodes node) (reason_few node.judgement node.reason node.premises (c.target node.reason)
      (edges_of c nodes node) occurs allowed by) set
      (reason_fits node.judgement node.reason node.premises (c.target node.reason) (edges_of c nodes node)
      occurs allowed by)

  -- the graph of right nodes is in order
  pub in_order : AreRight c nodes → ((v : ℕ) (node : ProofNode J R) → slice_get nodes v ≡ Some node
      → IsPositionSet (c.positions node.judgement)) → 0 < length nodes → IsGraph g
  in_order right sets some =
      right_graph g (λ v. false) (λ v n h fine. (
      let m = mapped_at (graph_node c nodes) nodes v n h in
      subst (IsRight g) m.is (node_right v m.from m.at (right v m.from m.at) (sets v m.from m.at)))) (λ v l. refl)
      (omega (arith, some, length-map nodes (graph_node c nodes)))

  -- ---- what holds

  module _ (Holds : (ℕ → ℕ) → J → Type 0) (sound : IsLocallySound c Occurs Allows Holds) where
    -- what node v states holds at the stages
    abbrev pub HoldsAtNode : ℕ → (ℕ → ℕ) → Type 0
    HoldsAtNode v σ = (node : ProofNode J R) → slice_get nodes v ≡ Some node → Holds σ node.judgement

    -- what each edge leads to holds at all stages that follow
    abbrev EdgesHold : (ℕ → ℕ) → List Edge → Type 0
    EdgesHold σ edges = (k : ℕ) (e : Edge) → slice_get edges k ≡ Some e → (τ : ℕ → ℕ) → Falls e.pairs σ τ
        → HoldsAtNode e.target τ

    reason_holds : (j : J) (r : R) (us : List ℕ) (o : Option ℕ) (edges : List Edge) (σ : ℕ → ℕ) → Occurs j → Allows j r
        → ByReason c same nodes j r us o edges → EdgesHold σ edges → Holds σ j
    reason_holds j r us None edges σ occurs allowed by hold =
        sound.rules j r by.premises occurs allowed by.is σ (λ k p at τ falls. (
        let e = premise_edge c same nodes by.premises us by.state k p at in
        let is = subst (λ (es : List Edge). slice_get es k ≡ Some (record { target = e.target; pairs = p.pairs }))
        (sym by.edges_are) e.is_edge in
        subst (Holds τ) (sym e.states.is) (hold k (record { target = e.target; pairs = p.pairs })
        is τ falls e.states.node e.states.at)))
    reason_holds j r us (Some target) edges σ occurs allowed by hold =
        sound.links j r by.companion.judgement by.pairs occurs (stand.occurs target by.companion by.at) allowed by.is σ
        (λ τ falls. (
        let is = subst (λ (es : List Edge). slice_get es 0 ≡ Some (record { target = target; pairs = by.pairs }))
        (sym by.edges_are) refl in
        hold 0 (record { target = target; pairs = by.pairs }) is τ falls by.companion by.at))

    -- the relation is local
    pub is_local : AreRight c nodes → IsLocal g HoldsAtNode
    is_local right v σ within below node at =
        let by = node_by c same nodes v node (right v node at) in
        reason_holds node.judgement node.reason node.premises (c.target node.reason) (edges_of c nodes node) σ
        (stand.occurs v node at) (stand.allowed v node at) by
        (λ k e is τ falls. below k e (record {
          node = graph_node c nodes node;
          is_node = get_map (graph_node c nodes) nodes v node at;
          is_edge = is;
        }) τ falls)
