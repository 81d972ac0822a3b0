-- The loop over the nodes, and the verdict.
use Rattle.std.proofs.Common.{◌≡◌, ℕ, zero, suc, ◌+◌, ◌<◌, ◌≤◌, Bool, true, false, List, [], ◌∷◌, ◌++◌, take, length}
use Rattle.std.proofs.Common.{get_or, Some, None, refl, sym, ap, ◌∙◌, subst, arith}
use Rattle.std.specs.Prelude.{slice_get, nat_lt}
use Rattle.std.proofs.lemmas.Bool.{ltb-true, ltb-false}
use Rattle.std.proofs.lemmas.List.{length-map}
use Rattle.std.proofs.lemmas.Option.{slice_get_within}
use Rattle.trace_pairs.specs.Graph.{Node as TraceNode, Edge, IsPositionSet, IsGraph}
use Rattle.trace_pairs.specs.Walk.{Walk}
use Rattle.buchi_inclusion.specs.Inclusion.{IsInclusion}
use Rattle.buchi_inclusion.specs.declared.Inclusion.{Inclusion}
use Rattle.buchi_inclusion.specs.declared.Inclusion.TheVariants as answers
use Rattle.buchi_inclusion.proofs.Exact.{descends_by_lassos}
use Rattle.logics.specs.declared.node.ProofNode.{ProofNode}
use Rattle.logics.specs.declared.verdict.Verdict.TheVariants as verdicts
use Rattle.logics.specs.Logics.{LogicValue}
use Rattle.logics.specs.Faults.{node_fault, AreRight, AreRightBefore, IsLeastFault}
use Rattle.logics.specs.Graphs.{edges_of, graph_node, graph_of}
use Rattle.logics.specs.Laws.{IsInOrder, IsLocallySound, MayStand}
use Rattle.logics.specs.Tests.{HaveSets}
use Rattle.logics.specs.Verdicts.{RootHolds, IsVerdict, state_limit}
use Rattle.trace_pairs.specs.Lasso.{AllProgress}
use Rattle.logics.proofs.RightGraphs.{in_order, is_local, HoldsAtNode}
use Rattle.cyc_basics.proofs.Places.{at_index, get_map, take_get}

module _ {J R F : Type 0} (c : LogicValue J R F) (nodes : List (ProofNode J R)) where
  abbrev Node : Type 0
  Node = ProofNode J R

  -- so of each node before v
  abbrev pub Before : (ℕ → Node → Type 0) → ℕ → Type 0
  Before P v = (u : ℕ) (node : Node) → u < v → slice_get nodes u ≡ Some node → P u node

  one_more : (P : ℕ → Node → Type 0) (v : ℕ) (n : Node) → slice_get nodes v ≡ Some n → Before P v → P v n
      → Before P (v + 1)
  one_more P v n at before here u node lt is = by_test (nat_lt u v) refl
    where
      by_test : (b : Bool) → nat_lt u v ≡ b → P u node
      by_test true t = before u node (ltb-true u v t) is
      by_test false t =
          let ge = ltb-false u v t in
          let same : v ≡ u = omega arith in
          let there : slice_get nodes u ≡ Some n = subst (λ k. slice_get nodes k ≡ Some n) same at in
          let one : n ≡ node = cc in
          subst (λ (x : Node). P u x) one (subst (λ k. P k n) same here)

  -- the nodes before v are right, with this graph
  pub record AreTested (graph : List TraceNode) (v : ℕ) : Type 0 where
    pub graph_is : graph ≡ take v (graph_of c nodes)
    pub right : AreRightBefore c nodes v
    pub sets : Before (λ u node. IsPositionSet (c.positions node.judgement)) v

  pub none_tested : (graph : List TraceNode) → graph ≡ [] → AreTested graph 0
  none_tested graph is = record {
    graph_is = is;
    right = λ u node lt at. absurd (omega (arith, lt));
    sets = λ u node lt at. absurd (omega (arith, lt));
  }

  -- node v too
  pub more_tested : (graph pushed : List TraceNode) (v : ℕ) (n : Node) (positions : List ℕ) (edges : List Edge)
      → AreTested graph v → v < length nodes → n ≡ get_or nodes v n → node_fault c nodes v n ≡ None
      → edges ≡ edges_of c nodes n →
      positions ≡ c.positions n.judgement → IsPositionSet positions
      → pushed ≡ graph ++ record { positions = positions; edges = edges } ∷ [] → AreTested pushed (v + 1)
  more_tested graph pushed v n positions edges tested within is none edges_are positions_are set push =
      let at = at_index nodes v n n within (sym is) in
      let node : record { positions = positions; edges = edges } ≡ graph_node c nodes n = λ i.
      record { positions = positions_are i; edges = edges_are i } in
      record {
        graph_is =
            push
            ∙ ap (λ (x : TraceNode). graph ++ x ∷ []) node
            ∙ ap (λ (g : List TraceNode). g ++ graph_node c nodes n ∷ []) tested.graph_is
            ∙ sym (take_get (graph_of c nodes) v (graph_node c nodes n) (get_map (graph_node c nodes) nodes v n at));
        right = one_more (λ u node. node_fault c nodes u node ≡ None) v n at tested.right none;
        sets = one_more (λ u node. IsPositionSet (c.positions node.judgement)) v n at tested.sets
            (subst IsPositionSet positions_are set);
      }

  -- all
  pub all_tested : (graph : List TraceNode) (v : ℕ) → AreTested graph v → length nodes ≤ v
      → (graph ≡ graph_of c nodes) × AreRight c nodes × HaveSets c nodes
  all_tested graph v tested end =
      let size = length-map nodes (graph_node c nodes) in (
        tested.graph_is ∙ whole (graph_of c nodes) v (omega (arith, size, end)),
        λ u node at. tested.right u node (let l = slice_get_within nodes u node at in omega (arith, l, end)) at,
        λ u node at. tested.sets u node (let l = slice_get_within nodes u node at in omega (arith, l, end)) at,
      )
    where
      whole : {X : Type 0} (xs : List X) (n : ℕ) → length xs ≤ n → take n xs ≡ xs
      whole [] zero l = refl
      whole [] (suc n) l = refl
      whole (x ∷ xs) zero l = absurd (omega (arith, l))
      whole (x ∷ xs) (suc n) l = ap (λ ys. x ∷ ys) (whole xs n (omega (arith, l)))

  -- the least fault
  pub first_fault : (graph : List TraceNode) (v : ℕ) (n : Node) (fault : F) → AreTested graph v → v < length nodes
      → n ≡ get_or nodes v n → node_fault c nodes v n ≡ Some fault → IsLeastFault c nodes v fault
  first_fault graph v n fault tested within is first =
      record { node = n; at = at_index nodes v n n within (sym is); first = first; before = tested.right }

  module _ (Occurs : J → Type 0) (Allows : J → R → Type 0) (order : IsInOrder c Occurs Allows)
      (stand : MayStand Occurs Allows nodes) (some' : 0 < length nodes) (right : AreRight c nodes)
      (sets : HaveSets c nodes) where
    pub tested_graph : (graph : List TraceNode) → graph ≡ graph_of c nodes → IsGraph graph
    tested_graph graph is = subst IsGraph (sym is) (in_order c Occurs Allows order nodes stand right sets some')

    -- where every lasso progresses too, node 0 holds
    pub root_holds : (Holds : (ℕ → ℕ) → J → Type 0) → IsLocallySound c Occurs Allows Holds
        → AllProgress (graph_of c nodes) → RootHolds Holds nodes
    root_holds Holds sound all' root at σ =
        descends_by_lassos (graph_of c nodes) (in_order c Occurs Allows order nodes stand right sets some') all'
        (HoldsAtNode c Occurs Allows order nodes stand Holds sound)
        (is_local c Occurs Allows order nodes stand Holds sound right) σ root at

    module _ (Holds : (ℕ → ℕ) → J → Type 0) (sound : IsLocallySound c Occurs Allows Holds) (graph : List TraceNode)
        (is : graph ≡ graph_of c nodes) (answer : Inclusion) (told : IsInclusion graph state_limit answer) where
      told_here : IsInclusion (graph_of c nodes) state_limit answer
      told_here = subst (λ g. IsInclusion g state_limit answer) is told

      pub accepted : answer ≡ answers.Included → IsVerdict c Holds nodes verdicts.Accepted
      accepted e =
          let t : IsInclusion (graph_of c nodes) state_limit answers.Included = subst
          (IsInclusion (graph_of c nodes) state_limit) e told_here in
          (record { nodes = right; paths = t.0 }, t.1, root_holds Holds sound t.0)

      pub refused : (l : Walk) → answer ≡ answers.Counter l → IsVerdict c Holds nodes (verdicts.PathRefused l)
      refused l e =
          let t : IsInclusion (graph_of c nodes) state_limit (answers.Counter l) = subst
          (IsInclusion (graph_of c nodes) state_limit) e told_here in
          (right, t.0, t.1, t.2)

      pub many_states : answer ≡ answers.TooManyStates → IsVerdict c Holds nodes verdicts.TooManyStates
      many_states e =
          let t : IsInclusion (graph_of c nodes) state_limit answers.TooManyStates = subst
          (IsInclusion (graph_of c nodes) state_limit) e told_here in
          (right, t)
