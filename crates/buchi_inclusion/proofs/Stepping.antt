-- A step of the product, as the code makes it.
use Rattle.std.proofs.Common.{◌≡◌, ℕ, ◌≤◌, List, arith, Some, slice_get, length, refl, subst, ap, ◌∙◌}
use Rattle.std.proofs.lemmas.Option.{slice_get_within}
use Rattle.trace_pairs.specs.Graph.{Pair, Edge, Node, IsGraph}
use Rattle.cyc_basics.proofs.Members.{set_short}
use Rattle.buchi_core.specs.declared.event.Event.{Event}
use Rattle.buchi_core.specs.Forest.{Entry, next_forest, event_of}
use Rattle.buchi_inclusion.specs.Product.{State, Moves}
use Rattle.buchi_inclusion.specs.Table.{IsStep, IsState}
use Rattle.buchi_inclusion.proofs.Descent.{reach_more}

pub step_is : (g : List Node) (s : State) (node target : Node) (k : ℕ) (e : Edge) (to : ℕ) (pairs : List Pair)
    (positions : List ℕ) (f : List Entry) (event : Event) → IsGraph g → IsState g s →
    slice_get g s.node ≡ Some node → slice_get node.edges k ≡ Some e → to ≡ e.target → slice_get g to ≡ Some target
    → pairs ≡ e.pairs → positions ≡ target.positions →
    f ≡ next_forest pairs positions s.forest → event ≡ event_of pairs positions s.forest → length f ≤ length positions →
    IsStep g s k (record { node = to; forest = f }) event × IsState g (record { node = to; forest = f })
step_is g s node target k e to pairs positions f event graph state is_node is_edge leads is_to p q fe ee few =
    let is_target : slice_get g e.target ≡ Some target = subst (λ x. slice_get g x ≡ Some target) leads is_to in
    let t : State = record { node = to; forest = f } in
    let m : Moves g s t event = record {
      k = k;
      e = e;
      target = target;
      is_edge = record { node = node; is_node = is_node; is_edge = is_edge };
      is_target = is_target;
      node_is = leads;
      forest_is = fe ∙ (λ i. next_forest (p i) (q i) s.forest);
      event_is = ee ∙ (λ i. event_of (p i) (q i) s.forest);
    } in (
      record { move = m; by = refl },
      record {
        reached = reach_more g s t event state.reached m;
        node = slice_get_within g to target is_to;
        short = omega (arith, few, set_short target.positions (graph.sets e.target target is_target), ap length q);
      },
    )
