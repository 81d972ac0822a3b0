-- The nodes of the proof, one for each node made.
use Rattle.std.proofs.Common.{◌≡◌, ℕ, List, [], ◌∷◌, Option, Some, slice_get, length, refl, ap, subst, ◌∙◌}
use Rattle.trace_pairs.specs.Graph.{Node}
use Rattle.buchi_core.proofs.Lists.{get_one}
use Rattle.logics.specs.declared.node.ProofNode.{ProofNode}
use Rattle.logics.specs.Logics.{LogicValue}
use Rattle.derivations.specs.Tableau.{Made, Tableau}
use Rattle.derivations.proofs.Joined.{joined, length-joined, joined_at, joined_of}
use Rattle.derivations.specs.LogicNodes.{proof_node, nodes_with, proof_nodes}
use Rattle.derivations.proofs.LogicMade.{IsNode, AreNodes}

nodes_joined : {J R : Type 0} (target : R → Option ℕ) (ns : List Node) (ms : List (Made J R))
    → nodes_with target ns ms ≡ joined (proof_node target) ns ms
nodes_joined target [] ms = refl
nodes_joined target (n ∷ ns) [] = refl
nodes_joined target (n ∷ ns) (m ∷ ms) = ap (λ xs. proof_node target n m ∷ xs) (nodes_joined target ns ms)

module _ {J R F : Type 0} (c : LogicValue J R F) (b : Tableau J R) (all' : AreNodes c b) where
  -- node v of the proof
  pub record IsRow (v : ℕ) (x : ProofNode J R) : Type 0 where
    pub m : Made J R
    pub is_m : slice_get b.nodes v ≡ Some m
    pub made : IsNode c b v m
    pub is : proof_node c.target made.traces m ≡ x

  abbrev pub rows : List (ProofNode J R)
  rows = proof_nodes c.target b

  pub length-rows : length rows ≡ length b.nodes
  length-rows =
      ap length (nodes_joined c.target b.graph b.nodes) ∙ length-joined (proof_node c.target) b.graph b.nodes all'.size

  pub node_at : (v : ℕ) (m : Made J R) (made : IsNode c b v m) → slice_get b.nodes v ≡ Some m
      → slice_get rows v ≡ Some (proof_node c.target made.traces m)
  node_at v m made at =
      ap (λ (xs : List (ProofNode J R)). slice_get xs v) (nodes_joined c.target b.graph b.nodes)
      ∙ joined_at (proof_node c.target) b.graph b.nodes v made.traces m made.is_traces at

  pub row_of : (v : ℕ) (x : ProofNode J R) → slice_get rows v ≡ Some x → IsRow v x
  row_of v x at =
      let j = joined_of (proof_node c.target) b.graph b.nodes all'.size v x
      (subst (λ (xs : List (ProofNode J R)). slice_get xs v ≡ Some x) (nodes_joined c.target b.graph b.nodes) at) in
      let made = all'.each v j.y j.is_y in
      record {
        m = j.y;
        is_m = j.is_y;
        made = made;
        is = ap (λ (n : Node). proof_node c.target n j.y) (get_one b.graph v made.traces j.x made.is_traces j.is_x)
            ∙ j.is;
      }
