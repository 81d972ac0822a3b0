-- The nodes of a proof one by one.
use Rattle.std.proofs.Common.{◌≡◌, ℕ, zero, suc, ◌+◌, List, [], ◌∷◌, ◌++◌, drop, length, length-append, Option, Some}
use Rattle.std.proofs.Common.{None, slice_get, sym, ap, ◌∙◌, arith, append_assoc}
use Rattle.trace_pairs.specs.Graph.{Node}
use Rattle.logics.specs.declared.node.ProofNode.{ProofNode}
use Rattle.derivations.specs.Tableau.{Made}
use Rattle.derivations.specs.LogicNodes.{proof_node, nodes_with}

module _ {J R : Type 0} (target : R → Option ℕ) where
  -- the node at place k is the next
  node_step : (ns : List Node) (ms : List (Made J R)) (n : Node) (m : Made J R) (k : ℕ) → slice_get ns k ≡ Some n →
      nodes_with target (drop k ns) (m ∷ ms) ≡ proof_node target n m ∷ nodes_with target (drop (suc k) ns) ms
  node_step [] ms n m k at = absurd (let e : None ≡ Some n = at in cc)
  node_step (x ∷ ns) ms n m zero at =
      let a : Some x ≡ Some n = at in
      let same : x ≡ n = cc in ap (λ (y : Node). proof_node target y m ∷ nodes_with target ns ms) same
  node_step (x ∷ ns) ms n m (suc k) at = node_step ns ms n m k at

  -- so many nodes are done, and the rest is to come
  abbrev pub IsDone : List Node → List (ProofNode J R) → List (ProofNode J R) → List (Made J R) → Type 0
  IsDone graph whole done rest =
      (length done + length rest ≡ length graph) × (done ++ nodes_with target (drop (length done) graph) rest ≡ whole)

  pub node_next : (graph : List Node) (whole done done' : List (ProofNode J R)) (rest rest' : List (Made J R))
      (m : Made J R) (n : Node) →
      rest ≡ m ∷ rest' → done' ≡ done ++ proof_node target n m ∷ [] → slice_get graph (length done) ≡ Some n →
      IsDone graph whole done rest → IsDone graph whole done' rest'
  node_next graph whole done done' rest rest' m n comes more at inv =
      let long : length done' ≡ suc (length done) = omega (
        arith,
        ap length more,
        length-append done (proof_node target n m ∷ []),
      ) in
      let others = nodes_with target (drop (suc (length done)) graph) rest' in (
        omega (arith, long, ap length comes, inv.0),
        ap (λ k. done' ++ nodes_with target (drop k graph) rest') long
            ∙ (ap (λ (xs : List (ProofNode J R)). xs ++ others) more
            ∙ (append_assoc done (proof_node target n m ∷ []) others
            ∙ (ap (λ (xs : List (ProofNode J R)). done ++ xs) (sym (node_step graph rest' n m (length done) at))
            ∙ (ap (λ (xs : List (Made J R)). done ++ nodes_with target (drop (length done) graph) xs) (sym comes)
            ∙ inv.1)))),
      )
