-- What a search finds is a correct proof.
use Rattle.std.proofs.Common.{◌≡◌, ℕ, true, List, Some, length, sym, subst}
use Rattle.trace_pairs.specs.Graph.{Node}
use Rattle.trace_pairs.specs.Lasso.{AllProgress}
use Rattle.buchi_inclusion.specs.Answers.{HasAtMost, state_limit}
use Rattle.derivations.specs.System.{search_of, IsFound}
use Rattle.logics.specs.Logics.{LogicValue}
use Rattle.derivations.specs.Tableau.{Tableau, Calculus, replay}
use Rattle.derivations.specs.Fair.{IsFair}
use Rattle.derivations.specs.Search.{system_of, EachFound}
use Rattle.derivations.specs.Nodes.{HasRoot, IsSmall}
use Rattle.derivations.proofs.Made.{AllMade}
use Rattle.derivations.proofs.TableauFound.{all_rooted, all_made, all_sized, all_progressing, all_small, found_this}
use Rattle.derivations.specs.Calculus.{Offers, calculus_with}
use Rattle.derivations.specs.LogicNodes.{proof_node, proof_nodes}
use Rattle.derivations.specs.Found.{IsProof, IsSearchOf, EachIsProof}
use Rattle.derivations.proofs.LogicMade.{AreNodes, node_made}
use Rattle.derivations.proofs.LogicRows.{node_at}
use Rattle.derivations.proofs.Right.{all_right}
use Rattle.derivations.proofs.Graph.{graph_same}

module _ {J R F : Type 0} (c : LogicValue J R F) (links rules : Offers J R) (Occurs : J → Type 0) (Allows : R → Type 0)
    (fair : IsFair (calculus_with c links rules) Occurs Allows) (itself : (j : J) → c.same j j ≡ true)
    (limit most depth : ℕ) (goal : J) (d : List R) (may : Occurs goal)
    (h : search_of (system_of (calculus_with c links rules) limit state_limit goal) most depth ≡ IsFound d)
    (b : Tableau J R) (is_b : replay (calculus_with c links rules) goal d ≡ Some b) where
  at_this : (P : J → List R → Tableau J R → Type 0) → EachFound (calculus_with c links rules) Occurs P → P goal d b
  at_this P each = found_this (calculus_with c links rules)
      Occurs P each limit state_limit most depth goal d b may h is_b

  pub are_nodes : AreNodes c b
  are_nodes =
      let made = at_this (λ j r x. AllMade (calculus_with c links rules) x)
      (all_made (calculus_with c links rules) Occurs Allows fair) in
      record {
        size = at_this (λ j r x. length x.graph ≡ length x.nodes)
            (all_sized (calculus_with c links rules) Occurs Allows fair);
        each = λ v m at. node_made c links rules b v m (made v m at);
      }

  pub is_proof : IsProof c goal (proof_nodes c.target b)
  is_proof =
      let small : IsSmall limit state_limit b = all_small (calculus_with c links rules)
      Occurs Allows fair limit state_limit most depth goal d b may h is_b in
      let root = at_this (λ j r x. HasRoot j x) (all_rooted (calculus_with c links rules) Occurs Allows fair) in
      let made = are_nodes.each 0 root.root root.is_root in
      let same = sym (graph_same c b are_nodes) in
      record {
        root = proof_node c.target made.traces root.root;
        is_root = node_at c b are_nodes 0 root.root made root.is_root;
        proves = root.judgement;
        correct = record {
          nodes = all_right c itself b are_nodes;
          paths = subst AllProgress same (at_this (λ j r x. AllProgress x.graph)
              (all_progressing (calculus_with c links rules) Occurs Allows fair));
        };
        states = subst (λ (g : List Node). HasAtMost g state_limit) same small.states;
      }

-- the same of a calculus that is the logic's
pub each_is_proof : {J R F : Type 0} (c : LogicValue J R F) (k : Calculus J R) (Occurs : J → Type 0)
    (Allows : R → Type 0) → IsSearchOf c k Occurs Allows → EachIsProof c k Occurs
each_is_proof {J} {R} c k Occurs Allows of limit most depth j d b may h is_b =
    subst (λ (x : Calculus J R). IsFair x Occurs Allows
    → search_of (system_of x limit state_limit j) most depth ≡ IsFound d → replay x j d ≡ Some b
    → IsProof c j (proof_nodes c.target b)) (sym of.is)
    (λ fair found replayed.
    is_proof c k.links k.rules Occurs Allows fair of.itself limit most depth j d may found b replayed)
    of.fair h is_b
