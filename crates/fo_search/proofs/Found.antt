-- What a search finds is a correct proof.
use Rattle.std.proofs.Common.{◌≡◌, ℕ, ◌≤◌, List, Some, sym, subst}
use Rattle.fo_formula.specs.declared.nodes.FoReason.{FoReason}
use Rattle.fo_formula.specs.declared.sequents.FoSequent.{FoSequent}
use Rattle.fo_formula.specs.declared.theory.FoTheory.{FoTheory}
use Rattle.fo_logic.specs.Limits.{IsReasonWithin}
use Rattle.fo_formula.proofs.Reflects.{sequent_self}
use Rattle.fo_logic.specs.FirstOrder.{first_order}
use Rattle.buchi_inclusion.specs.Answers.{state_limit}
use Rattle.derivations.specs.System.{search_of, IsFound}
use Rattle.derivations.specs.Tableau.{Tableau, replay}
use Rattle.derivations.specs.Search.{EachFound}
use Rattle.derivations.specs.Nodes.{MayStand, AllOffered, IsSmall}
use Rattle.derivations.proofs.TableauFound.{all_rooted, all_standing, all_offered, all_small, found_this}
use Rattle.derivations.proofs.LogicMade.{AreNodes}
use Rattle.derivations.proofs.LogicRows.{length-rows}
use Rattle.derivations.proofs.LogicFound as found
use Rattle.fo_search.specs.Calculus.{links_at, rules_at, calculus_of, node_limit, search_system}
use Rattle.fo_search.specs.Occurring.{MayOccur}
use Rattle.fo_search.proofs.Fairness.{first_order_fair}
use Rattle.fo_search.specs.Files.{proof_nodes}
use Rattle.fo_search.specs.Found.{AreProof, MakesProof}
use Rattle.fo_search.proofs.Within.{all_within}

module _ (t : FoTheory) (goal : FoSequent) (most depth : ℕ) (d : List FoReason) (may : MayOccur t goal)
    (h : search_of (search_system t goal) most depth ≡ IsFound d) where
  -- of the tableau that the reasons make
  module _ (b : Tableau FoSequent FoReason) (is_b : replay (calculus_of t) goal d ≡ Some b) where
    at_this : (P : FoSequent → List FoReason → Tableau FoSequent FoReason → Type 0) →
        EachFound (calculus_of t) (MayOccur t) P → P goal d b
    at_this P each = found_this (calculus_of t) (MayOccur t)
        P each node_limit state_limit most depth goal d b may h is_b

    small : IsSmall node_limit state_limit b
    small =
        all_small (calculus_of t) (MayOccur t) (IsReasonWithin t) (first_order_fair t)
        node_limit state_limit most depth goal d b may h is_b

    are_nodes : AreNodes (first_order t) b
    are_nodes = found.are_nodes (first_order t) (links_at t) (rules_at t) (MayOccur t) (IsReasonWithin t)
        (first_order_fair t) sequent_self node_limit most depth goal d may h b is_b

    is_proof : AreProof t goal (proof_nodes b)
    is_proof = record {
      proof = found.is_proof (first_order t) (links_at t) (rules_at t) (MayOccur t) (IsReasonWithin t)
          (first_order_fair t) sequent_self node_limit most depth goal d may h b is_b;
      within = all_within t b are_nodes small.nodes
          (at_this (λ j r x. MayStand (MayOccur t) (IsReasonWithin t) x)
          (all_standing (calculus_of t) (MayOccur t) (IsReasonWithin t) (first_order_fair t)))
          (at_this (λ j r x. AllOffered (calculus_of t) x)
          (all_offered (calculus_of t) (MayOccur t) (IsReasonWithin t) (first_order_fair t)));
      few = subst (λ n. n ≤ 20000) (sym (length-rows (first_order t) b are_nodes)) small.nodes;
    }

  pub makes_proof : MakesProof t goal d
  makes_proof =
      let x = all_rooted (calculus_of t) (MayOccur t) (IsReasonWithin t) (first_order_fair t)
      node_limit state_limit most depth goal d may h in
      record { tableau = x.0; made = x.1; closed = (small x.0 x.1).closed; proof = is_proof x.0 x.1 }
