-- What a search finds is a correct proof, whose nodes may stand in a file.
use Rattle.std.proofs.Common.{◌≡◌, ℕ, ◌≤◌, List, Some, sym, subst}
use Rattle.heap_formula.specs.declared.judgements.Judgement.{Judgement}
use Rattle.heap_formula.specs.declared.proof_rules.Reason.{Reason}
use Rattle.rule_table.proofs.SameJudgements.{same_judgement_self}
use Rattle.buchi_inclusion.specs.Answers.{state_limit}
use Rattle.derivations.specs.System.{search_of, IsFound}
use Rattle.derivations.specs.Tableau.{Tableau, replay}
use Rattle.derivations.specs.Nodes.{MayStand, IsSmall}
use Rattle.derivations.proofs.TableauFound.{all_rooted, all_standing, all_small, found_this}
use Rattle.derivations.proofs.LogicMade.{AreNodes}
use Rattle.derivations.proofs.LogicRows.{length-rows}
use Rattle.derivations.proofs.LogicFound as found
use Rattle.search_moves.specs.Trying.{Theory}
use Rattle.proof_search.specs.Calculus.{logic_over, links_at, rules_at, calculus_of, node_limit, search_system}
use Rattle.proof_search.specs.Found.{nodes_made, AreProof, MakesProof}
use Rattle.proof_search.specs.Problems.{IsWithinLimits, MayGive}
use Rattle.proof_search.proofs.Fair.{separation_logic_fair}
use Rattle.proof_search.proofs.Within.{all_within}

module _ (t : Theory) (goal : Judgement) (most depth : ℕ) (d : List Reason) (may : IsWithinLimits t goal)
    (h : search_of (search_system t goal) most depth ≡ IsFound d) where
  -- of the tableau that the reasons make
  module _ (b : Tableau Judgement Reason) (is_b : replay (calculus_of t) goal d ≡ Some b) where
    small : IsSmall node_limit state_limit b
    small =
        all_small (calculus_of t) (IsWithinLimits t) (MayGive t) (separation_logic_fair t)
        node_limit state_limit most depth goal d b may h is_b

    standing : MayStand (IsWithinLimits t) (MayGive t) b
    standing = found_this (calculus_of t) (IsWithinLimits t) (λ j r x. MayStand (IsWithinLimits t) (MayGive t) x)
        (all_standing (calculus_of t) (IsWithinLimits t) (MayGive t) (separation_logic_fair t))
        node_limit state_limit most depth goal d b may h is_b

    are_nodes : AreNodes (logic_over t) b
    are_nodes = found.are_nodes (logic_over t) (links_at t) (rules_at t) (IsWithinLimits t) (MayGive t)
        (separation_logic_fair t) same_judgement_self node_limit most depth goal d may h b is_b

    is_proof : AreProof t goal (nodes_made b)
    is_proof = record {
      proof = found.is_proof (logic_over t) (links_at t) (rules_at t) (IsWithinLimits t) (MayGive t)
          (separation_logic_fair t) same_judgement_self node_limit most depth goal d may h b is_b;
      within = all_within t b are_nodes small.nodes standing;
      few = subst (λ n. n ≤ 20000) (sym (length-rows (logic_over t) b are_nodes)) small.nodes;
    }

  pub makes_proof : MakesProof t goal d
  makes_proof =
      let x = all_rooted (calculus_of t) (IsWithinLimits t) (MayGive t) (separation_logic_fair t)
      node_limit state_limit most depth goal d may h in
      record { tableau = x.0; made = x.1; closed = (small x.0 x.1).closed; proof = is_proof x.0 x.1 }
