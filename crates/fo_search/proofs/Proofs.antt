-- What is found is a proof of the problem's goal.
use Rattle.std.proofs.Common.{◌≡◌, ℕ, List, refl, sym, ap, subst, ◌∙◌, arith}
use Rattle.std.proofs.lemmas.Option.{slice_get_within, same_Some}
use Rattle.fo_formula.specs.declared.nodes.FoFile.{FoFile}
use Rattle.fo_formula.specs.Nodes.{FoNode}
use Rattle.fo_formula.specs.declared.nodes.FoReason.{FoReason}
use Rattle.fo_formula.specs.declared.sequents.FoSequent.{FoSequent}
use Rattle.fo_formula.specs.declared.theory.FoTheory.{FoTheory}
use Rattle.fo_logic.specs.FirstOrder.{first_order}
use Rattle.fo_logic.specs.Files.{IsReadNode, IsFoProof}
use Rattle.fo_logic.specs.Limits.{IsNodeWithin, IsReasonWithin}
use Rattle.fo_logic.proofs.Open.{sequent_open, reason_open}
use Rattle.fo_logic.proofs.Correct.{correct_hold}
use Rattle.fo_formula.proofs.Reflects.{sequent_self}
use Rattle.buchi_inclusion.specs.Answers.{state_limit}
use Rattle.derivations.specs.System.{search_of, IsFound}
use Rattle.derivations.proofs.Firsts.{first_found}
use Rattle.derivations.specs.Tableau.{Tableau}
use Rattle.derivations.specs.Search.{system_of}
use Rattle.fo_file.specs.declared.values.problem.FoProblem.{FoProblem}
use Rattle.derivations.specs.Derivations.{search_in}
use Rattle.fo_search.specs.Calculus.{calculus_of}
use Rattle.fo_search.specs.Occurring.{MayOccur}
use Rattle.fo_search.proofs.Fairness.{first_order_fair}
use Rattle.derivations.specs.Found.{IsSearchOf}
use Rattle.derivations.specs.declared.found.searching.Proved.{Proved}
use Rattle.derivations.specs.declared.found.searching.Proved.TheVariants as searched
use Rattle.derivations.specs.Outcomes as search
use Rattle.fo_search.specs.Files.{proof_nodes}
use Rattle.fo_search.specs.Found.{AreProof}
use Rattle.fo_search.proofs.Found.{makes_proof}
use Rattle.fo_search.specs.declared.prover.FoProved.{FoProved}
use Rattle.fo_search.specs.declared.prover.FoProved.TheVariants.{Found, NotFound, TooManyDerivations, TooManyStates}
use Rattle.fo_search.specs.Moves.{Moves, calculus_in, occurs_in, allows_in, IsFirstOrder}
use Rattle.fo_search.specs.Outcomes.{search_for, outcome_of, IsFirst, IsOver, IsProofFor, IsProved}
use Rattle.heap_formula.proofs.AllMembers.{each_imply}

-- the calculus of the moves is that of the problem's theory
pub is_search : (problem : FoProblem) (start : Moves) → IsFirstOrder problem start
    → IsSearchOf (first_order problem.theory) (calculus_in start.logic) (occurs_in start.logic) (allows_in start.logic)
is_search problem start is =
    subst (λ t. IsSearchOf (first_order problem.theory) (calculus_of t) (MayOccur t) (IsReasonWithin t)) (sym is.theory)
    (record { is = refl; fair = first_order_fair problem.theory; itself = sequent_self })

-- and their search that for a proof of its goal
pub same_search : (problem : FoProblem) (start : Moves) → IsFirstOrder problem start
    → search_in calculus_in start ≡ search_for problem
same_search problem start is = λ i. system_of (calculus_of (is.theory i)) (is.limit i) state_limit (is.root i)

-- a node within the limits is one that a reader gives
read_node : (t : FoTheory) (n : FoNode) → IsNodeWithin t n → IsReadNode t.constructors n
read_node t n h = record {
  small = h.sequent.0;
  sequent = sequent_open t n.judgement h.sequent.1;
  reason = reason_open t n.reason h.reason;
}

module _ (problem : FoProblem) (may : MayOccur problem.theory problem.goal) (most depth : ℕ) where
  found_is : (nodes : List FoNode) → search.IsFoundProof (first_order problem.theory) (calculus_of problem.theory)
      problem.goal nodes →
      IsFound (search.reasons_of nodes) ≡ search_of (search_for problem) most depth
      → AreProof problem.theory problem.goal nodes
  found_is nodes is found =
      let makes = makes_proof problem.theory problem.goal most depth (search.reasons_of nodes) may (sym found) in
      let same : makes.tableau ≡ is.tableau = same_Some makes.tableau is.tableau (sym makes.made ∙ is.made) in
      subst (AreProof problem.theory problem.goal) (sym is.are)
      (subst (λ (b : Tableau FoSequent FoReason). AreProof problem.theory problem.goal (proof_nodes b))
      same makes.proof)

  module _ (f : FoFile) (same_theory : f.theory ≡ problem.theory)
      (is : search.IsFoundProof (first_order problem.theory) (calculus_of problem.theory) problem.goal f.nodes)
      (are : AreProof problem.theory problem.goal f.nodes) where
    the_proof : AreProof f.theory problem.goal f.nodes
    the_proof = subst (λ t. AreProof t problem.goal f.nodes) (sym same_theory) are

    is_fo_proof : IsFoProof f
    is_fo_proof =
        let may' : MayOccur f.theory problem.goal = subst (λ t. MayOccur t problem.goal) (sym same_theory) may in
        let some = slice_get_within f.nodes 0 the_proof.proof.root the_proof.proof.is_root in
        record {
          some = omega (arith, some);
          few = the_proof.few;
          constant = may'.0.constant;
          definitions = may'.0.small;
          nodes = each_imply (IsNodeWithin f.theory) (IsReadNode f.theory.constructors) (read_node f.theory)
              f.nodes the_proof.within;
        }

    is_proof : IsProofFor problem f
    is_proof = record {
      theory = same_theory;
      tableau = is.tableau;
      made = is.made;
      nodes = is.are;
      root = the_proof.proof.root;
      is_root = the_proof.proof.is_root;
      goal = the_proof.proof.proves;
      within = are.within;
      few = the_proof.few;
      correct = the_proof.proof.correct;
      states = the_proof.proof.states;
      holds = correct_hold f is_fo_proof the_proof.proof.correct;
    }

  -- ---- what the search came to, as a file

  pub is_outcome : (p : Proved FoSequent FoReason) (q : FoProved) → IsOver problem.theory p q
      → search.outcome_of p ≡ search_of (search_for problem) most depth
      → outcome_of q ≡ search_of (search_for problem) most depth
  is_outcome (searched.Found nodes) (Found f) over e = ap (λ (ns : List FoNode). IsFound (search.reasons_of ns)) over.1
      ∙ e
  is_outcome searched.NotFound NotFound over e = e
  is_outcome searched.TooManyDerivations TooManyDerivations over e = e
  is_outcome searched.TooManyStates TooManyStates over e = e
  is_outcome _ _ over e = absurd over

  pub is_first : (q : FoProved) → outcome_of q ≡ search_of (search_for problem) most depth → IsFirst problem depth q
  is_first (Found f) e = first_found (search_for problem) most 1 depth _ (sym e)
  is_first NotFound e = tt
  is_first TooManyDerivations e = tt
  is_first TooManyStates e = tt

  pub is_proved : (p : Proved FoSequent FoReason) (q : FoProved) → IsOver problem.theory p q
      → search.outcome_of p ≡ search_of (search_for problem) most depth →
      search.IsProved (first_order problem.theory) (calculus_of problem.theory) problem.goal p → IsProved problem q
  is_proved (searched.Found nodes) (Found f) over e is =
      let is' = subst (search.IsFoundProof (first_order problem.theory) (calculus_of problem.theory) problem.goal)
      (sym over.1) is in
      is_proof f over.0 is' (found_is f.nodes is' (ap (λ (ns : List FoNode). IsFound (search.reasons_of ns)) over.1
      ∙ e))
  is_proved searched.NotFound NotFound over e is = tt
  is_proved searched.TooManyDerivations TooManyDerivations over e is = tt
  is_proved searched.TooManyStates TooManyStates over e is = tt
  is_proved _ _ over e is = absurd over
