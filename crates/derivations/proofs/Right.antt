-- No node of the proof has a fault.
use Rattle.std.proofs.Common.{◌≡◌, ℕ, suc, ◌<◌, true, List, [], ◌∷◌, map, Option, Some, None, slice_get, length, refl}
use Rattle.std.proofs.Common.{sym, ap, subst, ◌∙◌}
use Rattle.std.proofs.lemmas.Bool.{eq-eqb, lt-ltb}
use Rattle.std.proofs.lemmas.List.{length-map}
use Rattle.trace_pairs.specs.Graph.{Edge}
use Rattle.logics.specs.declared.premises.Subgoal.{Subgoal}
use Rattle.logics.specs.declared.node.ProofNode.{ProofNode}
use Rattle.logics.specs.Logics.{LogicValue}
use Rattle.logics.specs.Faults.{first_of, fault_unless, differs, premises_fault, rule_fault, pairs_fault}
use Rattle.logics.specs.Faults.{companion_fault, count_fault, reason_fault, node_fault, AreRight}
use Rattle.derivations.specs.Tableau.{Tableau}
use Rattle.derivations.proofs.Made.{AllLead, lead_count}
use Rattle.derivations.specs.Calculus.{judgement_of}
use Rattle.derivations.specs.LogicNodes.{numbers_by, proof_node}
use Rattle.derivations.proofs.LogicMade.{IsBy, AreNodes}
use Rattle.derivations.proofs.LogicRows.{rows, node_at, row_of}

module _ {J R F : Type 0} (c : LogicValue J R F) (itself : (j : J) → c.same j j ≡ true) (b : Tableau J R)
    (all' : AreNodes c b) where
  abbrev nodes : List (ProofNode J R)
  nodes = rows c b all'

  premise_right : (v i u : ℕ) (p : Subgoal J) (ps : List (Subgoal J)) (us : List ℕ) (node : ProofNode J R) → v < u →
      slice_get nodes u ≡ Some node → p.judgement ≡ node.judgement → premises_fault c nodes v (suc i) ps us ≡ None →
      premises_fault c nodes v i (p ∷ ps) (u ∷ us) ≡ None
  premise_right v i u p ps us node later at is rest =
      let same : c.same p.judgement node.judgement
      ≡ true = subst (λ (x : J). c.same p.judgement x ≡ true) is (itself p.judgement) in
      ap (λ t. first_of (fault_unless t c.faults.no_such_node)
      (first_of (differs c i p (slice_get nodes u)) (premises_fault c nodes v (suc i) ps us))) (lt-ltb v u later)
      ∙ (ap (λ o. first_of (differs c i p o) (premises_fault c nodes v (suc i) ps us)) at
      ∙ (ap (λ t. first_of (fault_unless t (c.faults.premise_differs i)) (premises_fault c nodes v (suc i) ps us)) same
      ∙ rest))

  premises_right : (v i : ℕ) (ps : List (Subgoal J)) (es : List Edge) → AllLead b.nodes v ps es →
      premises_fault c nodes v i ps (map (λ (e : Edge). e.target) es) ≡ None
  premises_right v i [] [] led = refl
  premises_right v i [] (e ∷ es) led = absurd led
  premises_right v i (p ∷ ps) [] led = absurd led
  premises_right v i (p ∷ ps) (e ∷ es) led =
      let h = led.0 in
      let made = all'.each e.target h.node h.is_node in
      premise_right v i e.target p ps (map (λ (e : Edge). e.target) es) (proof_node c.target made.traces h.node) h.later
      (node_at c b all' e.target h.node made h.is_node) h.judgement
      (premises_right v (suc i) ps es led.1)

  reason_right : (v : ℕ) (j : J) (r : R) (o : Option ℕ) (es : List Edge) → IsBy c b.nodes v j r o es →
      reason_fault c nodes v (numbers_by o es) j r o ≡ None
  reason_right v j r None es by =
      let us : List ℕ = map (λ (e : Edge). e.target) es in
      let count : length by.premises ≡ length us =
      sym (length-map es (λ (e : Edge). e.target) ∙ lead_count b.nodes v by.premises es by.edges) in
      ap (rule_fault c nodes v us) by.is_answer
      ∙ (ap (λ t. first_of (fault_unless t c.faults.premise_count) (premises_fault c nodes v 0 by.premises us))
      (eq-eqb (length by.premises) (length us) count)
      ∙ premises_right v 0 by.premises es by.edges)
  reason_right v j r (Some target) es by =
      let made = all'.each target by.companion by.is_companion in
      ap (λ o. first_of (companion_fault c j r o) (count_fault c []))
      (node_at c b all' target by.companion made by.is_companion)
      ∙ ap (λ answer. first_of (pairs_fault answer) (count_fault c [])) by.is

  pub all_right : AreRight c nodes
  all_right v node at =
      let x = row_of c b all' v node at in
      subst (λ (y : ProofNode J R). node_fault c nodes v y ≡ None) x.is
      (reason_right v (judgement_of x.m) x.m.reason (c.target x.m.reason) x.made.traces.edges x.made.by)
