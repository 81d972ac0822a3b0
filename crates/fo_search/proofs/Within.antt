-- The nodes of the proof may stand in a file.
use Rattle.std.proofs.Common.{◌≡◌, ℕ, ◌+◌, ◌≤◌, ◌⊎◌, List, [], ◌∷◌, map, take, Option, Some, None, slice_get, length}
use Rattle.std.proofs.Common.{refl, subst, arith}
use Rattle.std.proofs.lemmas.Option.{slice_get_within}
use Rattle.heap_formula.specs.Words.{Each}
use Rattle.heap_formula.proofs.Members.{each_from}
use Rattle.fo_formula.specs.Nodes.{FoNode}
use Rattle.fo_formula.specs.declared.nodes.FoReason.{FoReason}
use Rattle.fo_formula.specs.declared.nodes.FoReason.TheVariants.{Rule, Link}
use Rattle.fo_formula.specs.declared.sequents.FoSequent.{FoSequent}
use Rattle.fo_formula.specs.declared.theory.FoTheory.{FoTheory}
use Rattle.fo_formula.specs.Sizes.{sequent_size, reason_size}
use Rattle.fo_logic.specs.Limits.{IsReasonWithin, IsNodeWithin, IsNumberWithin, numbers_of as numbers_in}
use Rattle.fo_logic.proofs.Numbers.{rule_numbers, link_numbers}
use Rattle.fo_search.proofs.Offered.{links_small, before_small, after_small}
use Rattle.trace_pairs.specs.Graph.{Edge}
use Rattle.derivations.specs.Firsts.{IsIn}
use Rattle.derivations.specs.Tableau.{Subgoal, Tableau}
use Rattle.derivations.specs.Nodes.{MayStand, AllOffered}
use Rattle.derivations.proofs.Made.{AllLead}
use Rattle.derivations.specs.LogicNodes.{numbers_by}
use Rattle.derivations.proofs.LogicMade.{IsBy, AreNodes}
use Rattle.derivations.proofs.LogicRows.{row_of}
use Rattle.fo_formula.specs.Table.{rule_answer}
use Rattle.fo_formula.specs.LinkTable.{link_fault}
use Rattle.fo_logic.specs.FirstOrder.{first_order, target_of}
use Rattle.fo_logic.specs.LogicLaws.{answered, linked}
use Rattle.fo_search.specs.Calculus.{OpenGoal, MadeNode, sequent_of, links_at, rules_at, calculus_of}
use Rattle.cyc_basics.specs.declared.limits.TheConstants.{MOST_LINKS}
use Rattle.fo_search.specs.Occurring.{MayOccur}
use Rattle.fo_search.proofs.Offers.{offers_are}
use Rattle.fo_search.specs.Files.{proof_nodes}
use Rattle.heap_formula.proofs.AllMembers.{each_any}

targets_short : (nodes : List MadeNode) (v : ℕ) (ps : List (Subgoal FoSequent)) (es : List Edge) →
    length nodes ≤ 20000 → AllLead nodes v ps es → Each IsNumberWithin (map (λ (e : Edge). e.target) es)
targets_short nodes v [] [] few led = tt
targets_short nodes v [] (e ∷ es) few led = absurd led
targets_short nodes v (p ∷ ps) [] few led = absurd led
targets_short nodes v (p ∷ ps) (e ∷ es) few led =
    let within = slice_get_within nodes e.target led.0.node led.0.is_node in
    (omega arith, targets_short nodes v ps es few led.1)

-- what is offered to a goal is small beside its sequent
offered_small : (t : FoTheory) (nodes : List MadeNode) (g : OpenGoal) (r : FoReason) →
    sequent_size g.premise.judgement ≤ 4096 →
    IsIn (links_at t nodes g) r ⊎ IsIn (rules_at t nodes g) r → sequent_size g.premise.judgement + reason_size r ≤ 4096
offered_small t nodes g r small =
    let s = g.premise.judgement in
    offers_are t nodes g (λ (x : FoReason). sequent_size s + reason_size x ≤ 4096) (λ (companion : FoSequent). Unit {0})
    (λ k companion h. links_small MOST_LINKS k s companion) (each_any (λ (m : MadeNode). Unit {0}) (λ m. tt) nodes)
    (before_small t s small) (after_small t s small) r

module _ (t : FoTheory) (b : Tableau FoSequent FoReason) (all' : AreNodes (first_order t) b)
    (few : length b.nodes ≤ 20000) where
  reason_short : (v : ℕ) (s : FoSequent) (r : FoReason) (es : List Edge) → MayOccur t s
      → IsBy (first_order t) b.nodes v s r (target_of r) es →
      Each IsNumberWithin (numbers_in r)
  reason_short v s (Rule rule) es may by =
      let a = answered (rule_answer t s rule) by.premises by.is_answer in
      rule_numbers t s rule a.premises may.0 may.1 a.is
  reason_short v s (Link link) es may by =
      let less = slice_get_within b.nodes link.to by.companion by.is_companion in
      let k = sequent_of by.companion in
      let l = linked s k link by.pairs (link_fault s k link) refl by.is in
      link_numbers t s k link may.1 (omega (arith, less, few)) l.none

  numbers_short : (v : ℕ) (s : FoSequent) (r : FoReason) (o : Option ℕ) (es : List Edge)
      → IsBy (first_order t) b.nodes v s r o es →
      Each IsNumberWithin (numbers_by o es)
  numbers_short v s r None es by = targets_short b.nodes v by.premises es few by.edges
  numbers_short v s r (Some target) es by = tt

  pub all_within : MayStand (MayOccur t) (IsReasonWithin t) b → AllOffered (calculus_of t) b →
      Each (IsNodeWithin t) (proof_nodes b)
  all_within stand offered = each_from (IsNodeWithin t) (proof_nodes b) each
    where
      each : (v : ℕ) (x : FoNode) → slice_get (proof_nodes b) v ≡ Some x → IsNodeWithin t x
      each v x at =
          let row = row_of (first_order t) b all' v x at in
          let m = row.m in
          let s = stand v m row.is_m in
          subst (IsNodeWithin t) row.is (record {
            sequent = s.0.1;
            reason = s.1;
            size = offered_small t (take v b.nodes) m.goal m.reason s.0.1.0.size (offered v m row.is_m);
            numbers = reason_short v (sequent_of m) m.reason row.made.traces.edges s.0 row.made.by;
            premises = numbers_short v (sequent_of m) m.reason (target_of m.reason) row.made.traces.edges row.made.by;
          })
