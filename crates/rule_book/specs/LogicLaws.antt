-- Why separation logic is a logic: lemmas for the laws of its impl, which can cite no others.
use Rattle.std.proofs.Common.{◌≡◌, ℕ, true, List, map, length, Option, Some, None, Ok, Err, refl, sym, ap, ◌∙◌, subst}
use Rattle.std.proofs.Common.{arith}
use Rattle.std.specs.Prelude.{slice_get}
use Rattle.std.proofs.lemmas.List.{length-map}
use Rattle.cyc_basics.specs.declared.limits.Limits.{Limits}
use Rattle.heap_formula.specs.declared.commands.Command.{Command}
use Rattle.heap_formula.specs.declared.judgements.Judgement.{Judgement}
use Rattle.heap_formula.specs.declared.judgements.Pair.{Pair}
use Rattle.heap_formula.specs.declared.judgements.Premise.{Premise}
use Rattle.heap_formula.specs.declared.proof_rules.Link.{Link}
use Rattle.heap_formula.specs.declared.proof_rules.Reason.{Reason}
use Rattle.heap_formula.specs.declared.proof_rules.Reason.TheVariants.{Step, Back}
use Rattle.heap_formula.specs.declared.proof_rules.Rule.{Rule}
use Rattle.heap_formula.specs.declared.proof_rules.RuleFault.{RuleFault}
use Rattle.heap_formula.specs.Definitions.{Definition}
use Rattle.heap_formula.specs.Judgements.{antecedent, HoldsAt, PremiseHolds}
use Rattle.heap_formula.specs.Meaning.{Stages}
use Rattle.heap_formula.proofs.Members.{each_from}
use Rattle.heap_formula.proofs.AllMembers.{each_at}
use Rattle.rule_table.specs.Answer.{Answer}
use Rattle.rule_table.specs.Fits.{IsPredAt, PairsFit, PremiseFits, OnPremises}
use Rattle.rule_table.specs.LinkTable.{link_premise}
use Rattle.rule_table.specs.Judgements.{IsReadable}
use Rattle.rule_table.specs.RuleBook.{variables_of, rule_answer, program_link_fault}
use Rattle.rule_table.specs.Soundness.{IsSound}
use Rattle.rule_table.proofs.AllFit.{rule_fits, link_fits}
use Rattle.rule_table.proofs.AllRules.{has_variables, rule_is_sound}
use Rattle.rule_table.proofs.FewPremises.{rule_few, premises_few}
use Rattle.rule_table.proofs.LinkRule.{link_is_sound}
use Rattle.rule_table.proofs.OneJudgement.{same_judgement_is}
use Rattle.trace_pairs.specs.Graph.{Pair as TracePair, Falls, has}
use Rattle.trace_pairs.specs.System.{AreIn}
use Rattle.proof_graph.specs.Traces.{positions_of, trace_pair, trace_pairs_of}
use Rattle.proof_graph.proofs.FallingPairs.{falls_of}
use Rattle.proof_graph.proofs.Joined.{mapped_at}
use Rattle.proof_graph.proofs.Places.{place_of}
use Rattle.cyc_basics.proofs.Places.{get_map}
use Rattle.logics.specs.declared.premises.Subgoal.{Subgoal}
use Rattle.logics.specs.Laws.{ArePremises, IsInOrder, IsLocallySound}
use Rattle.rule_book.specs.ProgramLinks.{program_link_parts}
use Rattle.rule_book.specs.SeparationLogic.{traced, traced_answer, pairs_unless, rule_premises, companion_pairs}
use Rattle.rule_book.specs.SeparationLogic.{separation_logic, MayOccur, Holds}

-- pairs that join predicate atoms join positions
joined : (a b : Judgement) (pairs : List Pair) → PairsFit (antecedent a).spatial (antecedent b).spatial pairs
    → AreIn (trace_pairs_of pairs) (positions_of a) (positions_of b)
joined a b pairs fit i p is =
    let q = mapped_at trace_pair pairs i p is in
    let both = each_at (λ (r : Pair). IsPredAt (antecedent a).spatial r.old × IsPredAt (antecedent b).spatial r.new)
    pairs i q.from q.at fit in (
      subst (λ (r : TracePair). has (positions_of a) r.0 ≡ true) q.is
          (place_of (antecedent a).spatial q.from.old both.0),
      subst (λ (r : TracePair). has (positions_of b) r.1 ≡ true) q.is
          (place_of (antecedent b).spatial q.from.new both.1),
    )

module _ (most : Limits) (ds : List Definition) (lines : List Command) where
  -- what a rule answers
  record Answered (j : Judgement) (rule : Rule) (ps : List (Subgoal Judgement)) : Type 0 where
    premises : List Premise
    is : rule_answer most ds lines j rule ≡ Ok premises
    are : map traced premises ≡ ps

  answered : (j : Judgement) (rule : Rule) (ps : List (Subgoal Judgement)) (answer : Answer)
      → rule_answer most ds lines j rule ≡ answer → traced_answer answer ≡ Ok ps → Answered j rule ps
  answered j rule ps (Err f) is e = cc
  answered j rule ps (Ok qs) is e = let one : map traced qs ≡ ps = cc in record { premises = qs; is = is; are = one }

  -- the pairs of a link without a fault
  record Linked (bud companion : Judgement) (link : Link) (pairs : List TracePair) : Type 0 where
    none : program_link_fault lines bud companion link ≡ None
    are : trace_pairs_of (link_premise companion link).pairs ≡ pairs

  linked : (bud companion : Judgement) (link : Link) (pairs : List TracePair) (o : Option RuleFault)
      → program_link_fault lines bud companion link ≡ o
      → pairs_unless o (link_premise companion link) ≡ Ok pairs → Linked bud companion link pairs
  linked bud companion link pairs (Some f) is e = cc
  linked bud companion link pairs None is e =
      let one : trace_pairs_of (link_premise companion link).pairs ≡ pairs = cc in record { none = is; are = one }

  rules_fit : (j : Judgement) (r : Reason) (ps : List (Subgoal Judgement)) → MayOccur ds lines j → IsReadable j r
      → rule_premises most ds lines j r ≡ Ok ps → ArePremises (separation_logic most ds lines) j ps
  rules_fit j (Back link) ps occurs given e = cc
  rules_fit j (Step rule) ps occurs given e =
      let a = answered j rule ps (rule_answer most ds lines j rule) refl e in
      let fits : OnPremises (PremiseFits j) (Ok a.premises) = subst (OnPremises (PremiseFits j)) a.is
      (rule_fits most ds lines j rule) in
      let few = premises_few _ a.premises (rule_few most ds lines occurs.cases j rule) a.is in
      record {
        few = omega (arith, few, length-map a.premises traced, ap length a.are);
        fit = λ k p at. (
            let m = mapped_at traced a.premises k p (ap (λ (xs : List (Subgoal Judgement)). slice_get xs k) a.are ∙ at)
            in
            subst (λ (q : Subgoal Judgement). AreIn q.pairs (positions_of j) (positions_of q.judgement)) m.is
            (joined j m.from.judgement m.from.pairs (each_at (PremiseFits j) a.premises k m.from m.at fits)));
      }

  links_fit : (j : Judgement) (r : Reason) (k : Judgement) (pairs : List TracePair) → MayOccur ds lines j
      → MayOccur ds lines k → IsReadable j r → companion_pairs lines j r k ≡ Ok pairs
      → AreIn pairs (positions_of j) (positions_of k)
  links_fit j (Step rule) k pairs bud companion given e = cc
  links_fit j (Back link) k pairs bud companion given e =
      let l = linked j k link pairs (program_link_fault lines j k link) refl e in
      subst (λ (ps : List TracePair). AreIn ps (positions_of j) (positions_of k)) l.are
      (joined j k (link_premise k link).pairs (link_fits j k link (variables_of lines j) (program_link_parts lines j k link l.none).0))

  pub in_order : IsInOrder (separation_logic most ds lines) (MayOccur ds lines) IsReadable
  in_order = record { same = same_judgement_is; rules = rules_fit; links = links_fit }

  -- ---- local soundness

  rules_sound : (j : Judgement) (r : Reason) (ps : List (Subgoal Judgement)) → MayOccur ds lines j → IsReadable j r
      → rule_premises most ds lines j r ≡ Ok ps → (σ : Stages) →
      ((k : ℕ) (p : Subgoal Judgement) → slice_get ps k ≡ Some p → (τ : Stages) → Falls p.pairs σ τ
      → HoldsAt ds lines τ p.judgement) → HoldsAt ds lines σ j
  rules_sound j (Back link) ps occurs given e σ hold = cc
  rules_sound j (Step rule) ps occurs given e σ hold =
      let a = answered j rule ps (rule_answer most ds lines j rule) refl e in
      let sound : IsSound ds lines j (Ok a.premises) = subst (IsSound ds lines j) a.is
      (rule_is_sound most ds lines j rule given occurs.commands) in
      sound σ (each_from (PremiseHolds ds lines σ) a.premises (λ k q at τ follows. (
      let there = ap (λ (xs : List (Subgoal Judgement)). slice_get xs k) (sym a.are) ∙ get_map traced a.premises k q at
      in
      hold k (traced q) there τ (falls_of q.pairs σ τ follows))))

  links_sound : (j : Judgement) (r : Reason) (k : Judgement) (pairs : List TracePair) → MayOccur ds lines j
      → MayOccur ds lines k → IsReadable j r → companion_pairs lines j r k ≡ Ok pairs → (σ : Stages) →
      ((τ : Stages) → Falls pairs σ τ → HoldsAt ds lines τ k) → HoldsAt ds lines σ j
  links_sound j (Step rule) k pairs bud companion given e σ hold = cc
  links_sound j (Back link) k pairs bud companion given e σ hold =
      let l = linked j k link pairs (program_link_fault lines j k link) refl e in
      let parts = program_link_parts lines j k link l.none in
      link_is_sound ds lines j k link (variables_of lines j) given (has_variables lines j) parts.1 parts.0 σ (
        λ τ follows. hold τ (subst (λ (ps : List TracePair). Falls ps σ τ) l.are
            (falls_of (link_premise k link).pairs σ τ follows)),
        tt,
      )

  pub locally_sound : IsLocallySound (separation_logic most ds lines) (MayOccur ds lines) IsReadable (Holds ds lines)
  locally_sound = record { rules = rules_sound; links = links_sound }
