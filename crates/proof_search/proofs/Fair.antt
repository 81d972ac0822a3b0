-- The offers suit separation logic: judgements and reasons stay within the limits.
use Rattle.std.proofs.Common.{◌≡◌, ℕ, ◌⊎◌, inl, inr, arith, List, map, Some, Ok, slice_get, refl, ap}
use Rattle.std.proofs.Common.{Err, None, subst, ◌∙◌}
use Rattle.heap_formula.specs.declared.terms.Term.{Term}
use Rattle.heap_formula.specs.declared.judgements.Judgement.{Judgement}
use Rattle.heap_formula.specs.declared.judgements.Premise.{Premise}
use Rattle.heap_formula.specs.declared.proof_rules.Link.{Link}
use Rattle.heap_formula.specs.declared.proof_rules.Reason.{Reason}
use Rattle.heap_formula.specs.declared.proof_rules.Reason.TheVariants.{Step, Back}
use Rattle.heap_formula.specs.Closedness.{IsUniversal}
use Rattle.heap_formula.specs.Judgements.{antecedent}
use Rattle.heap_formula.specs.Words.{Each}
use Rattle.heap_formula.proofs.AllMembers.{each_at, each_imply, each_mapped}
use Rattle.symbolic_exec.proofs.ProgramLines.{program_commands}
use Rattle.trace_pairs.specs.Graph.{IsPositionSet}
use Rattle.proof_graph.specs.Traces.{positions_of}
use Rattle.proof_graph.proofs.Joined.{mapped_at}
use Rattle.proof_graph.proofs.Places.{places_set}
use Rattle.logics.specs.declared.premises.Subgoal.{Subgoal}
use Rattle.rule_table.specs.Answer.{Answer}
use Rattle.rule_table.specs.Judgements.{IsReadable}
use Rattle.rule_table.specs.RuleBook.{rule_answer}
use Rattle.rule_book.specs.Limits.{IsHeapWithin, IsPairWithin, IsRuleWithin, IsReasonWithin}
use Rattle.rule_book.specs.LogicLaws.{in_order}
use Rattle.rule_book.specs.SeparationLogic.{traced, traced_answer, rule_premises, target_of, MayOccur}
use Rattle.rule_book.proofs.Few.{are_few}
use Rattle.rule_book.proofs.Heaps.{small}
use Rattle.rule_book.proofs.Judgements.{first_heap}
use Rattle.rule_book.proofs.ReasonPremises.{premises_within}
use Rattle.derivations.specs.Fair.{AllOccur, IsFair}
use Rattle.derivations.specs.Firsts.{IsIn}
use Rattle.derivations.specs.Searches.{Suits}
use Rattle.derivations.proofs.Fairness.{fair}
use Rattle.search_moves.specs.Nodes.{OpenGoal, MadeNode}
use Rattle.search_moves.specs.Offering.{links_offered, rules_offered}
use Rattle.search_moves.specs.Trying.{Theory}
use Rattle.proof_search.specs.Calculus.{logic_over, links_at, rules_at, calculus_of}
use Rattle.proof_search.specs.Problems.{IsWithinLimits, MayGive}
use Rattle.proof_search.proofs.LinksWithin.{links_within}
use Rattle.proof_search.proofs.RulesWithin.{rules_within}

-- ---- answers

-- an answer with these premises
record HasAnswer (answer : Answer) (ps : List (Subgoal Judgement)) : Type 0 where
  premises : List Premise
  is_answer : answer ≡ Ok premises
  are : map traced premises ≡ ps

answer_of : (answer : Answer) (ps : List (Subgoal Judgement)) → traced_answer answer ≡ Ok ps → HasAnswer answer ps
answer_of (Ok qs) ps h = let e : map traced qs ≡ ps = cc in record { premises = qs; is_answer = refl; are = e }
answer_of (Err f) ps h = cc

-- ---- offers

module _ (t : Theory) where
  -- what occurs in a search may stand in a proof
  pub stands : (j : Judgement) → IsWithinLimits t j → MayOccur t.definitions t.lines j
  stands j h = record {
    commands = program_commands t.lines h.program;
    cases = are_few t.most t.definitions h.most t.definitions h.definitions;
  }

  pub readable : (j : Judgement) (r : Reason) → IsWithinLimits t j → MayGive t r → IsReadable j r
  readable j (Step rule) h given = h.goal_within.universal
  readable j (Back link) h given = each_imply IsPairWithin (λ (pair : ℕ × Term). IsUniversal pair.1)
      (λ pair within. within.1.0) link.subst given

  positions_set : (j : Judgement) → IsWithinLimits t j → IsPositionSet (positions_of j)
  positions_set j h =
      let few = (small t.most t.definitions (antecedent j)
      (first_heap (IsHeapWithin t.most t.definitions) j h.goal_within.heaps)).spatials in
      places_set (antecedent j).spatial (omega (arith, few, h.most.spatial))

  premises_occur : (j : Judgement) (r : Reason) (ps : List (Subgoal Judgement)) → IsWithinLimits t j → MayGive t r
      → rule_premises t.most t.definitions t.lines j r ≡ Ok ps → (k : ℕ) (p : Subgoal Judgement)
      → slice_get ps k ≡ Some p → IsWithinLimits t p.judgement
  premises_occur j (Back link) ps h given e k p at = cc
  premises_occur j (Step rule) ps h given e k p at =
      let a = answer_of (rule_answer t.most t.definitions t.lines j rule) ps e in
      let m = mapped_at traced a.premises k p (ap (λ (xs : List (Subgoal Judgement)). slice_get xs k) a.are ∙ at) in
      let within = each_at _ a.premises k m.from m.at (premises_within t.most t.definitions t.lines j rule a.premises
      h.definitions h.program h.ends h.goal_within given a.is_answer) in
      subst (λ (q : Subgoal Judgement). IsWithinLimits t q.judgement) m.is
      (record {
        some = h.some;
        most = h.most;
        definitions = h.definitions;
        program = h.program;
        ends = h.ends;
        goal_within = within;
      })

  offered : (nodes : List MadeNode) (g : OpenGoal) (r : Reason) → AllOccur (IsWithinLimits t) nodes g
      → IsIn (links_at t nodes g) r ⊎ IsIn (rules_at t nodes g) r → MayGive t r
  offered nodes g r occur offer =
      elim offer [
        | inl link ↦ each_at (MayGive t) (links_at t nodes g) link.place r link.at
            (each_mapped (MayGive t) Back (links_offered t nodes g) links)
        | inr rule ↦ each_at (MayGive t) (rules_at t nodes g) rule.place r rule.at
            (each_mapped (MayGive t) Step (rules_offered t nodes g) rules)
      ]
    where
      links : Each (λ (link : Link). IsReasonWithin t.most t.definitions (Back link)) (links_offered t nodes g)
      links = links_within t nodes g occur.goal.goal_within (λ v m at. (occur.made v m at).goal_within)

      rules : Each (IsRuleWithin t.most t.definitions) (rules_offered t nodes g)
      rules = rules_within t nodes g occur.goal.some occur.goal.most occur.goal.definitions occur.goal.program
          occur.goal.goal_within

  -- the rules that are offered are no links
  lead_forth : (nodes : List MadeNode) (g : OpenGoal) (r : Reason) → IsIn (rules_at t nodes g) r
      → target_of r ≡ None
  lead_forth nodes g r is =
      let m = mapped_at Step (rules_offered t nodes g) is.place r is.at in
      subst (λ (x : Reason). target_of x ≡ None) m.is refl

  pub suits : Suits (logic_over t) (MayOccur t.definitions t.lines) IsReadable (links_at t) (rules_at t)
      (IsWithinLimits t) (MayGive t)
  suits = record {
    stands = stands;
    given = readable;
    positions = positions_set;
    premises = premises_occur;
    offers = offered;
    forth = lead_forth;
  }

  pub separation_logic_fair : IsFair (calculus_of t) (IsWithinLimits t) (MayGive t)
  separation_logic_fair = fair (logic_over t) (MayOccur t.definitions t.lines) IsReadable
      (in_order t.most t.definitions t.lines) (links_at t) (rules_at t) (IsWithinLimits t) (MayGive t) suits
