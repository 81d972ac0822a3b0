-- The nodes of the proof may stand in a file.
use Rattle.std.proofs.Common.{◌≡◌, ℕ, ◌≤◌, List, [], ◌∷◌, map, Option, Some, None, slice_get, length, refl, subst}
use Rattle.std.proofs.Common.{arith}
use Rattle.std.specs.Prelude.{Ok, Err}
use Rattle.std.proofs.lemmas.Option.{slice_get_within}
use Rattle.heap_formula.specs.declared.judgements.Judgement.{Judgement}
use Rattle.heap_formula.specs.declared.judgements.Premise.{Premise}
use Rattle.heap_formula.specs.declared.proof_rules.Reason.{Reason}
use Rattle.heap_formula.specs.declared.proof_rules.Reason.TheVariants.{Step, Back}
use Rattle.heap_formula.specs.declared.proof_rules.RuleFault.{RuleFault}
use Rattle.heap_formula.specs.Words.{Each}
use Rattle.heap_formula.proofs.Members.{each_from}
use Rattle.rule_table.specs.Answer.{Answer}
use Rattle.rule_table.specs.LinkTable.{link_premise}
use Rattle.rule_table.specs.RuleBook.{variables_of, rule_answer, program_link_fault}
use Rattle.rule_book.specs.ProgramLinks.{program_link_parts}
use Rattle.rule_book.specs.Limits.{HasShortNumbers, IsShortNumber}
use Rattle.rule_book.proofs.Shorts.{rule_short, link_short}
use Rattle.trace_pairs.specs.Graph.{Edge, Pair}
use Rattle.rule_book.specs.SeparationLogic.{traced_answer, pairs_unless, target_of}
use Rattle.proof_file.specs.FileNodes.{FileNode}
use Rattle.formula_reader.specs.Nodes.{IsNodeWithin}
use Rattle.search_moves.specs.Trying.{Theory}
use Rattle.derivations.specs.Tableau.{Subgoal, Tableau}
use Rattle.derivations.specs.Nodes.{MayStand}
use Rattle.derivations.proofs.Made.{AllLead}
use Rattle.derivations.specs.LogicNodes.{numbers_by}
use Rattle.derivations.proofs.LogicMade.{IsBy, AreNodes}
use Rattle.derivations.proofs.LogicRows.{row_of}
use Rattle.search_moves.specs.Nodes.{MadeNode, judgement_of}
use Rattle.proof_search.specs.Calculus.{logic_over}
use Rattle.proof_search.specs.Found.{nodes_made}
use Rattle.proof_search.specs.Problems.{IsWithinLimits, MayGive}

targets_short : (nodes : List MadeNode) (v : ℕ) (ps : List (Subgoal Judgement)) (es : List Edge) →
    length nodes ≤ 20000 → AllLead nodes v ps es → Each IsShortNumber (map (λ (e : Edge). e.target) es)
targets_short nodes v [] [] few led = tt
targets_short nodes v (p ∷ ps) (e ∷ es) few led =
    let within = slice_get_within nodes e.target led.0.node led.0.is_node in
    (omega arith, targets_short nodes v ps es few led.1)
targets_short nodes v ps es few led = absurd led

-- a rule that leaves subgoals has no fault
answer_of : (answer : Answer) (ps : List (Subgoal Judgement)) → traced_answer answer ≡ Ok ps
    → (qs : List Premise) × (answer ≡ Ok qs)
answer_of (Ok qs) ps e = (qs, refl)
answer_of (Err f) ps e = cc

-- nor has a link that gives pairs
no_fault : (o : Option RuleFault) (premise : Premise) (pairs : List Pair) → pairs_unless o premise ≡ Ok pairs → o ≡ None
no_fault None premise pairs e = refl
no_fault (Some f) premise pairs e = cc

module _ (t : Theory) (b : Tableau Judgement Reason) (all' : AreNodes (logic_over t) b) (few : length b.nodes ≤ 20000) where
  reason_short : (v : ℕ) (j : Judgement) (r : Reason) (es : List Edge) → IsWithinLimits t j
      → IsBy (logic_over t) b.nodes v j r (target_of r) es →
      HasShortNumbers r
  reason_short v j (Step rule) es within by =
      let a = answer_of (rule_answer t.most t.definitions t.lines j rule) by.premises by.is_answer in
      rule_short t.most within.most t.definitions t.lines j a.0 within.definitions within.goal_within rule a.1
  reason_short v j (Back link) es within by =
      let less = slice_get_within b.nodes link.target by.companion by.is_companion in
      let k = judgement_of by.companion in
      let none = no_fault (program_link_fault t.lines j k link) (link_premise k link) by.pairs by.is in
      let fits = (program_link_parts t.lines j k link none).0 in
      link_short t.most t.definitions (length t.lines) (variables_of t.lines j) j k link within.most within.goal_within
      fits (omega arith)

  numbers_short : (v : ℕ) (j : Judgement) (r : Reason) (o : Option ℕ) (es : List Edge)
      → IsBy (logic_over t) b.nodes v j r o es →
      Each IsShortNumber (numbers_by o es)
  numbers_short v j r None es by = targets_short b.nodes v by.premises es few by.edges
  numbers_short v j r (Some target) es by = tt

  pub all_within : MayStand (IsWithinLimits t) (MayGive t) b →
      Each (IsNodeWithin t.most t.definitions (length t.lines)) (nodes_made b)
  all_within stand = each_from (IsNodeWithin t.most t.definitions (length t.lines)) (nodes_made b) each
    where
      each : (v : ℕ) (x : FileNode) → slice_get (nodes_made b) v ≡ Some x →
          IsNodeWithin t.most t.definitions (length t.lines) x
      each v x at =
          let f = row_of (logic_over t) b all' v x at in
          let s = stand v f.m f.is_m in
          subst (IsNodeWithin t.most t.definitions (length t.lines)) f.is (record {
            judgement = s.0.goal_within;
            reason = s.1;
            numbers = reason_short v (judgement_of f.m) f.m.reason f.made.traces.edges s.0 f.made.by;
            premises = numbers_short v (judgement_of f.m) f.m.reason (target_of f.m.reason)
                f.made.traces.edges f.made.by;
          })
