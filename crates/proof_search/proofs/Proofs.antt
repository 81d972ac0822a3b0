-- What is found is a proof of the problem's goal.
use Rattle.std.proofs.Common.{◌≡◌, ℕ, ◌<◌, ◌≤◌, List, length, arith, refl, sym, ap, subst, ◌∙◌}
use Rattle.std.proofs.lemmas.Option.{slice_get_within, same_Some}
use Rattle.cyc_basics.specs.Limits.{AreLimits}
use Rattle.cyc_basics.specs.declared.limits.Limits.{Limits}
use Rattle.cyc_basics.specs.declared.limits.TheConstants.{MOST_SPATIAL}
use Rattle.heap_formula.specs.declared.judgements.Judgement.{Judgement}
use Rattle.heap_formula.specs.declared.proof_rules.Reason.{Reason}
use Rattle.heap_formula.specs.Definitions.{Definition}
use Rattle.heap_formula.specs.Judgements.{antecedent}
use Rattle.heap_formula.specs.Words.{Each}
use Rattle.heap_formula.proofs.AllMembers.{each_at, each_imply}
use Rattle.rule_table.proofs.SameJudgements.{same_judgement_self}
use Rattle.heap_syntax.specs.declared.version.Version.{Version}
use Rattle.heap_syntax.specs.declared.version.Version.TheVariants.{One, Two, Three}
use Rattle.heap_syntax.specs.Versions.{limits as limits_of}
use Rattle.heap_reader.proofs.Fitting.{most_fits}
use Rattle.goto_lang.specs.Lines.{IsProgram}
use Rattle.symbolic_exec.proofs.ProgramLines.{program_commands}
use Rattle.buchi_inclusion.specs.Answers.{state_limit}
use Rattle.formula_reader.specs.declared.problem.Problem.{Problem}
use Rattle.formula_reader.specs.Nodes.{IsNodeWithin}
use Rattle.proof_file.specs.declared.file.ProofFile.{ProofFile}
use Rattle.proof_file.specs.FileNodes.{FileNode}
use Rattle.proof_check.specs.Files.{HasSmallHeaps}
use Rattle.proof_check.proofs.KeptFacts.{root_holds}
use Rattle.rule_book.specs.Limits.{IsDefinitionWithin, IsHeapWithin, IsJudgementWithin, AreEndsWithin}
use Rattle.rule_book.proofs.Heaps.{short_spatials}
use Rattle.rule_book.proofs.Judgements.{first_heap}
use Rattle.search_moves.specs.Limits.{IsSmall}
use Rattle.search_moves.specs.Settings.{theory}
use Rattle.search_moves.specs.Trying.{Theory}
use Rattle.derivations.specs.Derivations.{search_in}
use Rattle.derivations.specs.Found.{IsSearchOf, IsProof}
use Rattle.derivations.specs.Outcomes as search
use Rattle.derivations.specs.Search.{system_of}
use Rattle.derivations.specs.System.{search_of, IsFound}
use Rattle.derivations.specs.Tableau.{Tableau, replay}
use Rattle.derivations.specs.declared.found.searching.Proved.{Proved as ProvedBy}
use Rattle.derivations.specs.declared.found.searching.Proved.TheVariants as searched
use Rattle.derivations.proofs.Firsts.{first_found}
use Rattle.proof_search.specs.declared.prover.Proved.{Proved}
use Rattle.proof_search.specs.declared.prover.Proved.TheVariants.{Found, NotFound, TooManyDerivations, TooManyStates}
use Rattle.proof_search.specs.Calculus.{logic_over, calculus_of}
use Rattle.proof_search.specs.Found.{nodes_made, AreProof}
use Rattle.proof_search.specs.Moves.{Moves, calculus_in, occurs_in, allows_in, IsOfProblem}
use Rattle.proof_search.specs.Outcomes.{theory_for, search_for, outcome_of, IsFirst, IsFileOf, IsOver, IsProofFor}
use Rattle.proof_search.specs.Outcomes.{IsProved, MayStandIn}
use Rattle.proof_search.specs.Problems.{IsWithinLimits, MayGive}
use Rattle.proof_search.proofs.Fair.{separation_logic_fair}
use Rattle.proof_search.proofs.FileFound.{makes_proof}

-- ---- problems are within the limits

-- each version allows a spatial atom
some_atoms : (version : Version) → 0 < (limits_of version).spatial
some_atoms One = omega arith
some_atoms Two = omega arith
some_atoms Three = omega arith

limit_bounded : (problem : Problem) → AreLimits problem.defs.most
limit_bounded problem = subst (λ (most : Limits). AreLimits most) (sym problem.limit) (most_fits problem.version)

limit_positive : (problem : Problem) → 0 < problem.defs.most.spatial
limit_positive problem = subst (λ (most : Limits). 0 < most.spatial) (sym problem.limit) (some_atoms problem.version)

pub within : (problem : Problem) → Each (IsDefinitionWithin problem.defs.most problem.defs.list) problem.defs.list
    → IsProgram problem.program → AreEndsWithin problem.defs.most problem.defs.list problem.program
    → IsJudgementWithin problem.defs.most problem.defs.list (length problem.program) problem.goal
    → IsWithinLimits (theory_for problem) problem.goal
within problem definitions program ends goal = record {
  some = limit_positive problem;
  most = limit_bounded problem;
  definitions = definitions;
  program = program;
  ends = ends;
  goal_within = goal;
}

-- their definitions are small
pub are_small : (t : Theory) (j : Judgement) → IsWithinLimits t j → Each IsSmall t.definitions
are_small t j h =
    each_imply (IsDefinitionWithin t.most t.definitions) IsSmall
    (λ d w. record {
      parameters = omega (arith, w.arity, h.most.arguments);
      cases = omega (arith, w.few, h.most.cases);
    }) t.definitions h.definitions

-- ---- the search

-- the calculus of the moves is that of the problem's theory
pub is_search : (problem : Problem) (start : Moves) → IsOfProblem problem start
    → IsSearchOf (logic_over (theory_for problem)) (calculus_in start.logic) (occurs_in start.logic)
    (allows_in start.logic)
is_search problem start is =
    subst (λ t. IsSearchOf (logic_over (theory_for problem)) (calculus_of t) (IsWithinLimits t) (MayGive t))
    (sym is.theory)
    (record { is = refl; fair = separation_logic_fair (theory_for problem); itself = same_judgement_self })

-- and their search that for a proof of its goal
pub same_search : (problem : Problem) (start : Moves) → IsOfProblem problem start
    → search_in calculus_in start ≡ search_for problem
same_search problem start is = λ i. system_of (calculus_of (is.theory i)) (is.limit i) state_limit (is.root i)

few_atoms : (most : Limits) → AreLimits most → (ds : List Definition) (count : ℕ) (j : Judgement)
    → IsJudgementWithin most ds count j → length (antecedent j).spatial ≤ MOST_SPATIAL
few_atoms most bounded ds count j h =
    let few = short_spatials most (antecedent j) (first_heap (IsHeapWithin most ds) j h.heaps).short in
    omega (arith, few, bounded.spatial)

small_heaps : (t : Theory) (nodes : List FileNode) → AreLimits t.most
    → Each (IsNodeWithin t.most t.definitions (length t.lines)) nodes → HasSmallHeaps nodes
small_heaps t nodes bounded each v node at =
    let w = each_at (IsNodeWithin t.most t.definitions (length t.lines)) nodes v node at each in
    few_atoms t.most bounded t.definitions (length t.lines) node.judgement w.judgement

module _ (problem : Problem) (may : IsWithinLimits (theory_for problem) problem.goal) (most depth : ℕ) where
  abbrev t : Theory
  t = theory_for problem

  found_is : (nodes : List FileNode) → search.IsFoundProof (logic_over t) (calculus_of t) problem.goal nodes →
      IsFound (search.reasons_of nodes) ≡ search_of (search_for problem) most depth → AreProof t problem.goal nodes
  found_is nodes is found =
      let makes = makes_proof t problem.goal most depth (search.reasons_of nodes) may (sym found) in
      let same : makes.tableau ≡ is.tableau = same_Some makes.tableau is.tableau (sym makes.made ∙ is.made) in
      subst (AreProof t problem.goal) (sym is.are)
      (subst (λ (b : Tableau Judgement Reason). AreProof t problem.goal (nodes_made b)) same makes.proof)

  -- ---- what the search came to, as a file

  -- what is found may stand in a file
  pub may_stand : (p : ProvedBy Judgement Reason) → search.outcome_of p ≡ search_of (search_for problem) most depth
      → search.IsProved (logic_over t) (calculus_of t) problem.goal p → MayStandIn problem p
  may_stand (searched.Found nodes) e is =
      let are = found_is nodes.items is e in
      let some = slice_get_within nodes.items 0 are.proof.root are.proof.is_root in
      (omega (arith, some), are.few, are.within)
  may_stand searched.NotFound e is = tt
  may_stand searched.TooManyDerivations e is = tt
  may_stand searched.TooManyStates e is = tt

  module _ (f : ProofFile) (nodes : List FileNode) (of_problem : IsFileOf problem nodes f)
      (is : search.IsFoundProof (logic_over t) (calculus_of t) problem.goal nodes)
      (are : AreProof t problem.goal nodes) where
    in_file : IsProof (logic_over (theory f.defs f.program)) problem.goal f.nodes
    in_file = subst (λ (ns : List FileNode). IsProof (logic_over (theory f.defs f.program)) problem.goal ns)
        (sym of_problem.nodes)
        (subst (λ ds. IsProof (logic_over (theory ds f.program)) problem.goal nodes) (sym of_problem.definitions)
        (subst (λ lines. IsProof (logic_over (theory problem.defs lines)) problem.goal nodes)
        (sym of_problem.program) are.proof))

    heaps : HasSmallHeaps f.nodes
    heaps = subst (λ ns. HasSmallHeaps ns) (sym of_problem.nodes) (small_heaps t nodes may.most are.within)

    is_proof : IsProofFor problem f
    is_proof = record {
      version = of_problem.version;
      definitions = of_problem.definitions;
      program = of_problem.program;
      tableau = is.tableau;
      made = ap (λ (ns : List FileNode). replay (calculus_of t) problem.goal (search.reasons_of ns)) of_problem.nodes
          ∙ is.made;
      nodes = of_problem.nodes ∙ is.are;
      root = in_file.root;
      is_root = in_file.is_root;
      goal = in_file.proves;
      correct = in_file.correct;
      states = in_file.states;
      holds = root_holds f (program_commands f.program (subst IsProgram (sym of_problem.program) may.program))
          in_file.correct.nodes heaps in_file.correct.paths;
    }

  pub is_outcome : (p : ProvedBy Judgement Reason) (q : Proved) → IsOver problem p q
      → search.outcome_of p ≡ search_of (search_for problem) most depth
      → outcome_of q ≡ search_of (search_for problem) most depth
  is_outcome (searched.Found nodes) (Found f) over e =
      ap (λ (ns : List FileNode). IsFound (search.reasons_of ns)) over.nodes ∙ e
  is_outcome searched.NotFound NotFound over e = e
  is_outcome searched.TooManyDerivations TooManyDerivations over e = e
  is_outcome searched.TooManyStates TooManyStates over e = e
  is_outcome _ _ over e = absurd over

  pub is_first : (q : Proved) → outcome_of q ≡ search_of (search_for problem) most depth → IsFirst problem depth q
  is_first (Found f) e = first_found (search_for problem) most 1 depth _ (sym e)
  is_first NotFound e = tt
  is_first TooManyDerivations e = tt
  is_first TooManyStates e = tt

  pub is_proved : (p : ProvedBy Judgement Reason) (q : Proved) → IsOver problem p q
      → search.outcome_of p ≡ search_of (search_for problem) most depth
      → search.IsProved (logic_over t) (calculus_of t) problem.goal p → IsProved problem q
  is_proved (searched.Found nodes) (Found f) over e is = is_proof f nodes.items over is (found_is nodes.items is e)
  is_proved searched.NotFound NotFound over e is = tt
  is_proved searched.TooManyDerivations TooManyDerivations over e is = tt
  is_proved searched.TooManyStates TooManyStates over e is = tt
  is_proved _ _ over e is = absurd over
