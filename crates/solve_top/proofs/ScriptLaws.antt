-- What is written of a script that is solved.
use Rattle.std.proofs.Common.{◌≡◌, ◌∙◌, ◌⊎◌, ap, subst, sym, refl, inl, inr, ℕ, List, [], true, false}
use Rattle.std.specs.Prelude.{Ok, Err, IfOk, Result}
use Rattle.cyc_runs.specs.declared.answers.Answer.{Answer}
use Rattle.heap_formula.specs.declared.judgements.Judgement.{Judgement}
use Rattle.heap_formula.specs.Definitions.{Definition}
use Rattle.heap_formula.specs.Judgements.{Concludes, antecedent}
use Rattle.heap_formula.specs.Meaning.{Satisfies}
use Rattle.heap_formula.specs.Symbolic.{SymbolicHeap}
use Rattle.cyc_runs.specs.declared.endings.Status.{Status}
use Rattle.cyc_runs.specs.declared.endings.Status.TheVariants as status
use Rattle.formula_reader.specs.declared.problem.Problem.{Problem}
use Rattle.formula_reader.specs.Reading as problems
use Rattle.model_file.specs.declared.file.Model.{Model}
use Rattle.model_file.specs.Written.{text_of_model}
use Rattle.model_file.proofs.Readings as model_readings
use Rattle.proof_file.proofs.TextReadings as proof_readings
use Rattle.command_answers.specs.Answers.{IsPossible, IsReadAnswer}
use Rattle.command_answers.specs.Answers.{IsAsked as IsPossibleAnswer}
use Rattle.command_answers.proofs.Impossible.{impossible_holds}
use Rattle.command_answers.proofs.OneAnswer.{success_possible, refusal_impossible}
use Rattle.script_answers.specs.Refusals.{is_refusal}
use Rattle.script_formulas.specs.declared.goals.question.Question.{Question}
use Rattle.script_formulas.specs.declared.goals.question.Question.TheVariants.{Entailment, Satisfiability}
use Rattle.solver.specs.declared.solution.Refutation.TheVariants.{CounterModel, FaultyRun}
use Rattle.solver.specs.declared.solution.Solution.{Solution}
use Rattle.solver.specs.declared.solution.Solution.TheVariants.{Proved, Impossible, Refuted, Unknown}
use Rattle.solver.specs.Solutions.{Holds, IsCounterModel, IsSolution}
use Rattle.script_answers.specs.Begins.{is_script_text}
use Rattle.solve_top.specs.Answers.{IsAsked, IsPossibilitySaid, IsScriptAnswer, IsScriptSaid, IsSolvedScript}
use Rattle.solve_top.specs.Answers.{is_entailment, proof_text, sat_line, unsat_line}
use Rattle.solve_top.specs.declared.possibilities.Possibility.TheVariants.{Possible}
use Rattle.solve_top.specs.declared.possibilities.Possibility.TheVariants.{Impossible as NotPossible}
use Rattle.script_formulas.specs.Meaning.{IsSatisfiable}
use Rattle.script_formulas.proofs.GoalLaws.{satisfiable_refuted, holds_unrefuted, failing_satisfiable}
use Rattle.script_formulas.proofs.GoalLaws.{possible_satisfiable}
use Rattle.command_answers.proofs.Readings.{one_problem_reading}
use Rattle.script_answers.specs.Asking.{IsGoalOfInput}
use Rattle.solve_top.specs.Possibilities.{IsKnown, IsKnownFor}
use Rattle.solve_top.specs.Written.{IsOverProblem, IsSatText, IsUnsatText, ScriptIsSolved}

over : (first text spelled certificate : List ℕ) (p : Problem) → problems.IsRead spelled (Ok p)
    → IsAsked first spelled certificate text → IsOverProblem first text p certificate
over first text spelled certificate p is said = record {
  notes = said.notes;
  are_notes = said.are_notes;
  spelled = spelled;
  is_problem = is;
  is = said.is;
}

-- a counter-model satisfies the antecedent
possible : (p : Problem) (m : Model) → IsCounterModel p m → IsPossible p
possible p m counter = (
  m.stack,
  m.heap,
  subst (λ (a : SymbolicHeap). Satisfies p.defs.list m.stack m.heap a)
      (sym (ap antecedent counter.goal)) counter.antecedent,
)

-- ---- what the script's own meaning is then

module _ (input : List ℕ) (question : Question) (p : Problem)
    (asked : IsGoalOfInput input question p.defs.list p.goal) where
  no_model : Holds p → IsSatisfiable asked.script → ⊥
  no_model holds can =
      holds_unrefuted asked.script question p.defs.list p.goal asked.predicates asked.asks p.program holds
      (satisfiable_refuted asked.script question p.defs.list p.goal asked.predicates asked.asks can)

  model_of_counter : (m : Model) → IsCounterModel p m → IsSatisfiable asked.script
  model_of_counter m counter =
      failing_satisfiable asked.script question p.defs.list p.goal asked.predicates asked.asks p.program m.stack m.heap
      (subst (λ (a : SymbolicHeap). Satisfies p.defs.list m.stack m.heap a) (sym (ap antecedent counter.goal))
      counter.antecedent)
      (λ concludes. counter.none (subst (λ j. Concludes p.defs.list p.program j m.stack m.heap) counter.goal concludes))

-- a run that ends so has answered
abbrev Answered : Status → Type 0
Answered ending = (ending ≡ status.Success) ⊎ (ending ≡ status.Refused)

no_unknown : (ending : Status) → Answered ending → ending ≡ status.NotFound → ⊥
no_unknown ending (inl e) f = let h : status.Success ≡ status.NotFound = sym e ∙ f in cc
no_unknown ending (inr e) f = let h : status.Refused ≡ status.NotFound = sym e ∙ f in cc

module _ (input : List ℕ) (question : Question) (p : Problem) (spelled text : List ℕ) (ending : Status)
    (is : problems.IsRead spelled (Ok p)) (asked : IsGoalOfInput input question p.defs.list p.goal) where
  found_text : Answered ending → (found : Solution) → IsSolution p found → is_entailment p.goal ≡ true
      → IsScriptSaid question spelled found ending text → IsUnsatText input text ⊎ IsSatText input text
  found_text ended (Proved found) proof entails said =
      inl (record {
        question = question;
        problem = p;
        asks = asked;
        certificate = proof_text found.file;
        over = over unsat_line text spelled (proof_text found.file) p is said.1;
        holds = proof.holds;
        shown = inl (found.file, proof, proof_readings.text_is_read found.file);
        unsatisfiable = no_model input question p asked proof.holds;
      })
  found_text ended Impossible none entails said =
      inl (record {
        question = question;
        problem = p;
        asks = asked;
        certificate = [];
        over = over unsat_line text spelled [] p is said.1;
        holds = none.holds;
        shown = inr (none.impossible, refl);
        unsatisfiable = no_model input question p asked none.holds;
      })
  found_text ended (Refuted (CounterModel m)) counter entails said =
      inr (record {
        question = question;
        problem = p;
        asks = asked;
        certificate = text_of_model m.version m.defs.list m.stack m.heap m.ask;
        over = over sat_line text spelled (text_of_model m.version m.defs.list m.stack m.heap m.ask) p is said.1;
        possible = possible p m counter;
        shown = inl (m, counter, model_readings.text_is_read m);
        satisfiable = model_of_counter input question p asked m counter;
      })
  found_text ended (Refuted (FaultyRun r)) faulty entails said =
      absurd (let h : false ≡ true = sym (ap is_entailment faulty.goal) ∙ entails in cc)
  found_text ended (Unknown stuck) none entails said = absurd (no_unknown ending ended said.0)

known_text : (input : List ℕ) (question : Question) (p : Problem) (spelled text : List ℕ) (ending : Status)
    → problems.IsRead spelled (Ok p) → IsGoalOfInput input question p.defs.list p.goal
    → IsPossibilitySaid question p spelled ending text → IsUnsatText input text ⊎ IsSatText input text
known_text input Entailment p spelled text ending is asked said = absurd said
known_text input Satisfiability p spelled text ending is asked (inl can) =
    inr (record {
      question = Satisfiability;
      problem = p;
      asks = asked;
      certificate = [];
      over = over sat_line text spelled [] p is can.2;
      possible = can.0;
      shown = inr (can.0, refl);
      satisfiable = possible_satisfiable asked.script Satisfiability p.defs.list p.goal asked.predicates asked.asks
          refl can.0.0 can.0.1 can.0.2;
    })
known_text input Satisfiability p spelled text ending is asked (inr cannot) =
    inl (record {
      question = Satisfiability;
      problem = p;
      asks = asked;
      certificate = [];
      over = over unsat_line text spelled [] p is cannot.2;
      holds = impossible_holds p.defs.list p.program p.goal cannot.0;
      shown = inr (cannot.0, refl);
      unsatisfiable = no_model input Satisfiability p asked (impossible_holds p.defs.list p.program p.goal cannot.0);
    })

solved_text : (input text : List ℕ) (ending : Status) → Answered ending → (solved : IsSolvedScript input ending text)
    → IsUnsatText input text ⊎ IsSatText input text
solved_text input text ending ended solved = by_said solved.said
  where
    by_said : ((found : Solution) × IsSolution solved.problem found × (is_entailment solved.problem.goal ≡ true)
        × IsScriptSaid solved.question solved.spelled found ending text)
        ⊎ IsPossibilitySaid solved.question solved.problem solved.spelled ending text
        → IsUnsatText input text ⊎ IsSatText input text
    by_said (inl found)
        = found_text input solved.question solved.problem solved.spelled text ending solved.is_problem solved.asks ended
        found.0 found.1 found.2 found.3
    by_said (inr known) = known_text input solved.question solved.problem solved.spelled text ending solved.is_problem
        solved.asks known

-- a script was answered with yes or no
pub script_is_solved : (input text : List ℕ) (ending : Status) → is_script_text input ≡ true → is_refusal ending ≡ false
    → Answered ending → IsScriptAnswer input ending text → ScriptIsSolved input text
script_is_solved input text ending script plain ended (inl refused) = absurd
    (let h : false ≡ true = sym plain ∙ refused in cc)
script_is_solved input text ending script plain ended (inr solved) = record
    { script = script; shown = solved_text input text ending ended solved }

-- ---- what base pairs tell of a problem

pub known_possible : (text line : List ℕ) (ending : Status) → IsPossibleAnswer text ending line
    → ending ≡ status.Success → IsKnown text Possible
known_possible text line ending asked e =
    success_possible text asked.1 line asked.2 (subst (λ s. IsReadAnswer asked.1 s line) e asked.3)

pub known_impossible : (text line : List ℕ) (ending : Status) → IsPossibleAnswer text ending line
    → ending ≡ status.Refused → IsKnown text NotPossible
known_impossible text line ending asked e =
    refusal_impossible text asked.1 line asked.2 (subst (λ s. IsReadAnswer asked.1 s line) e asked.3)

-- a text spells one problem
same_possible : (text : List ℕ) (p q : Problem) → problems.IsRead text (Ok p) → problems.IsRead text (Ok q)
    → IsPossible q → IsPossible p
same_possible text p q is other can =
    let same : problems.AreSame p q = one_problem_reading text (Ok p) (Ok q) is other in (
      can.0,
      can.1,
      subst (λ j. Satisfies p.defs.list can.0 can.1 (antecedent j)) (sym same.goal)
          (subst (λ ds. Satisfies ds can.0 can.1 (antecedent q.goal)) (sym same.definitions) can.2),
    )

pub solved_possible : (input : List ℕ) (question : Question) (p : Problem) (spelled text : List ℕ)
    → problems.IsRead spelled (Ok p) → IsGoalOfInput input question p.defs.list p.goal
    → IsKnownFor question spelled Possible → IsAsked sat_line spelled [] text
    → IsSolvedScript input status.Success text
solved_possible input Entailment p spelled text is asked known said = absurd cc
solved_possible input Satisfiability p spelled text is asked known said = record {
  question = Satisfiability;
  problem = p;
  asks = asked;
  spelled = spelled;
  is_problem = is;
  said = inr (inl (same_possible spelled p known.0 is known.1 known.2, refl, said));
}

pub solved_impossible : (input : List ℕ) (question : Question) (p : Problem) (spelled text : List ℕ)
    → problems.IsRead spelled (Ok p) → IsGoalOfInput input question p.defs.list p.goal
    → IsKnownFor question spelled NotPossible → IsAsked unsat_line spelled [] text
    → IsSolvedScript input status.Refused text
solved_impossible input Entailment p spelled text is asked known said = absurd cc
solved_impossible input Satisfiability p spelled text is asked known said = record {
  question = Satisfiability;
  problem = p;
  asks = asked;
  spelled = spelled;
  is_problem = is;
  said = inr (inr (λ can. known.2 (same_possible spelled known.0 p known.1 is can), refl, said));
}

pub solved_asked : {E : Type 0} (input : List ℕ) (question : Question) (p : Problem) (spelled : List ℕ)
    (found : Solution) → problems.IsRead spelled (Ok p) → IsGoalOfInput input question p.defs.list p.goal
    → IsSolution p found → is_entailment p.goal ≡ true → (answer : Result Answer E)
    → IfOk answer (λ a. IsScriptSaid question spelled found a.status a.text.items)
    → IfOk answer (λ a. IsSolvedScript input a.status a.text.items)
solved_asked input question p spelled found is asked solution entails (Ok a) said = record {
  question = question;
  problem = p;
  asks = asked;
  spelled = spelled;
  is_problem = is;
  said = inl (found, solution, entails, said);
}
solved_asked input question p spelled found is asked solution entails (Err e) said = tt

-- what is solved is an answer
pub solved_answers : {E : Type 0} (input : List ℕ) (answer : Result Answer E)
    → IfOk answer (λ a. IsSolvedScript input a.status a.text.items)
    → IfOk answer (λ a. IsScriptAnswer input a.status a.text.items)
solved_answers input (Ok a) solved = inr solved
solved_answers input (Err e) solved = tt

-- where the problem that is read has the goal that the script became
pub answered_with : {E : Type 0} (input : List ℕ) (question : Question) (p : Problem) (ds : List Definition)
    (goal : Judgement) (answer : Result Answer E) → p.defs.list ≡ ds → p.goal ≡ goal
    → IsGoalOfInput input question ds goal
    → (IsGoalOfInput input question p.defs.list p.goal → IfOk answer (λ a. IsSolvedScript input a.status a.text.items))
    → IfOk answer (λ a. IsScriptAnswer input a.status a.text.items)
answered_with input question p ds goal answer e f asked solve =
    solved_answers input answer (solve (subst (λ l. IsGoalOfInput input question l p.goal) (sym e)
    (subst (λ j. IsGoalOfInput input question ds j) (sym f) asked)))
