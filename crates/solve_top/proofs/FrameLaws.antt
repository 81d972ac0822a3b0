-- What is said of questions for frames.
use Rattle.std.proofs.Common.{◌≡◌, ◌∙◌, ap, List, [], ◌∷◌, ℕ, Option, Some, None, subst, sym}
use Rattle.std.specs.Prelude.{Result, Ok, Err, IfOk}
use Rattle.heap_formula.specs.declared.judgements.Judgement.{Judgement}
use Rattle.heap_formula.specs.declared.judgements.Judgement.TheVariants.{Entail}
use Rattle.heap_formula.specs.Cells.{Cells, IsPart}
use Rattle.heap_formula.specs.Definitions.{Definition}
use Rattle.heap_formula.specs.Judgements.{JudgementHolds, antecedent}
use Rattle.heap_formula.specs.Meaning.{EntailmentHolds, Satisfies}
use Rattle.heap_formula.specs.Symbolic.{SymbolicHeap}
use Rattle.heap_formula.specs.Values.{Stack}
use Rattle.counter_model.specs.Files.{IsFileFor, IsModelFor}
use Rattle.model_check.proofs.Parts.{front_satisfies}
use Rattle.model_check.proofs.Rounds.{each_one, some_of}
use Rattle.model_file.specs.declared.file.Model.{Model}
use Rattle.model_file.specs.Versions.{version_for}
use Rattle.solver.specs.Solutions.{Holds}
use Rattle.solve_top.specs.Frames.{HasNoFrame, IsFrameOf, IsFrameless, IsJoined, IsSoughtModel}
use Rattle.pair_family.specs.Statements.{IsSatisfiable}
use Rattle.formula_reader.specs.declared.problem.Problem.{Problem}
use Rattle.formula_reader.specs.Reading as problems
use Rattle.command_answers.specs.Answers.{IsPossible}
use Rattle.command_answers.proofs.Readings.{one_problem_reading}
use Rattle.solve_top.specs.declared.possibilities.Possibility.{Possibility}
use Rattle.solve_top.specs.declared.possibilities.Possibility.TheVariants.{Possible, Impossible, Unknown}
use Rattle.solve_top.specs.Possibilities.{IsKnown, IsKnownOf}

same_possible : (p q : Problem) → problems.AreSame p q → IsPossible p → IsPossible q
same_possible p q same is =
    subst (λ ds. IsSatisfiable ds (antecedent q.goal)) same.definitions
    (subst (λ j. IsSatisfiable p.defs.list (antecedent j)) same.goal is)

-- what is known of a text is known of the problem that was read of it
known_of : (text : List ℕ) (p : Problem) (known : Possibility) → problems.IsRead text (Ok p) → IsKnown text known
    → IsKnownOf p known
known_of text p Possible is known =
    same_possible known.0 p (one_problem_reading text (Ok known.0) (Ok p) known.1 is) known.2
known_of text p Impossible is known =
    λ possible. known.2 (same_possible p known.0 (one_problem_reading text (Ok p) (Ok known.0) is known.1) possible)
known_of text p Unknown is known = tt

pub answer_known : {E : Type 0} (text : List ℕ) (p : Problem) (r : Result Possibility E) → problems.IsRead text (Ok p)
    → IfOk r (IsKnown text) → IfOk r (IsKnownOf p)
answer_known text p (Ok known) is h = known_of text p known is h
answer_known text p (Err e) is h = tt

-- ---- where there is no frame

-- no problem with a frame in its goal has a goal that holds
pub no_frame_holds : (p : Problem) (m : Model) → HasNoFrame p m → (framed : Problem) → IsFrameOf p framed
    → ¬ Holds framed
no_frame_holds p m none framed is holds =
    let ds = p.defs.list in
    let g = is.goal in
    let same : Entail g.antecedent (g.asked ∷ []) ≡ Entail m.ask (none.asked ∷ []) = sym g.is_question ∙ none.goal in
    let left : g.antecedent ≡ m.ask = cc in
    let right : g.asked ≡ none.asked = cc in
    let entails : EntailmentHolds ds g.antecedent g.disjuncts =
    subst (λ (xs : List Definition). EntailmentHolds xs g.antecedent g.disjuncts) is.definitions
    (subst (λ (j : Judgement). JudgementHolds framed.defs.list framed.program j) g.is_framed holds) in
    let held = entails m.stack m.heap
    (subst (λ (x : SymbolicHeap). Satisfies ds m.stack m.heap x) (sym left) none.antecedent) in
    let whole = some_of (λ w. IsJoined g.asked w × Satisfies ds m.stack m.heap w) g.disjuncts
    (each_one (IsJoined g.asked) (Satisfies ds m.stack m.heap) g.disjuncts g.joined held) in
    let part = front_satisfies ds m.stack m.heap g.asked whole.1.0.frame
    (subst (λ (x : SymbolicHeap). Satisfies ds m.stack m.heap x) whole.1.0.is whole.1.1) in
    none.none part.0 part.1 (subst (λ (x : SymbolicHeap). Satisfies ds m.stack part.0 x) right part.2)

-- something satisfies the antecedent
pub no_frame_possible : (p : Problem) (m : Model) → HasNoFrame p m → IsPossible p
no_frame_possible p m none = (
  m.stack,
  m.heap,
  subst (λ (x : SymbolicHeap). Satisfies p.defs.list m.stack m.heap x) (sym (ap antecedent none.goal)) none.antecedent,
)

pub same_no_frame : (p q : Problem) → problems.AreSame p q → (m : Model) → HasNoFrame p m → HasNoFrame q m
same_no_frame p q same m none = record {
  version = none.version ∙ ap version_for same.version;
  definitions = none.definitions ∙ same.definitions;
  asked = none.asked;
  goal = sym same.goal ∙ none.goal;
  antecedent = subst (λ (ds : List Definition). Satisfies ds m.stack m.heap m.ask) same.definitions none.antecedent;
  none = subst (λ (ds : List Definition). (part : Cells) → IsPart part m.heap → ¬ Satisfies ds m.stack part none.asked)
      same.definitions none.none;
}

-- ---- a stack and a heap that show it, as a model file has them

module _ (p : Problem) (a b : SymbolicHeap) (bs : List SymbolicHeap) (s : Stack) (h : Cells)
    (goal : p.goal ≡ Entail a bs) (asked : bs ≡ b ∷ []) (frameless : IsFrameless p.defs.list a b s h) where
  no_frame : (m : Model) → IsFileFor p a s h m → HasNoFrame p m
  no_frame m is = record {
    version = is.version;
    definitions = is.definitions;
    asked = b;
    goal = subst (λ (x : SymbolicHeap). p.goal ≡ Entail x (b ∷ [])) (sym is.ask) (goal ∙ ap (Entail a) asked);
    antecedent =
        subst (λ (x : SymbolicHeap). Satisfies p.defs.list m.stack m.heap x) (sym is.ask)
        (subst (λ (x : Stack). Satisfies p.defs.list x m.heap a) (sym is.stack)
        (subst (λ (x : Cells). Satisfies p.defs.list s x a) (sym is.heap) frameless.antecedent));
    none = λ part within held.
        frameless.none (
          part,
          subst (λ (x : Cells). IsPart part x) is.heap within,
          subst (λ (x : Stack). Satisfies p.defs.list x part b) is.stack held,
        );
  }

  sought : (o : Option Model) → IsModelFor p a s h o → IsSoughtModel p o
  sought (Some m) is = no_frame m is
  sought None is = tt

  pub frameless_file : {E : Type 0} (r : Result (Option Model) E) → IfOk r (IsModelFor p a s h)
      → IfOk r (IsSoughtModel p)
  frameless_file (Ok o) is = sought o is
  frameless_file (Err e) is = tt
