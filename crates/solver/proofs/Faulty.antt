-- A run that is as its file tells shows that the claim of its problem does not hold.
use Rattle.std.proofs.Common.{◌≡◌, ℕ, ◌<◌, List, Option, Some, None, subst, sym, arith}
use Rattle.std.specs.Prelude.{MatchOption}
use Rattle.heap_formula.specs.declared.commands.Command.{Command}
use Rattle.heap_formula.specs.declared.judgements.Judgement.{Judgement}
use Rattle.heap_formula.specs.Cells.{Cells, no_cells}
use Rattle.heap_formula.specs.Definitions.{Definition}
use Rattle.heap_formula.specs.Judgements.{JudgementHolds}
use Rattle.heap_formula.specs.Meaning.{Satisfies}
use Rattle.heap_formula.specs.Programs.{TerminationHolds}
use Rattle.heap_formula.proofs.Unions.{union_empty}
use Rattle.formula_reader.specs.declared.problem.Problem.{Problem}
use Rattle.run_file.specs.Runs.{IsRunFor}
use Rattle.general_models.specs.declared.runs.picks.Pick.{Pick}
use Rattle.general_models.specs.declared.runs.refuting.Ending.{Ending}
use Rattle.general_models.specs.declared.runs.refuting.Ending.TheVariants.{FaultAfter, Repeat, Grow}
use Rattle.general_models.specs.Refuting.{IsRefuting}
use Rattle.general_models.specs.Picks.{headroom_of}
use Rattle.general_models.proofs.Halting.{no_termination}
use Rattle.run_file.specs.declared.file.RunFile.{RunFile}
use Rattle.run_file.specs.declared.tree.Outcome.{Outcome}
use Rattle.run_file.specs.declared.tree.Outcome.TheVariants.{Faults, Repeats, Grows, Breaks}
use Rattle.solver.specs.Runs.{EndsSo, IsRight, start_of}
use Rattle.solver.specs.Solutions.{Holds, IsFaultyRun}
use Rattle.solver.proofs.Broken.{broken_fails}

module _ (r : RunFile) (begins : Satisfies r.defs.list r.stack r.heap r.precondition) where
  positive : 0 < headroom_of r.picks.items
  positive = omega arith

  never_halts : (ending : Ending)
      → IsRefuting r.program (headroom_of r.picks.items) r.picks.items (start_of r) ending
      → ¬ TerminationHolds r.defs.list r.program r.line r.precondition
  never_halts ending refuting =
      no_termination r.defs.list r.program r.line r.precondition r.stack r.heap r.heap (headroom_of r.picks.items)
      r.picks.items ending positive (no_cells, union_empty r.heap) begins refuting

  ends_otherwise : (outcome : Outcome)
      → EndsSo r.defs.list r.program (headroom_of r.picks.items) r.picks.items (start_of r) outcome
      → ¬ TerminationHolds r.defs.list r.program r.line r.precondition
  ends_otherwise (Faults line step) so = never_halts (FaultAfter step) so.0
  ends_otherwise (Repeats first again) so = never_halts (Repeat first again) so
  ends_otherwise (Grows growth) so = never_halts (Grow growth) so
  ends_otherwise (Breaks step) so =
      broken_fails r.defs.list r.program r.line r.precondition r.stack r.heap (headroom_of r.picks.items)
      r.picks.items step positive begins so

right_fails : (r : RunFile) → IsRight r → ¬ TerminationHolds r.defs.list r.program r.line r.precondition
right_fails r right = ends_otherwise r right.begins r.outcome right.run

module _ (p : Problem) (s : List ℕ) (h : Cells) (ps : List Pick) (o : Outcome) (r : RunFile) where
  goal_fails : IsRunFor p s h ps o r → IsRight r → ¬ Holds p
  goal_fails is right holds =
      let claimed : TerminationHolds p.defs.list p.program r.line r.precondition = subst
      (λ (j : Judgement). JudgementHolds p.defs.list p.program j) is.goal holds in
      right_fails r right
      (subst (λ (ds : List Definition). TerminationHolds ds r.program r.line r.precondition) (sym is.definitions)
      (subst (λ (lines : List Command). TerminationHolds p.defs.list lines r.line r.precondition) (sym is.program)
      claimed))

  pub faulty_run : (A : Type 0) (found : Option RunFile) → found ≡ Some r → MatchOption found A (IsRunFor p s h ps o)
      → IsRight r → IsFaultyRun p r
  faulty_run A found e told right =
      let is : IsRunFor p s h ps o r = subst (λ (x : Option RunFile). MatchOption x A (IsRunFor p s h ps o)) e told in
      record {
        definitions = is.definitions;
        program = is.program;
        goal = is.goal;
        right = right;
        fails = goal_fails is right;
      }
