use Rattle.std.proofs.Common.{sym, subst}
use Rattle.solve_top.specs.Possibilities.{IsKnownFor}
use Rattle.solve_top.specs.Answers.{IsSolvedScript}
use Rattle.solve_top.proofs.ScriptLaws.{solved_possible, solved_impossible}
use Rattle.solve_top.proofs.scripts.answer_to_known.Goals as goal
use Rattle.solve_top.proofs.scripts.answer_to_known.Goals.{in-Possible+in_ok-told-in-Possible}
use Rattle.solve_top.proofs.scripts.answer_to_known.Goals.{in-Impossible+in_ok-told-in-Impossible}

pub returns-clause-said : goal.returns-clause-said
returns-clause-said c input p is asked = elim c.match-known.branch [
  | in-Possible+in_ok-told-in-Possible w ↦
      subst (λ s. IsSolvedScript input s.0 s.1.items) (sym w.status-is)
      (solved_possible input c.args.question p c.args.problem.now w.in_ok-told-in-Possible.field-0.items is asked
      (subst (IsKnownFor c.args.question c.args.problem.now) w.in-Possible.is c.requires)
      w.in_ok-told-in-Possible.ensures)
  | in-Impossible+in_ok-told-in-Impossible w ↦
      subst (λ s. IsSolvedScript input s.0 s.1.items) (sym w.status-is)
      (solved_impossible input c.args.question p c.args.problem.now w.in_ok-told-in-Impossible.field-0.items is asked
      (subst (IsKnownFor c.args.question c.args.problem.now) w.in-Impossible.is c.requires)
      w.in_ok-told-in-Impossible.ensures)
]
