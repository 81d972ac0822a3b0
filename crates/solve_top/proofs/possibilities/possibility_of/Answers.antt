use Rattle.std.proofs.Common.{sym, subst}
use Rattle.solve_top.specs.Possibilities.{IsKnown}
use Rattle.solve_top.proofs.ScriptLaws.{known_possible, known_impossible}
use Rattle.solve_top.proofs.possibilities.possibility_of.Goals as goal
use Rattle.solve_top.proofs.possibilities.possibility_of.Goals.{in-Success, in-Refused, in_default}

pub returns : goal.returns
returns c = elim c.match-answer.branch [
  | in-Success w ↦
      subst (IsKnown c.args.problem.now) (sym w.result-is)
      (known_possible c.args.problem.now c.in_ok-answer.answer.text.items c.in_ok-answer.answer.status
      c.in_ok-answer.ensures.answered w.in-Success.is)
  | in-Refused w ↦
      subst (IsKnown c.args.problem.now) (sym w.result-is)
      (known_impossible c.args.problem.now c.in_ok-answer.answer.text.items c.in_ok-answer.answer.status
      c.in_ok-answer.ensures.answered w.in-Refused.is)
  | in_default w ↦ subst (IsKnown c.args.problem.now) (sym w.result-is) tt
]
