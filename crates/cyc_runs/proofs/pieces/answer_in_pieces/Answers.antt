use Rattle.std.proofs.Common.{sym, subst}
use Rattle.cyc_runs.specs.Runs.{AnswersTold, IsAnswerOf}
use Rattle.cyc_runs.proofs.Fed.{fed_answers, past_answers}
use Rattle.cyc_runs.proofs.pieces.answer_in_pieces.Goals as goal
use Rattle.cyc_runs.proofs.pieces.answer_in_pieces.Goals.{in-Whole+in_ok-answer-in-Whole}
use Rattle.cyc_runs.proofs.pieces.answer_in_pieces.Goals.{in-TooLong+in_ok-answer-in-TooLong}

pub returns-clause-answered : goal.returns-clause-answered
returns-clause-answered g c = elim c.match-branch-3.branch [
  | in-Whole+in_ok-answer-in-Whole w ↦
      subst (λ a. AnswersTold (IsAnswerOf (g.T.PiecewiseTool.answers c.args.tool)) (g.S.Source.left c.args.src.now)
      a.status a.text.items) (sym w.answer-is)
      (let fed = rw w.in-Whole.is at c.in_ok-feed_all.ensures.fed in
      fed_answers _ _ _ _ _ _ _ fed.0 fed.2 w.in_ok-answer-in-Whole.ensures.answered)
  | in-TooLong+in_ok-answer-in-TooLong w ↦
      subst (λ a. AnswersTold (IsAnswerOf (g.T.PiecewiseTool.answers c.args.tool)) (g.S.Source.left c.args.src.now)
      a.status a.text.items) (sym w.answer-is)
      (let answer = w.in_ok-answer-in-TooLong.ensures in
      past_answers (g.T.PiecewiseTool.answers c.args.tool) _ _ _ _ (rw w.in-TooLong.is at c.in_ok-feed_all.ensures.fed)
      answer.0 answer.1)
]
