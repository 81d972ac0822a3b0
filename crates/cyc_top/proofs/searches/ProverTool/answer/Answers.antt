use Rattle.cyc_top.proofs.Told.{searched_by}
use Rattle.cyc_top.proofs.searches.ProverTool.answer.Goals as goal

pub returns-in_ok-proved-in-Ok-clause-answered : goal.returns-in_ok-proved-in-Ok-clause-answered
returns-in_ok-proved-in-Ok-clause-answered c =
    searched_by c.args.self.now.depth c.args.input.now c.in-Ok.problem c.in_ok-proved-in-Ok.proved
    c.answer_to_proved.result
    c.requires c.in-Ok.ensures (c.in_ok-proved-in-Ok.ensures.outcome, c.in_ok-proved-in-Ok.ensures.proved)
    c.answer_to_proved.ensures.status c.answer_to_proved.ensures.text
