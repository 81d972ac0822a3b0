use Rattle.command_answers.proofs.Texts.{has_text, said_by}
use Rattle.command_answers.proofs.first_order.searches.FirstOrderProver.answer_to_problem.Goals as goal

pub answer_to_proved-requires : goal.answer_to_proved-requires
answer_to_proved-requires c =
    has_text c.args.problem.now c.in_ok-proved.proved c.requires.question c.requires.writable
    c.in_ok-proved.ensures.proved

pub returns-clause-said : goal.returns-clause-said
returns-clause-said c =
    let found = c.in_ok-proved.ensures in
    let text = has_text c.args.problem.now c.in_ok-proved.proved c.requires.question c.requires.writable found.proved in
    said_by c.args.self.now.depth c.args.problem.now c.in_ok-proved.proved c.answer_to_proved.result
    (record { outcome = found.outcome; proof = found.proved; text = text })
    c.answer_to_proved.ensures.status c.answer_to_proved.ensures.text
