use Rattle.script_answers.proofs.Asking.{asked_goal}
use Rattle.script_answers.proofs.asked.asked_of_read.Goals as goal

pub returns-in-Ok : goal.returns-in-Ok
returns-in-Ok c =
    asked_goal c.args.input.now c.args.script.script c.in-Ok.asks c.in_ok-asked_script-in-Ok.field-0 c.requires.asked
    c.in-Ok.ensures c.in_ok-asked_script-in-Ok.ensures
