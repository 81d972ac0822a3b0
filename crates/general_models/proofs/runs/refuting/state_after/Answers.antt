use Rattle.goto_lang.specs.States.{state_of}
use Rattle.general_models.proofs.RunEnds.{not_reached, reached}
use Rattle.general_models.proofs.runs.refuting.state_after.Goals as goal

pub returns-in-Ends : goal.returns-in-Ends
returns-in-Ends c =
    not_reached c.args.program.now c.args.w c.args.picks.now (state_of c.args.start.now)
    c.args.steps c.in_ok-end.end c.in_ok-end.ensures.answer c.in-Ends.field-0 c.in-Ends.field-1 c.in-Ends.is

pub returns-in-Reached : goal.returns-in-Reached
returns-in-Reached c =
    reached c.args.program.now c.args.w c.args.picks.now (state_of c.args.start.now)
    c.args.steps c.in_ok-end.end c.in_ok-end.ensures.answer c.in-Reached.config c.in-Reached.is
