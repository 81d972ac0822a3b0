use Rattle.counter_model.proofs.Finish.{stack_leads}
use Rattle.counter_model.proofs.first_stacks.leading.Goals as goal

pub returns-in_ok-stack-in-Some-clause-first : goal.returns-in_ok-stack-in-Some-clause-first
returns-in_ok-stack-in-Some-clause-first c = λ t g w k.
    stack_leads c.args.leader c.args.stack.now c.in_ok-stack-in-Some.stack t c.is_led.result c.is_led.ensures
    c.if-is_led.false c.in_ok-stack-in-Some.ensures.cases
