use Rattle.counter_model.proofs.Finish.{heap_leads}
use Rattle.counter_model.proofs.first_heaps.leading.Goals as goal

pub returns-in_ok-clone-clause-first : goal.returns-in_ok-clone-clause-first
returns-in_ok-clone-clause-first c = λ g k.
    heap_leads c.args.greatest c.args.leader c.args.heap.now c.in_ok-clone.field-0 g c.is_led.result c.is_led.ensures
    c.if-is_led.false c.in_ok-clone.ensures.cases
