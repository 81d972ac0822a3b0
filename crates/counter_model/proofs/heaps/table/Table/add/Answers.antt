use Rattle.counter_model.proofs.Turns.{newly}
use Rattle.counter_model.proofs.heaps.table.Table.add.Goals as goal

pub returns-clause-new : goal.returns-clause-new
returns-clause-new c = λ _.
    newly c.args.greatest c.args.q c.args.self.now c.push.new.self c.in_ok-clone.field-0 c.args.heap.now
    c.heaps.result.now c.has_heap.result c.heaps.ensures c.has_heap.ensures.missed c.if-has_heap.false
    c.in_ok-push.ensures.heaps c.in_ok-clone.ensures.cases
