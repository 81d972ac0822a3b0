use Rattle.solver.proofs.Counters.{counter_file}
use Rattle.solver.proofs.counter_models.checked.Goals as goal

pub returns : goal.returns
returns c = counter_file c.args.problem.now c.args.antecedent.now c.args.disjuncts.now c.args.stack c.args.heap
    c.requires (c.in_ok-yes.ensures c.if-not-yes.false) c.model_for.result c.model_for.ensures
