use Rattle.fo_search.proofs.Fairness.{first_order_fair}
use Rattle.fo_search.proofs.prover.begin.Goals as goal

pub new-requires-clause-fair : goal.new-requires-clause-fair
new-requires-clause-fair c = first_order_fair c.args.problem.now.theory
