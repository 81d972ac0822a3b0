use Rattle.pair_family.proofs.Exact.{combinable_is_satisfiable}
use Rattle.pair_family.proofs.laws.combinable_is_satisfiable.Goals as goal

pub returns : goal.returns
returns c = combinable_is_satisfiable
