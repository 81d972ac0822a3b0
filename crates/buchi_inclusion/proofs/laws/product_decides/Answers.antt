-- Lassos against bad cycles.
use Rattle.buchi_inclusion.proofs.Exact.{exact}
use Rattle.buchi_inclusion.proofs.laws.product_decides.Goals as goal

pub returns : goal.returns
returns c = exact
