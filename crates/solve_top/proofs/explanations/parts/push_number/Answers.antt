use Rattle.std.proofs.Common.{arith}
use Rattle.solve_top.proofs.NoteLaws.{number-line}
use Rattle.solve_top.proofs.explanations.parts.push_number.Goals as goal

pub returns-clause-fits : goal.returns-clause-fits
returns-clause-fits c = number-line c.args.n (omega (arith, c.ranges.n))
