use Rattle.solve_top.proofs.NoteLaws.{name-line}
use Rattle.solve_top.proofs.explanations.parts.push_name.Goals as goal

pub returns-clause-fits : goal.returns-clause-fits
returns-clause-fits c = name-line c.args.name.now c.utf8.name
