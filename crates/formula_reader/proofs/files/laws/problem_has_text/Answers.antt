use Rattle.formula_reader.proofs.Within.{problem_keeps}
use Rattle.formula_reader.proofs.FileTrees.{problem_fits, problem_flawless}
use Rattle.formula_reader.proofs.files.laws.problem_has_text.Goals as goal

pub returns-clause-fits : goal.returns-clause-fits
returns-clause-fits c = problem_fits c.args._problem.now

pub returns-clause-flawless : goal.returns-clause-flawless
returns-clause-flawless c = problem_flawless c.args._problem.now

pub returns-clause-goal : goal.returns-clause-goal
returns-clause-goal c = record {
  judgement = (problem_keeps c.args._problem.now).goal;
  reason = tt;
  numbers = tt;
  premises = tt;
}
