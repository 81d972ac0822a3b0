use Rattle.formula_reader.proofs.Within.{problem_keeps}
use Rattle.formula_reader.proofs.files.laws.problem_is_within.Goals as goal

pub returns-clause-definitions : goal.returns-clause-definitions
returns-clause-definitions c = (problem_keeps c.args._problem.now).definitions

pub returns-clause-program : goal.returns-clause-program
returns-clause-program c = (problem_keeps c.args._problem.now).program

pub returns-clause-ends : goal.returns-clause-ends
returns-clause-ends c = (problem_keeps c.args._problem.now).ends

pub returns-clause-goal : goal.returns-clause-goal
returns-clause-goal c = (problem_keeps c.args._problem.now).goal
