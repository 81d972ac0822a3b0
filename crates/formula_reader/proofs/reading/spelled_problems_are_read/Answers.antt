use Rattle.problem_syntax.proofs.ProblemLaws.{problem-law}
use Rattle.heap_reader.proofs.Readings.{again}
use Rattle.formula_reader.specs.Reading.{AreSame, problems}
use Rattle.formula_reader.proofs.Readings.{one_problem}
use Rattle.formula_reader.proofs.reading.spelled_problems_are_read.Goals as goal

pub returns : goal.returns
returns c = again problems problem-law AreSame one_problem
