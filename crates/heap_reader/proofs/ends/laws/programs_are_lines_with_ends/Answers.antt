use Rattle.heap_reader.proofs.EndsAgain.{together}
use Rattle.heap_reader.proofs.ends.laws.programs_are_lines_with_ends.Goals as goal

pub returns : goal.returns
returns c = together 0
