use Rattle.heap_formula.specs.Programs.{EndHolds}
use Rattle.heap_formula.proofs.EndLaws.{halts_alike}
use Rattle.heap_formula.proofs.laws.ends_alone_are_asked.Goals as goal

pub returns : goal.returns
returns c = λ ds rest other. halts_alike (EndHolds ds rest) (EndHolds ds other)
