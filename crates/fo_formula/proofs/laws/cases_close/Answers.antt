use Rattle.fo_formula.proofs.StageLaws.{least-IsClosed, least-opens}
use Rattle.fo_formula.proofs.laws.cases_close.Goals as goal

pub returns : goal.returns
returns c = λ t p vs. (least-opens t p vs, least-IsClosed t p vs)
