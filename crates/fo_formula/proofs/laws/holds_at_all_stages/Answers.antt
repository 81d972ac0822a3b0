use Rattle.fo_formula.proofs.ValidityLaws.{holds-at_all}
use Rattle.fo_formula.proofs.laws.holds_at_all_stages.Goals as goal

pub returns : goal.returns
returns c = holds-at_all
