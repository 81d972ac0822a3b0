use Rattle.fo_formula.proofs.Reading.{terms_apart}
use Rattle.fo_formula.proofs.laws.terms_are_read_in_one_way.Goals as goal

pub returns : goal.returns
returns c = terms_apart
