use Rattle.buchi_inclusion.proofs.Number.{number_counted}
use Rattle.buchi_inclusion.proofs.extension.number_is_counted.Goals as goal

pub returns : goal.returns
returns c g limit is = number_counted g limit is
