use Rattle.rule_book.proofs.Few.{premises_few}
use Rattle.rule_book.proofs.ReasonPremises.{premises_within}
use Rattle.rule_book.proofs.limits.premises_stay_within.Goals as goal

pub returns : goal.returns
returns c = record { within = premises_within; few = premises_few }
