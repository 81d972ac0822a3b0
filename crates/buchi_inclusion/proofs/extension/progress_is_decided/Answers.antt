use Rattle.buchi_inclusion.proofs.Decide.{progress_decided}
use Rattle.buchi_inclusion.proofs.extension.progress_is_decided.Goals as goal

pub returns : goal.returns
returns c g is = progress_decided g is
