use Rattle.general_models.proofs.Halting.{named_allowed}
use Rattle.general_models.proofs.runs.laws.picks_are_allowed_under_their_headroom.Goals as goal

pub returns : goal.returns
returns c = named_allowed
