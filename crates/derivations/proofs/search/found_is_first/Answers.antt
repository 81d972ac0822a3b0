use Rattle.derivations.proofs.Firsts.{first_found}
use Rattle.derivations.proofs.search.found_is_first.Goals as goal

pub returns : goal.returns
returns g c s most depth d h = first_found s most 1 depth d h
