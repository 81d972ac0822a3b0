use Rattle.std.proofs.Common.{◌+◌, []}
use Rattle.derivations.proofs.Induction.{members_same}
use Rattle.derivations.proofs.search.nothing_deeper.Goals as goal

pub returns : goal.returns
returns g c s e h = members_same s e (e + 1) s.limit [] h
