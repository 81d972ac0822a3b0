-- No entry has anything, and a top entry may have all.
use Rattle.std.proofs.Common.{refl}
use Rattle.buchi_core.proofs.Left.{no_entries_left}
use Rattle.buchi_core.proofs.young.clear.Goals as goal

pub returns-clause-left : goal.returns-clause-left
returns-clause-left c = no_entries_left _ c.clear.ensures c.clear-2.ensures refl
