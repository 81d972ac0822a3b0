use Rattle.back_links.specs.Outlook.{AreForced}
use Rattle.back_links.proofs.outlook.forced_pairs.Given as goal

abbrev pub invariant-loop-n : goal.invariant-loop-n
invariant-loop-n l = AreForced l.search l.places l.pairs.items
