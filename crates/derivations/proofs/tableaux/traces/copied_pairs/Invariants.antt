use Rattle.std.proofs.Common.{◌≡◌, ◌++◌, drop}
use Rattle.derivations.proofs.tableaux.traces.copied_pairs.Given as goal

abbrev pub invariant-loop-pair : goal.invariant-loop-pair
invariant-loop-pair l = l.copies.items ++ drop l.pair-index l.pairs ≡ l.pairs
