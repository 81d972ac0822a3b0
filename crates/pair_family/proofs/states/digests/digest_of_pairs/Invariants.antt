use Rattle.std.proofs.Common.{◌≡◌, drop}
use Rattle.pair_family.specs.Equality.{pairs_digest_from, pairs_digest}
use Rattle.pair_family.proofs.states.digests.digest_of_pairs.Given as goal

abbrev pub invariant-loop-pair : goal.invariant-loop-pair
invariant-loop-pair l = pairs_digest_from l.digest (drop l.pair-index l.pairs) ≡ pairs_digest l.pairs
