use Rattle.std.proofs.Common.{◌≡◌, drop}
use Rattle.pair_family.specs.Equality.{digest_from, numbers_digest}
use Rattle.pair_family.proofs.states.digests.digest_of.Given as goal

abbrev pub invariant-loop-number : goal.invariant-loop-number
invariant-loop-number l = digest_from l.digest (drop l.number-index l.numbers) ≡ numbers_digest l.numbers
