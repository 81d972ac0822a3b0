use Rattle.std.proofs.Common.{ℕ, drop, ◌⊎◌}
use Rattle.cyc_basics.specs.Words.{IsMember}
use Rattle.model_check.proofs.satisfaction.places_of.Given as goal

abbrev pub invariant-loop-address : goal.invariant-loop-address
invariant-loop-address l = (a : ℕ) → IsMember a l.addresses
    → IsMember a l.places.keys ⊎ IsMember a (drop l.address-index l.addresses)
