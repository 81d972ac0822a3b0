use Rattle.std.proofs.Common.{◌≡◌, drop}
use Rattle.std.specs.Prelude.{nat_eq}
use Rattle.std.specs.List.{list_any}
use Rattle.sat_pairs.proofs.numbers.has_number.Given as goal

abbrev pub invariant-loop-other : goal.invariant-loop-other
invariant-loop-other l = list_any (λ c. nat_eq c l.number) (drop l.other-index l.numbers)
    ≡ list_any (λ c. nat_eq c l.number) l.numbers
