use Rattle.std.proofs.Common.{◌≡◌, drop}
use Rattle.std.specs.Prelude.{nat_eq}
use Rattle.std.specs.List.{list_any}
use Rattle.pair_family.proofs.states.labels.has_label.Given as goal

abbrev pub invariant-loop-other : goal.invariant-loop-other
invariant-loop-other l = list_any (λ c. nat_eq c l.label) (drop l.other-index l.labels)
    ≡ list_any (λ c. nat_eq c l.label) l.labels
