-- Combinable is satisfiable; and not so for cells without fields.
use Rattle.pair_family.specs.Statements.{CombinableIsSatisfiable}
use Rattle.pair_family.proofs.Complete.{satisfied_combines}
use Rattle.pair_family.proofs.Realised.{combinable_satisfied}

pub combinable_is_satisfiable : CombinableIsSatisfiable
combinable_is_satisfiable ds a cases fields = (
  combinable_satisfied ds cases a fields,
  λ x.
      satisfied_combines ds x.0 x.1 a x.2,
)
