use Rattle.std.proofs.Common.{◌≡◌, drop}
use Rattle.std.specs.Prelude.{◌↔◌}
use Rattle.heap_formula.specs.Words.{Each}
use Rattle.heap_formula.specs.Cells.{cell_at}
use Rattle.general_models.proofs.runs.comparing.agree_at_all.Given as goal

abbrev pub invariant-loop-address : goal.invariant-loop-address
invariant-loop-address l = Each (λ x. cell_at l.a x ≡ cell_at l.b x) l.addresses
    ↔ Each (λ x. cell_at l.a x ≡ cell_at l.b x) (drop l.address-index l.addresses)
