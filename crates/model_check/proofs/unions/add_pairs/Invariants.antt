use Rattle.std.proofs.Common.{ℕ, drop, ◌↔◌, ◌⊎◌}
use Rattle.model_check.specs.WideMasks.{number, HoldsMask}
use Rattle.model_check.specs.Tables.{JoinsOne}
use Rattle.model_check.proofs.unions.add_pairs.Given as goal

abbrev pub invariant-loop-rest : goal.invariant-loop-rest
invariant-loop-rest l = (m : ℕ) → (HoldsMask m l.out ⊎ JoinsOne (number l.part) (drop l.rest-index l.others) m)
    ↔ (HoldsMask m l.initial.out ⊎ JoinsOne (number l.part) l.others m)
