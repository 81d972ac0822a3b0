use Rattle.std.proofs.Common.{ℕ, drop, ◌↔◌, ◌⊎◌}
use Rattle.model_check.specs.WideMasks.{HoldsMask}
use Rattle.model_check.specs.Tables.{JoinsSome}
use Rattle.model_check.proofs.unions.combine.Given as goal

abbrev pub invariant-loop-part : goal.invariant-loop-part
invariant-loop-part l = (m : ℕ) → (HoldsMask m l.out ⊎ JoinsSome (drop l.part-index l.parts) l.others m)
    ↔ JoinsSome l.parts l.others m
