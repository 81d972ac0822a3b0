use Rattle.std.proofs.Common.{drop}
use Rattle.std.specs.Prelude.{◌↔◌}
use Rattle.heap_formula.specs.Words.{OneOf}
use Rattle.model_check.specs.WideMasks.{number}
use Rattle.model_check.specs.Ground.{Unions}
use Rattle.model_check.specs.Tables.{HasMask}
use Rattle.general_models.proofs.general.some_gives.Given as goal

abbrev pub invariant-loop-rule : goal.invariant-loop-rule
invariant-loop-rule l = OneOf (λ r. Unions (HasMask l.table) r.pieces (number l.whole)) l.rules
    ↔ OneOf (λ r. Unions (HasMask l.table) r.pieces (number l.whole)) (drop l.rule-index l.rules)
