use Rattle.std.proofs.Common.{◌≡◌, map, take, length}
use Rattle.script_formulas.proofs.goals.translation.fields_of.Given as goal

abbrev pub invariant-loop-constructor : goal.invariant-loop-constructor
invariant-loop-constructor l = l.fields.items
    ≡ map (λ c. length c.fields.items) (take l.constructor-index l.constructor-items)
