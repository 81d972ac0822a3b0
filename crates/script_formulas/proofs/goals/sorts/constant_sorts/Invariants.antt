use Rattle.std.proofs.Common.{◌≡◌, map, take}
use Rattle.script_formulas.proofs.goals.sorts.constant_sorts.Given as goal

abbrev pub invariant-loop-constant : goal.invariant-loop-constant
invariant-loop-constant l = l.sorts.items ≡ map (λ c. c.sort) (take l.constant-index l.constant-items)
