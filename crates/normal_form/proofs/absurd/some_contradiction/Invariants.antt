use Rattle.std.proofs.Common.{◌≡◌, drop}
use Rattle.rule_table.specs.Tests.{some_contradiction}
use Rattle.normal_form.proofs.absurd.some_contradiction.Given as goal

abbrev pub invariant-loop-atom : goal.invariant-loop-atom
invariant-loop-atom l = some_contradiction (drop l.atom-index l.atoms) ≡ some_contradiction l.atoms
