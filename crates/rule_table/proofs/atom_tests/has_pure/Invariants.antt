use Rattle.std.proofs.Common.{◌≡◌, drop}
use Rattle.rule_table.specs.Tests.{has_pure}
use Rattle.rule_table.proofs.atom_tests.has_pure.Given as goal

abbrev pub invariant-loop-y : goal.invariant-loop-y
invariant-loop-y l = has_pure (drop l.y-index l.atoms) l.x ≡ has_pure l.atoms l.x
