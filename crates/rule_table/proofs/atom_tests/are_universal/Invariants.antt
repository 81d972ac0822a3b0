use Rattle.std.proofs.Common.{◌≡◌, drop}
use Rattle.rule_table.specs.Tests.{are_universal}
use Rattle.rule_table.proofs.atom_tests.are_universal.Given as goal

abbrev pub invariant-loop-term : goal.invariant-loop-term
invariant-loop-term l = are_universal (drop l.term-index l.terms) ≡ are_universal l.terms
