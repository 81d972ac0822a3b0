use Rattle.std.proofs.Common.{◌≡◌, drop}
use Rattle.fo_formula.specs.Tests.{has_variable}
use Rattle.fo_rules.proofs.parts.tests.has_variable.Given as goal

abbrev pub invariant-loop-sign : goal.invariant-loop-sign
invariant-loop-sign l = has_variable l.n (drop l.sign-index l.word) ≡ has_variable l.n l.word
