use Rattle.std.proofs.Common.{◌≡◌, drop}
use Rattle.fo_formula.specs.Table.{image}
use Rattle.fo_rules.proofs.parts.changes.term_of.Given as goal

abbrev pub invariant-loop-from : goal.invariant-loop-from
invariant-loop-from l = image (drop l.from-index l.pairs) l.n ≡ image l.pairs l.n
