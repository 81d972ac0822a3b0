use Rattle.std.proofs.Common.{drop}
use Rattle.heap_formula.specs.Words.{Each}
use Rattle.rule_book.specs.Limits.{IsPairWithin}
use Rattle.solver.proofs.limits.rules.are_pairs_within.Given as goal

abbrev pub invariant-loop-pair : goal.invariant-loop-pair
invariant-loop-pair l = Each (IsPairWithin) (drop l.pair-index l.pairs) → Each (IsPairWithin) l.pairs
